-- Steps of a walk over points.
use Rattle.std.proofs.Common.{◌≡◌, ℕ, zero, suc, ◌<◌, ◌≤◌, ℤ, List, [], ◌∷◌, ◌++◌, length, refl, sym, ap, ◌∙◌, subst, inl, inr, true, false, arith, length-append}
use Rattle.std.specs.Prelude.{◌↔◌, Option, Some, None, is_some}
use Rattle.std.specs.FinMap.{get}
use Rattle.std.specs.Cmp.{tied_itself}
use Rattle.std.specs.Cmp.Lexicographic.{slice_cmp}
use Rattle.std.specs.Ordering.{nat_cmp, ordering_then}
use Rattle.std.specs.declared.cmp.Ordering.TheVariants.{Less, Equal}
use Rattle.std.proofs.lemmas.Bool.Decides.{nat_tests}
use Rattle.std.proofs.lemmas.Cmp.{ranked}
use Rattle.m3_model.specs.Contents.{Contents, key_of}
use Rattle.m3_model.specs.Keys.{key_cmp}
use Rattle.m3_model.specs.declared.limits.TheConstants.{TIME_END}
use Rattle.m3_model.specs.declared.point.Key.{Key}
use Rattle.m3_model.specs.declared.point.Point.{Point}
use Rattle.series_slots.specs.declared.series_key.SeriesKey.{SeriesKey}
use Rattle.series_slots.specs.SeriesKeys.{series_cmp, series_cmp_total, series_of, key_at}
use Rattle.series_slots.specs.Above.{HasNoneAbove, IsFirstAbove}
use Rattle.series_slots.proofs.OrderLemmas.{less_then, not_below_later, earlier}
use Rattle.series_slots.proofs.PointLemmas.{series_cmp-IsAntisymmetric, key_order}
use Rattle.block_buffer.specs.FirstOf.{HasNoneFrom, IsFirstOf}
use Rattle.first_points.specs.Firsts.{IsPast, IsNext, AreFirst, last_key}
use Rattle.first_points.proofs.TurnLemmas.{last_push, turn_push}
use Rattle.held_pages.specs.Walks.{EndsInTime, IsTimeAfter, IsFrom, HasNoneOn, IsFirstOn, IsCursor, IsPartWalked}

-- ---- where a walk begins

below : (m n : ℕ) → m < n → nat_cmp m n ≡ Less
below m n less = grind (arith, nat_tests)

least : (ns : ℕ) (id : List ℕ) (t : ℕ) → IsFrom (record { ns = 0; id = [] }) 0 (record { ns = ns; id = id; t = t })
least zero [] t = inl (refl, omega arith)
least zero (x ∷ id) t = inr refl
least (suc ns) id t = inr (ap (λ o. ordering_then o (slice_cmp nat_cmp [] id)) (below 0 (suc ns) (omega arith)))

pub from_least : (c : Contents) → IsCursor c None (record { ns = 0; id = [] }) 0
from_least c k v stands = ((λ past. least k.ns k.id k.t), (λ from. tt))

-- above a key are the later times of its series, and the series after it
pub from_later : (a k : Key) (low : ℕ) → IsTimeAfter a.t low → k.t < TIME_END → IsPast (Some a) k ↔ IsFrom (series_of a) low k
from_later a k low is ends = (onward, back)
  where
    onward : key_cmp a k ≡ Less → IsFrom (series_of a) low k
    onward less =
        elim (less_then (series_cmp (series_of a) (series_of k)) (nat_cmp a.t k.t) (sym (key_order a k) ∙ less)) as (λ _. IsFrom (series_of a) low k) [
          | inl later ↦ inr later
          | inr tied ↦ inl (sym (series_cmp-IsAntisymmetric (series_of a) (series_of k) tied.0), (is k.t ends).1 (ranked a.t k.t Less (sym tied.1)))
        ]

    back : IsFrom (series_of a) low k → key_cmp a k ≡ Less
    back (inr later) = key_order a k ∙ ap (λ o. ordering_then o (nat_cmp a.t k.t)) later
    back (inl here) =
        let tied : series_cmp (series_of a) (series_of k) ≡ Equal = subst (λ (s : SeriesKey). series_cmp (series_of a) s ≡ Equal) (sym here.0) (tied_itself series_cmp_total (series_of a)) in
        key_order a k ∙ ap (λ o. ordering_then o (nat_cmp a.t k.t)) tied ∙ below a.t k.t ((is k.t ends).0 here.1)

pub begun : (c : Contents) (last : Option Key) (limit : ℕ) (s : SeriesKey) (low : ℕ) → IsCursor c last s low → IsPartWalked c last limit [] s low
begun c last limit s low at = record { in_turn = tt; few = omega arith; at = at }

-- ---- the first point from there on

absent : {o : Option ℤ} {v : ℤ} → o ≡ None → o ≡ Some v → ⊥
absent none some = let wrong : false ≡ true = ap is_some (sym none ∙ some) in cc

pub found_here : (c : Contents) (s : SeriesKey) (low t : ℕ) (v : ℤ) → IsFirstOf c s low t v → IsFirstOn c s low (record { ns = s.ns; id = s.id; t = t; v = v })
found_here c s low t v h = record {
  stands = h.stands;
  from = inl (refl, h.from);
  first = λ k w stands from less. by k w stands less from;
}
  where
    by : (k : Key) (w : ℤ) → get c k ≡ Some w → key_cmp k (key_at s t) ≡ Less → IsFrom s low k → ⊥
    by k w stands less (inr later) = not_below_later s (series_of k) k.t t later less
    by k w stands less (inl here) =
        let early : k.t < t = earlier s k.t t (subst (λ (q : SeriesKey). key_cmp (key_at q k.t) (key_at s t) ≡ Less) here.0 less) in
        absent (subst (λ (q : SeriesKey). get c (key_at q k.t) ≡ None) (sym here.0) (h.first k.t here.1 early)) stands

pub found_above : (c : Contents) (s later : SeriesKey) (low t : ℕ) (v : ℤ) → HasNoneFrom c s low → IsFirstAbove c s later t v → IsFirstOn c s low (record { ns = later.ns; id = later.id; t = t; v = v })
found_above c s later low t v none h = record {
  stands = h.stands;
  from = inr h.above;
  first = λ k w stands from less. by k w stands less from;
}
  where
    by : (k : Key) (w : ℤ) → get c k ≡ Some w → key_cmp k (key_at later t) ≡ Less → IsFrom s low k → ⊥
    by k w stands less (inr above) = h.first k w stands above less
    by k w stands less (inl here) = absent (subst (λ (q : SeriesKey). get c (key_at q k.t) ≡ None) (sym here.0) (none k.t here.1)) stands

pub none_on : (c : Contents) (s : SeriesKey) (low : ℕ) → HasNoneFrom c s low → HasNoneAbove c s → HasNoneOn c s low
none_on c s low none above k v stands from = by from
  where
    by : IsFrom s low k → ⊥
    by (inr later) = above k v stands later
    by (inl here) = absent (subst (λ (q : SeriesKey). get c (key_at q k.t) ≡ None) (sym here.0) (none k.t here.1)) stands

-- ---- a step

next_of : (c : Contents) (last : Option Key) (s : SeriesKey) (low : ℕ) (p : Point) → IsCursor c last s low → IsFirstOn c s low p → IsNext c last p
next_of c last s low p at h = record {
  stands = h.stands;
  past = (at (key_of p) p.v h.stands).1 h.from;
  first = λ k v stands past less. h.first k v stands ((at k v stands).0 past) less;
}

pub pushed : (c : Contents) (last : Option Key) (limit : ℕ) (points : List Point) (s : SeriesKey) (low : ℕ) (p : Point) (later : ℕ) → EndsInTime c → IsPartWalked c last limit points s low → length points < limit
    → IsFirstOn c s low p → IsTimeAfter p.t later → IsPartWalked c last limit (points ++ p ∷ []) (series_of (key_of p)) later
pushed c last limit points s low p later ends h few is time = record {
  in_turn = turn_push c last points p h.in_turn (next_of c (last_key last points) s low p h.at is);
  few = omega (arith, few, length-append points (p ∷ []));
  at = subst (λ (o : Option Key). IsCursor c o (series_of (key_of p)) later) (sym (last_push last points p)) (λ k v stands. from_later (key_of p) k later time (ends k v stands));
}

pub ended_full : (c : Contents) (last : Option Key) (limit : ℕ) (points : List Point) (s : SeriesKey) (low : ℕ) → IsPartWalked c last limit points s low → limit ≤ length points → AreFirst c last limit points
ended_full c last limit points s low h full = record { in_turn = h.in_turn; few = h.few; all = λ less. absurd (omega (arith, less, full)) }

pub ended_none : (c : Contents) (last : Option Key) (limit : ℕ) (points : List Point) (s : SeriesKey) (low : ℕ) → IsPartWalked c last limit points s low → HasNoneOn c s low → AreFirst c last limit points
ended_none c last limit points s low h none = record { in_turn = h.in_turn; few = h.few; all = λ less k v stands past. none k v stands ((h.at k v stands).0 past) }
