-- Points joined in two steps.
use Rattle.std.proofs.Common.{◌≡◌, ℕ, ◌+◌, ◌<◌, ◌≤◌, ℤ, List, [], ◌∷◌, ◌++◌, map, length, refl, sym, ap, ◌∙◌, subst, inl, inr, Bool, true, false, cond, not, arith}
use Rattle.std.specs.Prelude.{◌⊎◌, Option, Some, None, is_some, IsSome, int_lt, nat_eq, slice_get, drop}
use Rattle.std.specs.FinMap as finite
use Rattle.std.specs.FinMap.{get-insert, get-remove, same_map}
use Rattle.std.specs.Cmp.{tied_itself}
use Rattle.std.specs.Ordering.{eq_by_cmp, is_eq}
use Rattle.std.proofs.lemmas.Bool.{cases_lt, eqb-true, eq-eqb}
use Rattle.std.proofs.lemmas.Int.{ints}
use Rattle.m3_model.specs.Answers.{IsAnswer}
use Rattle.m3_model.specs.Contents.{Contents, raised, raised_at, higher, key_of}
use Rattle.m3_model.specs.Keys.{key_cmp, key_cmp_total}
use Rattle.m3_model.specs.Members.{IsIn}
use Rattle.m3_model.specs.Reads.{points_in}
use Rattle.m3_model.specs.declared.point.Key.{Key}
use Rattle.m3_model.specs.declared.point.Pick.TheVariants as pick
use Rattle.m3_model.specs.declared.point.Point.{Point}
use Rattle.m3_model.specs.declared.point.Series.{Series}
use Rattle.m3_model.proofs.Keyed.{key_cmp-IsAntisymmetric, equal_of}
use Rattle.series_slots.specs.declared.series_key.SeriesKey.{SeriesKey}
use Rattle.series_slots.specs.SeriesKeys.{series_of, key_at}
use Rattle.block_buffer.specs.Held.{InMemory}
use Rattle.block_buffer.specs.FirstOf.{HasNoneFrom, IsFirstOf}
use Rattle.block_buffer.specs.Joins.{joined}
use Rattle.block_buffer.specs.Taken.{settled_at, is_settled}
use Rattle.series_merge.proofs.JoinLemmas.{raised_twice, join_swap}
use Rattle.held_pages.specs.declared.rising.Rise.{Rise}
use Rattle.held_pages.specs.Rises.{AllStand, AreOfSeries, points_of}

-- ---- a point joined again, and one taken back

same_value : (v : ℤ) → higher (Some v) v ≡ v
same_value v = elim (int_lt v v) as (λ b. cond b v v ≡ v) [ true ↦ refl | false ↦ refl ]

pub raised_again : (c : Contents) (p : Point) → raised (raised c p) p ≡ raised c p
raised_again c p = raised_twice c p p.v ∙ ap (λ (z : ℤ). raised c (record p { v = z })) (same_value p.v)

-- a point that is joined before others is joined after them
pub raised_after : (c : Contents) (p : Point) (ps : List Point) → joined (raised c p) ps ≡ raised (joined c ps) p
raised_after c p ps = join_swap (p ∷ []) ps c

-- what joins the later ones alike joins all alike
pub joined_alike : (c d : Contents) (p : Point) (ps : List Point) → joined d ps ≡ joined c ps → joined (raised d p) ps ≡ joined (raised c p) ps
joined_alike c d p ps same = raised_after d p ps ∙ ap (λ (e : Contents). raised e p) same ∙ sym (raised_after c p ps)

pub joined_put : (c d : Contents) (p : Point) (ps : List Point) → joined d ps ≡ joined (raised c p) ps → joined (raised d p) ps ≡ joined (raised c p) ps
joined_put c d p ps same = joined_alike (raised c p) d p ps same ∙ ap (λ (e : Contents). joined e ps) (raised_again c p)

get-raised : (c : Contents) (p : Point) (q : Key) → finite.get (raised c p) q ≡ cond (eq_by_cmp key_cmp q (key_of p)) (Some (higher (finite.get c (key_of p)) p.v)) (finite.get c q)
get-raised c p q = get-insert key_cmp_total c (key_of p) (higher (finite.get c (key_of p)) p.v) q

pub raised_stays : (c : Contents) (p : Point) (k : Key) → IsSome (finite.get c k) → IsSome (finite.get (raised c p) k)
raised_stays c p k some = ap is_some (get-raised c p k) ∙ by (eq_by_cmp key_cmp k (key_of p))
  where
    by : (b : Bool) → is_some (cond b (Some (higher (finite.get c (key_of p)) p.v)) (finite.get c k)) ≡ true
    by true = refl
    by false = some

tied : (k : Key) → eq_by_cmp key_cmp k k ≡ true
tied k = ap is_eq (tied_itself key_cmp_total k)

get-raised_same : (c : Contents) (p : Point) → finite.get (raised c p) (key_of p) ≡ Some (higher (finite.get c (key_of p)) p.v)
get-raised_same c p = get-raised c p (key_of p) ∙ ap (λ b. cond b (Some (higher (finite.get c (key_of p)) p.v)) (finite.get c (key_of p))) (tied (key_of p))

pub raised_stands : (c : Contents) (p : Point) → IsSome (finite.get (raised c p) (key_of p))
raised_stands c p = ap is_some (get-raised_same c p)

removed : (c : Contents) (p : Point) → finite.get c (key_of p) ≡ None → finite.remove (raised c p) (key_of p) ≡ c
removed c p none =
    same_map key_cmp_total key_cmp-IsAntisymmetric (finite.remove (raised c p) (key_of p)) c (λ q.
    get-remove key_cmp_total (raised c p) (key_of p) q ∙ ap (λ o. cond (eq_by_cmp key_cmp q (key_of p)) None o) (get-raised c p q) ∙ by q (eq_by_cmp key_cmp q (key_of p)) refl)
  where
    by : (q : Key) (b : Bool) → eq_by_cmp key_cmp q (key_of p) ≡ b → cond b None (cond b (Some (higher (finite.get c (key_of p)) p.v)) (finite.get c q)) ≡ finite.get c q
    by q true e = sym (ap (finite.get c) (key_cmp-IsAntisymmetric q (key_of p) (equal_of _ e)) ∙ none)
    by q false e = refl

not_below : (v : ℤ) → int_lt v v ≡ false
not_below v = grind (arith, ints)

-- a point that came to a key at which none stood leaves again
pub taken_back : (c : Contents) (p : Point) → finite.get c (key_of p) ≡ None → settled_at (raised c p) p ≡ c
taken_back c p none =
    let stands : finite.get (raised c p) (key_of p) ≡ Some p.v = get-raised_same c p ∙ ap (λ o. Some (higher o p.v)) none in
    let test : is_settled (finite.get (raised c p) (key_of p)) p.v ≡ true = ap (λ o. is_settled o p.v) stands ∙ ap not (not_below p.v) in
    ap (λ b. cond b (finite.remove (raised c p) (key_of p)) (raised c p)) test ∙ removed c p none

-- ---- whether a point stands

pub stands_then : (c : Contents) (s : SeriesKey) (low t : ℕ) (v : ℤ) → IsFirstOf c s low t v → nat_eq t low ≡ is_some (finite.get c (key_at s low))
stands_then c s low t v h = by (nat_eq t low) refl
  where
    here : (u : ℕ) → u ≡ t → IsSome (finite.get c (key_at s u))
    here u e = ap is_some (ap (λ n. finite.get c (key_at s n)) e ∙ h.stands)

    later : nat_eq t low ≡ false → (low < t) ⊎ (t ≤ low) → false ≡ is_some (finite.get c (key_at s low))
    later e (inl less) = sym (ap is_some (h.first low (omega arith) less))
    later e (inr more) =
        let from = h.from in
        let same : t ≡ low = omega (arith, from, more) in
        let wrong : true ≡ false = sym (eq-eqb t low same) ∙ e in
        cc

    by : (b : Bool) → nat_eq t low ≡ b → b ≡ is_some (finite.get c (key_at s low))
    by true e = sym (here low (sym (eqb-true t low e)))
    by false e = later e (cases_lt low t)

pub none_stands : (c : Contents) (s : SeriesKey) (low : ℕ) → HasNoneFrom c s low → false ≡ is_some (finite.get c (key_at s low))
none_stands c s low none = sym (ap is_some (none low (omega arith)))

-- ---- what a read of one series at one time answers

pub answer_none : (c : Contents) (p : Point) → IsAnswer c (pick.One p.ns p.id) p.t (p.t + 1) [] → finite.get c (key_of p) ≡ None
answer_none c p h = by (finite.get c (key_of p)) refl
  where
    by : (o : Option ℤ) → finite.get c (key_of p) ≡ o → o ≡ None
    by None e = refl
    by (Some v) e = absurd (h.whole (record p { v = v }) (record { stands = e; matches = (refl, refl); in_range = (omega arith, omega arith) }))

first_of : (ns : ℕ) (s : Series) (rest : List Series) (u : ℕ) (w : ℤ) (more : List (ℕ × ℤ)) → s.points ≡ (u, w) ∷ more → IsIn (points_in ns (s ∷ rest)) (record { ns = ns; id = s.id; t = u; v = w })
first_of ns s rest u w more is =
    subst (λ (xs : List (ℕ × ℤ)). IsIn (map (λ (x : ℕ × ℤ). record { ns = ns; id = s.id; t = x.0; v = x.1 }) xs ++ points_in ns rest) (record { ns = ns; id = s.id; t = u; v = w })) (sym is) (inl refl)

pub answer_some : (c : Contents) (p : Point) (s : Series) (rest : List Series) (u : ℕ) (w : ℤ) (more : List (ℕ × ℤ)) → IsAnswer c (pick.One p.ns p.id) p.t (p.t + 1) (s ∷ rest) → s.points ≡ (u, w) ∷ more → finite.get c (key_of p) ≡ Some w
answer_some c p s rest u w more h is =
    let wanted = h.nothing_else (record { ns = p.ns; id = s.id; t = u; v = w }) (first_of p.ns s rest u w more is) in
    let low = wanted.in_range.0 in
    let high = wanted.in_range.1 in
    let time : u ≡ p.t = omega (arith, low, high) in
    sym (λ i. finite.get c (record { ns = p.ns; id = wanted.matches.1 i; t = time i })) ∙ wanted.stands

pub answer_empty : (c : Contents) (p : Point) (s : Series) (rest : List Series) → IsAnswer c (pick.One p.ns p.id) p.t (p.t + 1) (s ∷ rest) → s.points ≡ [] → ⊥
answer_empty c p s rest h is = let some = subst (λ (xs : List (ℕ × ℤ)). 0 < length xs) is (h.ordered.none_empty s (inl refl)) in omega (arith, some)

-- ---- one of the points after the other

pub none_of : {X : Type 0} (xs : List X) → length xs ≡ 0 → xs ≡ []
none_of [] e = refl
none_of (x ∷ xs) e = absurd (omega (arith, e))

pub all_of_none : (c : Contents) (rises : List Rise) → rises ≡ [] → AllStand c rises
all_of_none c rises none r m = absurd (subst (λ (xs : List Rise). IsIn xs r) none m)

pub all_of_more : (c : Contents) (rises later : List Rise) (first : Rise) → rises ≡ first ∷ later → IsSome (finite.get c (key_at first.series first.point.t)) → AllStand c later → AllStand c rises
all_of_more c rises later first is stands all r m = by (subst (λ (xs : List Rise). IsIn xs r) is m)
  where
    by : (first ≡ r) ⊎ IsIn later r → IsSome (finite.get c (key_at r.series r.point.t))
    by (inl e) = subst (λ (x : Rise). IsSome (finite.get c (key_at x.series x.point.t))) e stands
    by (inr n) = all r n

pub later_of_series : (rises later : List Rise) (first : Rise) → rises ≡ first ∷ later → AreOfSeries rises → AreOfSeries later
later_of_series rises later first is all r m = all r (subst (λ (xs : List Rise). IsIn xs r) (sym is) (inr m))

pub first_of_series : (rises later : List Rise) (first : Rise) → rises ≡ first ∷ later → AreOfSeries rises → first.series ≡ series_of (key_of first.point)
first_of_series rises later first is all = all first (subst (λ (xs : List Rise). IsIn xs first) (sym is) (inl refl))

pub later_stand : (c : Contents) (rises later : List Rise) (first : Rise) → rises ≡ first ∷ later → AllStand c rises → AllStand c later
later_stand c rises later first is all r m = all r (subst (λ (xs : List Rise). IsIn xs r) (sym is) (inr m))

pub first_stands : (c : Contents) (rises later : List Rise) (first : Rise) → rises ≡ first ∷ later → AllStand c rises → IsSome (finite.get c (key_at first.series first.point.t))
first_stands c rises later first is all = all first (subst (λ (xs : List Rise). IsIn xs first) (sym is) (inl refl))

-- the key of the first
pub its_key : (first : Rise) → first.series ≡ series_of (key_of first.point) → key_at first.series first.point.t ≡ key_of first.point
its_key first is = ap (λ (s : SeriesKey). key_at s first.point.t) is

-- where one stood, those behind join alike
pub same_skipped : (c d : Contents) (rises later : List Rise) (first : Rise) → rises ≡ first ∷ later → joined d (points_of later) ≡ joined c (points_of later) → joined d (points_of rises) ≡ joined c (points_of rises)
same_skipped c d rises later first is same =
    subst (λ (xs : List Rise). joined d (points_of xs) ≡ joined c (points_of xs)) (sym is) (joined_alike c d first.point (points_of later) same)

-- where it came, too
pub same_held : (c d : Contents) (rises later : List Rise) (first : Rise) → rises ≡ first ∷ later → joined d (points_of later) ≡ joined (raised c first.point) (points_of later) → joined d (points_of rises) ≡ joined c (points_of rises)
same_held c d rises later first is same =
    subst (λ (xs : List Rise). joined d (points_of xs) ≡ joined c (points_of xs)) (sym is) (joined_put c d first.point (points_of later) same)

pub is_none : (o : Option ℤ) → is_some o ≡ false → o ≡ None
is_none None e = refl
is_none (Some v) e = cc

-- a point for which there was room was put
pub put_then : (m room now : InMemory) (p : Point) → room ≡ record { points = m.points; room = Some (key_of p) } → now ≡ record { points = raised room.points p; room = None } → now ≡ record { points = raised m.points p; room = None }
put_then m room now p roomed is = is ∙ ap (λ (x : InMemory). let n : InMemory = record { points = raised x.points p; room = None } in n) roomed

-- and taken out again
pub taken_out : (m held now : InMemory) (first : Rise) → m.room ≡ None → first.series ≡ series_of (key_of first.point) → finite.get m.points (key_at first.series first.point.t) ≡ None → held ≡ record { points = raised m.points first.point; room = None }
    → now ≡ record { points = settled_at held.points (record { ns = first.series.ns; id = first.series.id; t = first.point.t; v = first.point.v }); room = None } → now ≡ m
taken_out m held now first rest series absent put is =
    let p : Point = first.point in
    let none : finite.get m.points (key_of p) ≡ None = subst (λ k. finite.get m.points k ≡ None) (its_key first series) absent in
    let same : record { ns = first.series.ns; id = first.series.id; t = p.t; v = p.v } ≡ p = ap (λ (s : SeriesKey). let q : Point = record { ns = s.ns; id = s.id; t = p.t; v = p.v } in q) series in
    is ∙ ap (λ (q : Point). let n : InMemory = record { points = settled_at held.points q; room = None } in n) same ∙ ap (λ (x : InMemory). let n : InMemory = record { points = settled_at x.points p; room = None } in n) put
    ∙ ap (λ (c : Contents). let n : InMemory = record { points = c; room = None } in n) (taken_back m.points p none) ∙ ap (λ (o : Option Key). let n : InMemory = record { points = m.points; room = o } in n) (sym rest)

pub stand_raised : (c : Contents) (k : Key) (v : ℤ) (rises : List Rise) → AllStand c rises → AllStand (raised_at c k v) rises
stand_raised c k v rises all r m = ap is_some (get-insert key_cmp_total c k (higher (finite.get c k) v) (key_at r.series r.point.t)) ∙ by (eq_by_cmp key_cmp (key_at r.series r.point.t) k)
  where
    by : (b : Bool) → is_some (cond b (Some (higher (finite.get c k) v)) (finite.get c (key_at r.series r.point.t))) ≡ true
    by true = refl
    by false = all r m

pub nothing_first : {X : Type 0} (xs : List X) → slice_get xs 0 ≡ None → xs ≡ []
nothing_first [] e = refl
nothing_first (x ∷ xs) e = cc

pub first_is : {X : Type 0} (xs : List X) (x : X) → slice_get xs 0 ≡ Some x → xs ≡ x ∷ drop 1 xs
first_is [] x e = cc
first_is (y ∷ xs) x e = let same : y ≡ x = cc in ap (λ z. z ∷ xs) same
