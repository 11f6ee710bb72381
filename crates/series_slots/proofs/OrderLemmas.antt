-- The series in their order, and the first point of those after one.
use Rattle.std.proofs.Common.{◌≡◌, ℕ, ◌<◌, ℤ, List, [], ◌∷◌, map, refl, sym, ap, subst, ◌∙◌, inl, inr, Bool, true, false, cond, ◌||◌, arith}
use Rattle.std.specs.Prelude.{◌⊎◌, Option, Some, None, is_some, IsSome}
use Rattle.std.specs.List.{filter, list_any, AllByRecursion}
use Rattle.std.specs.List.Sorted.{IsStrictlySortedBy}
use Rattle.std.specs.FinMap as finite
use Rattle.std.specs.FinMap.{get-empty, get-insert, get-remove}
use Rattle.std.specs.Map.{keys_of, lookup}
use Rattle.std.specs.Ordering.{nat_cmp, ordering_then, is_eq, eq_by_cmp}
use Rattle.std.specs.Cmp.{tied_itself}
use Rattle.std.specs.declared.cmp.Ordering.{Ordering}
use Rattle.std.specs.declared.cmp.Ordering.TheVariants.{Less, Equal, Greater}
use Rattle.std.specs.declared.ops.Bound.TheVariants.{Excluded, Unbounded}
use Rattle.std.specs.BTreeMap.Range.{range_contains}
use Rattle.std.proofs.lemmas.Cmp.{ranked}
use Rattle.std.proofs.lemmas.List.Kept.{IsStrictlySortedBy-filter}
use Rattle.std.proofs.lemmas.Map.Views.{Contains-from_any, IsInRange-from_range_contains, range_contains-from_IsInRange}
use Rattle.m3_model.specs.Members.{IsIn}
use Rattle.m3_model.specs.Keys.{key_cmp}
use Rattle.m3_model.specs.declared.point.Key.{Key}
use Rattle.m3_model.proofs.Keyed.{equal_of}
use Rattle.series_slots.specs.declared.series_key.SeriesKey.{SeriesKey}
use Rattle.series_slots.specs.SeriesKeys.{series_cmp, series_cmp_total, series_eq, series_of, key_at}
use Rattle.series_slots.specs.Slots.{Slots, settled}
use Rattle.series_slots.specs.Points.{slot_in, points_of, value_of}
use Rattle.series_slots.specs.SeriesEntries.{SeriesEntries, slots_of}
use Rattle.series_slots.specs.Firsts.{HasNoneLater, IsFirstAt, IsFirstValue}
use Rattle.series_slots.specs.Above.{HasNoneAbove, IsFirstAbove, AreListed}
use Rattle.series_slots.proofs.HashLemmas.{flips_of}
use Rattle.series_slots.proofs.MoveLemmas.{IsIn-at, IsIn-filter, filter-IsIn}
use Rattle.series_slots.proofs.PointLemmas.{series_cmp-IsAntisymmetric, key_order, get-points}
use Rattle.series_slots.proofs.SeriesLemmas.{series_tie, placed_at}

-- ---- a set that has each of the series

pub none_listed : (has : SeriesKey → Bool) (es : SeriesEntries) → es ≡ [] → AreListed has es
none_listed has es none s some =
    let absent : finite.get (slots_of es) s ≡ None = ap (λ (xs : SeriesEntries). finite.get (slots_of xs) s) none ∙ get-empty series_cmp s in
    let wrong : false ≡ true = sym (ap is_some absent) ∙ some in
    cc

some_by_keys : (test : SeriesKey → Bool) (es : SeriesEntries) → is_some (lookup test es) ≡ list_any test (keys_of es)
some_by_keys test [] = refl
some_by_keys test (e ∷ es) = by (test e.0) (some_by_keys test es)
  where
    by : (b : Bool) → is_some (lookup test es) ≡ list_any test (keys_of es) → is_some (cond b (Some e.1) (lookup test es)) ≡ (b || list_any test (keys_of es))
    by true later = refl
    by false later = later

-- the same series stand
pub same_listed : (has : SeriesKey → Bool) (old new : SeriesEntries) → AreListed has old → keys_of new ≡ keys_of old → AreListed has new
same_listed has old new listed same s some =
    let now : is_some (lookup (series_eq s) new) ≡ true = sym (ap is_some (placed_at new s)) ∙ some in
    let was : is_some (lookup (series_eq s) old) ≡ true = some_by_keys (series_eq s) old ∙ ap (list_any (series_eq s)) (sym same) ∙ sym (some_by_keys (series_eq s) new) ∙ now in
    listed s (ap is_some (placed_at old s) ∙ was)

-- the set has one more
pub more_listed : (has now : SeriesKey → Bool) (es : SeriesEntries) (s : SeriesKey) → AreListed has es → ((q : SeriesKey) → now q ≡ cond (is_eq (series_cmp s q)) true (has q)) → AreListed now es
more_listed has now es s listed is q some = is q ∙ by (is_eq (series_cmp s q))
  where
    by : (b : Bool) → cond b true (has q) ≡ true
    by true = refl
    by false = listed q some

flipped : (q s : SeriesKey) → eq_by_cmp series_cmp q s ≡ is_eq (series_cmp s q)
flipped q s = series_tie q s ∙ flips_of series_cmp series_cmp_total series_eq series_tie q s ∙ sym (series_tie s q)

-- a series came that the set has too
pub come_listed : (has now : SeriesKey → Bool) (old new : SeriesEntries) (s : SeriesKey) (v : Slots) → AreListed has old → ((q : SeriesKey) → now q ≡ cond (is_eq (series_cmp s q)) true (has q))
    → slots_of new ≡ finite.insert (slots_of old) s v → AreListed now new
come_listed has now old new s v listed is mapped q some = is q ∙ by (is_eq (series_cmp s q)) (flipped q s)
  where
    by : (b : Bool) → eq_by_cmp series_cmp q s ≡ b → cond b true (has q) ≡ true
    by true e = refl
    by false e =
        let at : finite.get (slots_of new) q ≡ finite.get (slots_of old) q = ap (λ m. finite.get m q) mapped ∙ get-insert series_cmp_total (slots_of old) s v q ∙ ap (λ b. cond b (Some v) (finite.get (slots_of old) q)) e in
        listed q (sym (ap is_some at) ∙ some)

-- the set lost one that doesn't stand any more
pub less_listed : (has now : SeriesKey → Bool) (old new : SeriesEntries) (s : SeriesKey) → AreListed has old → ((q : SeriesKey) → now q ≡ cond (is_eq (series_cmp s q)) false (has q))
    → ((q : SeriesKey) → IsSome (finite.get (slots_of new) q) → IsSome (finite.get (slots_of old) q)) → finite.get (slots_of new) s ≡ None → AreListed now new
less_listed has now old new s listed is kept gone q some = is q ∙ by (is_eq (series_cmp s q)) refl
  where
    by : (b : Bool) → is_eq (series_cmp s q) ≡ b → cond b false (has q) ≡ true
    by true e =
        let same : s ≡ q = series_cmp-IsAntisymmetric s q (equal_of _ e) in
        let wrong : false ≡ true = sym (ap is_some (sym (ap (finite.get (slots_of new)) same) ∙ gone)) ∙ some in
        cc
    by false e = listed q (kept q some)

-- a series left, and the set has it no more
pub left_listed : (has now : SeriesKey → Bool) (old new : SeriesEntries) (s : SeriesKey) → AreListed has old → ((q : SeriesKey) → now q ≡ cond (is_eq (series_cmp s q)) false (has q))
    → slots_of new ≡ finite.remove (slots_of old) s → AreListed now new
left_listed has now old new s listed is mapped =
    less_listed has now old new s listed is (λ q some. kept q (eq_by_cmp series_cmp q s) (at q) some) (at s ∙ ap (λ b. cond b None (finite.get (slots_of old) s)) (ap is_eq (tied_itself series_cmp_total s)))
  where
    at : (q : SeriesKey) → finite.get (slots_of new) q ≡ cond (eq_by_cmp series_cmp q s) None (finite.get (slots_of old) q)
    at q = ap (λ m. finite.get m q) mapped ∙ get-remove series_cmp_total (slots_of old) s q

    kept : (q : SeriesKey) (b : Bool) → finite.get (slots_of new) q ≡ cond b None (finite.get (slots_of old) q) → IsSome (finite.get (slots_of new) q) → IsSome (finite.get (slots_of old) q)
    kept q true e some = let wrong : false ≡ true = sym (ap is_some e) ∙ some in cc
    kept q false e some = sym (ap is_some e) ∙ some

-- ---- the series after one, one after the other

-- where a series isn't there, it has no value
pub none_absent : (es : SeriesEntries) (s : SeriesKey) (low : ℕ) → finite.get (slots_of es) s ≡ None → HasNoneLater es s low
none_absent es s low none q le = ap (λ o. settled (slot_in o q)) none

pub first_value : (es : SeriesEntries) (position : ℕ) (s : SeriesKey) (t : ℕ) (v : ℤ) → IsFirstAt es position s 0 t v → IsFirstValue es s t v
first_value es position s t v h = record { value = h.value; first = λ q early. h.first q (omega arith) early }

-- these are left of the series after one, and those of them that went have no value
pub record IsAhead (es : SeriesEntries) (after : SeriesKey) (left : List SeriesKey) : Type 0 where
  pub sorted : IsStrictlySortedBy series_cmp left
  pub above : (s : SeriesKey) → IsIn left s → series_cmp after s ≡ Less
  pub has : (k : Key) (w : ℤ) → finite.get (points_of (slots_of es)) k ≡ Some w → series_cmp after (series_of k) ≡ Less → IsIn left (series_of k)

some_series_at : (o : Option Slots) (t : ℕ) (w : ℤ) → settled (slot_in o t) ≡ Some w → IsSome o
some_series_at None t w e = cc
some_series_at (Some slots) t w e = refl

same_series : (x y : SeriesKey) → eq_by_cmp series_cmp x y ≡ true → x ≡ y
same_series x y e = series_cmp-IsAntisymmetric x y (equal_of _ e)

-- at first all of them are left
pub all_ahead : (has : SeriesKey → Bool) (es : SeriesEntries) (after : SeriesKey) (keys : List SeriesKey) → AreListed has es → ((s : SeriesKey) → has s ≡ list_any (eq_by_cmp series_cmp s) keys)
    → IsStrictlySortedBy series_cmp keys → IsAhead es after (filter (range_contains series_cmp (Excluded after) Unbounded) keys)
all_ahead has es after keys listed is sorted = record {
  sorted = IsStrictlySortedBy-filter series_cmp (range_contains series_cmp (Excluded after) Unbounded) keys sorted;
  above = λ s m. (IsInRange-from_range_contains series_cmp_total (Excluded after) Unbounded s (IsIn-filter (range_contains series_cmp (Excluded after) Unbounded) keys s m).1).0;
  has = λ k w stands above.
      let s : SeriesKey = series_of k in
      let value : value_of (slots_of es) k ≡ Some w = sym (get-points (slots_of es) k) ∙ stands in
      let found = Contains-from_any {eq = eq_by_cmp series_cmp} same_series s keys (sym (is s) ∙ listed s (some_series_at (finite.get (slots_of es) s) k.t w value)) in
      let member : IsIn keys s = subst (IsIn keys) found.2 (IsIn-at keys found.0 s found.1) in
      filter-IsIn (range_contains series_cmp (Excluded after) Unbounded) keys s member (range_contains-from_IsInRange series_cmp_total (Excluded after) Unbounded s (above, tt));
}

-- the first of them has no value
pub one_gone : (es : SeriesEntries) (after x : SeriesKey) (left : List SeriesKey) → IsAhead es after (x ∷ left) → HasNoneLater es x 0 → IsAhead es after left
unfolding IsStrictlySortedBy
one_gone es after x left h none = record {
  sorted = h.sorted.1;
  above = λ s m. h.above s (inr m);
  has = λ k w stands above.
      elim (h.has k w stands above) as (λ _. IsIn left (series_of k)) [
        | inl e ↦
            let gone : value_of (slots_of es) k ≡ None = subst (λ (s : SeriesKey). value_of (slots_of es) (key_at s k.t) ≡ None) e (none k.t (omega arith)) in
            let wrong : None ≡ Some w = sym gone ∙ sym (get-points (slots_of es) k) ∙ stands in
            absurd (let not : false ≡ true = ap is_some wrong in cc)
        | inr m ↦ m
      ];
}

each_below : (x : SeriesKey) (left : List SeriesKey) (s : SeriesKey) → AllByRecursion (λ y. series_cmp x y ≡ Less) left → IsIn left s → series_cmp x s ≡ Less
each_below x [] s all m = absurd m
each_below x (y ∷ left) s all m = elim m as (λ _. series_cmp x s ≡ Less) [ inl e ↦ subst (λ z. series_cmp x z ≡ Less) e all.0 | inr r ↦ each_below x left s all.1 r ]

not_tied : (x : SeriesKey) → series_cmp x x ≡ Less → ⊥
not_tied x below = let tied : Less ≡ Equal = sym below ∙ tied_itself series_cmp_total x in cc

-- one below another is of a series below that of the other, or is of its series
pub less_then : (a b : Ordering) → ordering_then a b ≡ Less → (a ≡ Less) ⊎ ((a ≡ Equal) × (b ≡ Less))
less_then Less b e = inl refl
less_then Equal b e = inr (refl, e)
less_then Greater b e = cc

pub not_below_later : (x s : SeriesKey) (t u : ℕ) → series_cmp x s ≡ Less → key_cmp (key_at s t) (key_at x u) ≡ Less → ⊥
not_below_later x s t u later below =
    elim (less_then (series_cmp s x) (nat_cmp t u) (sym (key_order (key_at s t) (key_at x u)) ∙ below)) as (λ _. ⊥) [
      | inl less ↦ not_tied x (series_cmp_total.trans x s x later less)
      | inr tied ↦ not_tied x (subst (λ z. series_cmp x z ≡ Less) (series_cmp-IsAntisymmetric s x tied.0) later)
    ]

pub earlier : (x : SeriesKey) (t u : ℕ) → key_cmp (key_at x t) (key_at x u) ≡ Less → t < u
earlier x t u below =
    elim (less_then (series_cmp x x) (nat_cmp t u) (sym (key_order (key_at x t) (key_at x u)) ∙ below)) as (λ _. t < u) [
      | inl less ↦ absurd (not_tied x less)
      | inr tied ↦ ranked t u Less (sym tied.1)
    ]

-- the first of them has a value
pub one_found : (es : SeriesEntries) (after x : SeriesKey) (left : List SeriesKey) (t : ℕ) (v : ℤ) → IsAhead es after (x ∷ left) → IsFirstValue es x t v → IsFirstAbove (points_of (slots_of es)) after x t v
unfolding IsStrictlySortedBy
one_found es after x left t v h is = record {
  above = h.above x (inl refl);
  stands = get-points (slots_of es) (key_at x t) ∙ is.value;
  first = λ k w stands above below.
      elim (h.has k w stands above) as (λ _. ⊥) [
        | inl e ↦
            let early : k.t < t = earlier x k.t t (subst (λ (s : SeriesKey). key_cmp (key_at s k.t) (key_at x t) ≡ Less) (sym e) below) in
            let gone : value_of (slots_of es) k ≡ None = subst (λ (s : SeriesKey). value_of (slots_of es) (key_at s k.t) ≡ None) e (is.first k.t early) in
            let wrong : None ≡ Some w = sym gone ∙ sym (get-points (slots_of es) k) ∙ stands in
            let not : false ≡ true = ap is_some wrong in
            cc
        | inr m ↦ not_below_later x (series_of k) k.t t (each_below x left (series_of k) h.sorted.0 m) below
      ];
}

-- none of them has
pub none_above : (es : SeriesEntries) (after : SeriesKey) (left : List SeriesKey) → left ≡ [] → IsAhead es after left → HasNoneAbove (points_of (slots_of es)) after
none_above es after left none h k w stands above = subst (λ (xs : List SeriesKey). IsIn xs (series_of k)) none (h.has k w stands above)
