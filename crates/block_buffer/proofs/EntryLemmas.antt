-- What holds of each series with its slots, after one of them changed, came or left.
use Rattle.std.proofs.Common.{◌≡◌, ◌≢◌, ℕ, zero, suc, ◌+◌, ◌-◌, ◌<◌, ◌≤◌, ◌^◌, ℤ, [], ◌∷◌, ◌++◌, length, refl, sym, ap, subst, ◌∙◌, inl, inr, Bool, true, false, cond, arith}
use Rattle.std.specs.Prelude.{◌⊎◌, Option, Some, None, is_some, IsSome, slice_get, swap_remove}
use Rattle.std.specs.FinMap as map
use Rattle.std.specs.FinMap.{get-insert, get-remove, get-empty, nat_cmp-IsAntisymmetric}
use Rattle.std.specs.Cmp.{nat_cmp_total, tied_itself}
use Rattle.std.specs.Ordering.{nat_cmp, eq_by_cmp, is_eq}
use Rattle.std.proofs.lemmas.Option.{slice_get_within}
use Rattle.indexmap.specs.IndexMap.{set_value_at}
use Rattle.m3_model.proofs.Keyed.{equal_of}
use Rattle.series_slots.specs.declared.series_key.SeriesKey.{SeriesKey}
use Rattle.series_slots.specs.Slots.{Slots}
use Rattle.series_slots.specs.SeriesEntries.{SeriesEntries}
use Rattle.block_buffer.specs.AllSeries.{EachEntry, TimesFit, SpacesBelow}
use Rattle.block_buffer.proofs.PositionLemmas.{eq_or_not, last_or_other, swapped_here, swapped_there, swapped_within}

-- ---- the slots of a series at a time

pub some_inserted : (v : Slots) (t : ℕ) (x : Option ℤ) → IsSome (map.get (map.insert v t x) t)
some_inserted v t x = ap is_some (get-insert nat_cmp_total v t x t ∙ ap (λ b. cond b (Some x) (map.get v t)) (ap is_eq (tied_itself nat_cmp_total t)))

pub some_before : (v : Slots) (t : ℕ) (x : Option ℤ) (q : ℕ) → IsSome (map.get (map.insert v t x) q) → (q ≡ t) ⊎ IsSome (map.get v q)
some_before v t x q h = by_test (eq_by_cmp nat_cmp q t) refl (sym (ap is_some (get-insert nat_cmp_total v t x q)) ∙ h)
  where
    by_test : (b : Bool) → eq_by_cmp nat_cmp q t ≡ b → is_some (cond b (Some x) (map.get v q)) ≡ true → (q ≡ t) ⊎ IsSome (map.get v q)
    by_test true e h = inl (nat_cmp-IsAntisymmetric q t (equal_of _ e))
    by_test false e h = inr h

pub still_some : (v : Slots) (t q : ℕ) → IsSome (map.get (map.remove v t) q) → IsSome (map.get v q)
still_some v t q h = by_test (eq_by_cmp nat_cmp q t) (sym (ap is_some (get-remove nat_cmp_total v t q)) ∙ h)
  where
    by_test : (b : Bool) → is_some (cond b None (map.get v q)) ≡ true → IsSome (map.get v q)
    by_test true h = cc
    by_test false h = h

-- ---- a series at its position

pub set_here : (es : SeriesEntries) (position : ℕ) (s : SeriesKey) (v w : Slots) → slice_get es position ≡ Some (s, v) → slice_get (set_value_at es position w) position ≡ Some (s, w)
set_here [] position s v w at = cc
set_here (e ∷ es) zero s v w at = let one : e ≡ (s, v) = cc in ap (λ (x : SeriesKey × Slots). Some (x.0, w)) one
set_here (e ∷ es) (suc position) s v w at = set_here es position s v w at

pub set_there : (es : SeriesEntries) (position : ℕ) (w : Slots) (p : ℕ) → p ≢ position → slice_get (set_value_at es position w) p ≡ slice_get es p
set_there [] position w p apart = refl
set_there (e ∷ es) zero w zero apart = absurd (apart refl)
set_there (e ∷ es) zero w (suc p) apart = refl
set_there (e ∷ es) (suc position) w zero apart = refl
set_there (e ∷ es) (suc position) w (suc p) apart = set_there es position w p (λ is. apart (ap suc is))

pub same_entry : (x y : SeriesKey × Slots) → Some x ≡ Some y → x ≡ y
same_entry x y e = cc

-- each position has a series
pub entry_at : (es : SeriesEntries) (position : ℕ) → position < length es → (s : SeriesKey) × (slots : Slots) × (slice_get es position ≡ Some (s, slots))
entry_at [] position h = absurd (omega (arith, h))
entry_at (e ∷ es) zero h = (e.0, e.1, refl)
entry_at (e ∷ es) (suc position) h = entry_at es position (omega (arith, h))

-- ---- what holds of each of them

module _ (P : SeriesKey × Slots → Type 0) (es : SeriesEntries) (h : EachEntry P es) where
  -- one got other slots
  each_set : (position : ℕ) (s : SeriesKey) (v w : Slots) → slice_get es position ≡ Some (s, v) → P (s, w) → EachEntry P (set_value_at es position w)
  each_set position s v w entry holds p e there = elim (eq_or_not p position) as (λ _. P e) [
    | inl is ↦ subst P (sym (same_entry _ _ (sym there ∙ ap (slice_get (set_value_at es position w)) is ∙ set_here es position s v w entry))) holds
    | inr apart ↦ h p e (sym (set_there es position w p apart) ∙ there)
  ]

  -- one left, and the last one took its place
  each_left : (position : ℕ) (x : SeriesKey × Slots) → slice_get es position ≡ Some x → EachEntry P (swap_remove es position x)
  each_left position x entry p e there =
      let below : position < length es = slice_get_within es position x entry in
      let within = swapped_within es position x below p e there in
      elim (eq_or_not p position) as (λ _. P e) [
        | inl is ↦ h (length es - 1) e (sym (swapped_here es position x below (subst (λ q. q + 1 < length es) is within)) ∙ ap (slice_get (swap_remove es position x)) (sym is) ∙ there)
        | inr apart ↦ h p e (sym (swapped_there es position x below p within apart) ∙ there)
      ]

  -- one came last
  each_added : (x : SeriesKey × Slots) → P x → EachEntry P (es ++ x ∷ [])
  each_added x holds p e there = elim (last_or_other es x p e there) as (λ _. P e) [ inl old ↦ h p e old | inr new ↦ subst P new.1 holds ]

-- ---- times

pub times_inserted : (es : SeriesEntries) (position : ℕ) (s : SeriesKey) (v : Slots) (t : ℕ) (x : Option ℤ) → slice_get es position ≡ Some (s, v) → t < 2 ^ 64 → TimesFit es → TimesFit (set_value_at es position (map.insert v t x))
times_inserted es position s v t x entry short h =
    each_set (λ e. (q : ℕ) → IsSome (map.get e.1 q) → q < 2 ^ 64) es h position s v (map.insert v t x) entry
    (λ q some. elim (some_before v t x q some) as (λ _. q < 2 ^ 64) [ inl is ↦ subst (λ n. n < 2 ^ 64) (sym is) short | inr before ↦ h position (s, v) entry q before ])

pub times_removed : (es : SeriesEntries) (position : ℕ) (s : SeriesKey) (v : Slots) (t : ℕ) → slice_get es position ≡ Some (s, v) → TimesFit es → TimesFit (set_value_at es position (map.remove v t))
times_removed es position s v t entry h =
    each_set (λ e. (q : ℕ) → IsSome (map.get e.1 q) → q < 2 ^ 64) es h position s v (map.remove v t) entry (λ q some. h position (s, v) entry q (still_some v t q some))

pub times_left : (es : SeriesEntries) (position : ℕ) (s : SeriesKey) (v : Slots) → slice_get es position ≡ Some (s, v) → TimesFit es → TimesFit (swap_remove es position (s, v))
times_left es position s v entry h = each_left (λ e. (q : ℕ) → IsSome (map.get e.1 q) → q < 2 ^ 64) es h position (s, v) entry

pub times_added : (es : SeriesEntries) (s : SeriesKey) → TimesFit es → TimesFit (es ++ (s, map.empty) ∷ [])
times_added es s h =
    each_added (λ e. (q : ℕ) → IsSome (map.get e.1 q) → q < 2 ^ 64) es h (s, map.empty)
    (λ q some. let wrong : false ≡ true = sym (ap is_some (get-empty {X = Option ℤ} nat_cmp q)) ∙ some in cc)

-- ---- namespaces

pub spaces_set : (spaces : ℕ) (es : SeriesEntries) (position : ℕ) (s : SeriesKey) (v w : Slots) → slice_get es position ≡ Some (s, v) → SpacesBelow spaces es → SpacesBelow spaces (set_value_at es position w)
spaces_set spaces es position s v w entry h = each_set (λ e. e.0.ns < spaces) es h position s v w entry (h position (s, v) entry)

pub spaces_left : (spaces : ℕ) (es : SeriesEntries) (position : ℕ) (s : SeriesKey) (v : Slots) → slice_get es position ≡ Some (s, v) → SpacesBelow spaces es → SpacesBelow spaces (swap_remove es position (s, v))
spaces_left spaces es position s v entry h = each_left (λ e. e.0.ns < spaces) es h position (s, v) entry

pub spaces_added : (spaces next : ℕ) (es : SeriesEntries) (s : SeriesKey) (v : Slots) → spaces ≤ next → s.ns < next → SpacesBelow spaces es → SpacesBelow next (es ++ (s, v) ∷ [])
spaces_added spaces next es s v rises low h =
    each_added (λ e. e.0.ns < next) es (λ p e there. let before = h p e there in omega (arith, before, rises)) (s, v) low
