-- Series at positions, after one changed.
use Rattle.std.proofs.Common.{◌≡◌, ◌<◌, ℕ, zero, suc, [], ◌∷◌, refl, sym, ap, subst, ◌∙◌, Bool, true, false, cond, ◌&&◌, length, IsPermutation, arith}
use Rattle.std.specs.Prelude.{Some, nat_eq, slice_get}
use Rattle.std.specs.FinMap as map
use Rattle.std.specs.FinMap.{entries}
use Rattle.std.specs.Map.{keys_of, values_of, lookup, lookup_key}
use Rattle.std.specs.List.{IsDistinct}
use Rattle.std.specs.Ordering.{nat_cmp, eq_by_cmp, is_eq}
use Rattle.std.specs.Cmp.{IsEquivalence}
use Rattle.std.specs.Cmp.Lexicographic.{slice_cmp, texts_ties}
use Rattle.std.proofs.lemmas.Bool.Decides.{nat_tests}
use Rattle.std.proofs.lemmas.Map.Entries.{lookup_from_place}
use Rattle.indexmap.specs.IndexMap.{IndexMap, with_value_at, set_value_at}
use Rattle.indexmap.proofs.CallerLemmas.{keys-with_value_at, updates-with_value_at}
use Rattle.m3_model.proofs.Keyed.{equal_of}
use Rattle.series_slots.specs.declared.series_key.SeriesKey.{SeriesKey}
use Rattle.series_slots.specs.SeriesKeys.{series_cmp, series_cmp_total, series_eq}
use Rattle.series_slots.specs.Slots.{Slots}
use Rattle.series_slots.specs.SeriesEntries.{SeriesEntries, slots_of}
use Rattle.series_slots.specs.Written.{IsWritten}
use Rattle.series_slots.proofs.HashLemmas.{equiv_of, found_at, entries_move, took}
use Rattle.series_slots.proofs.PointLemmas.{series_cmp-IsAntisymmetric, equal-then}

number_tie : (a b : ℕ) → is_eq (nat_cmp a b) ≡ nat_eq a b
number_tie a b = grind (arith, nat_tests)

-- series tie just where they are the same
pub series_tie : (x y : SeriesKey) → eq_by_cmp series_cmp x y ≡ series_eq x y
series_tie x y = equal-then (nat_cmp x.ns y.ns) (slice_cmp nat_cmp x.id y.id) ∙ (λ i. number_tie x.ns y.ns i && sym (texts_ties x.id y.id) i)

pub series_equiv : IsEquivalence series_eq
series_equiv = equiv_of series_cmp series_cmp_total series_eq series_tie

-- what the series have at a key, by their positions
pub placed_at : (es : SeriesEntries) (s : SeriesKey) → map.get (slots_of es) s ≡ lookup (series_eq s) es
placed_at es s = found_at series_cmp series_cmp_total series_eq series_tie es s

pub series_move : (es : SeriesEntries) → IsDistinct series_eq (keys_of es) → IsPermutation es (entries (slots_of es))
series_move es h = entries_move series_cmp series_cmp_total series_eq series_tie es h

-- the series at a position
pub found_in : (es : SeriesEntries) (position : ℕ) (s : SeriesKey) (v : Slots) → IsDistinct series_eq (keys_of es) → slice_get es position ≡ Some (s, v) → map.get (slots_of es) s ≡ Some v
found_in es position s v distinct at = placed_at es s ∙ lookup_from_place series_equiv es position s v distinct at

pub within : (es : SeriesEntries) (position : ℕ) (s : SeriesKey) (v : Slots) → slice_get es position ≡ Some (s, v) → position < length es
within [] position s v at = cc
within (e ∷ es) zero s v at = omega arith
within (e ∷ es) (suc position) s v at = omega (arith, within es position s v at)

-- its slots
pub value_placed : (es : SeriesEntries) (position : ℕ) (s : SeriesKey) (v w : Slots) → slice_get es position ≡ Some (s, v) → slice_get (values_of es) position ≡ Some w → w ≡ v
value_placed [] position s v w at is = cc
value_placed (e ∷ es) zero s v w at is = let one : e ≡ (s, v) = cc in let two : e.1 ≡ w = cc in sym two ∙ ap (λ (x : SeriesKey × Slots). x.1) one
value_placed (e ∷ es) (suc position) s v w at is = value_placed es position s v w at is

-- the slots of a series at its position were written
pub written : {S : Type 0} (m : IndexMap SeriesKey Slots S) (position : ℕ) (s : SeriesKey) (v w after : Slots) → IsDistinct series_eq (keys_of m.entries) → slice_get m.entries position ≡ Some (s, v) → w ≡ after
    → IsWritten m.entries (with_value_at m position w).entries position s v after
written m position s v w after distinct at e = subst (IsWritten m.entries (with_value_at m position w).entries position s v) e (record {
  found = found_in m.entries position s v distinct at;
  placed = refl;
  mapped = took series_cmp series_cmp_total series_eq series_tie series_cmp-IsAntisymmetric m.entries (with_value_at m position w).entries s w (updates-with_value_at m position w series_equiv distinct s v at).0;
})

pub still_distinct : {S : Type 0} (m : IndexMap SeriesKey Slots S) (position : ℕ) (w : Slots) → IsDistinct series_eq (keys_of m.entries) → IsDistinct series_eq (keys_of (with_value_at m position w).entries)
still_distinct m position w distinct = subst (IsDistinct series_eq) (sym (keys-with_value_at m position w)) distinct

-- to write what stands there changes nothing
pub unwritten : (es : SeriesEntries) (position : ℕ) (w : Slots) → slice_get (values_of es) position ≡ Some w → set_value_at es position w ≡ es
unwritten [] position w e = refl
unwritten (x ∷ es) zero w e = let same : x.1 ≡ w = cc in ap (λ (v : Slots). (x.0, v) ∷ es) (sym same)
unwritten (x ∷ es) (suc position) w e = ap (λ (l : SeriesEntries). x ∷ l) (unwritten es position w e)

key_passes : (test : SeriesKey → Bool) (es : SeriesEntries) (k : SeriesKey) → lookup_key test es ≡ Some k → test k ≡ true
key_passes test [] k e = cc
key_passes test (x ∷ es) k e = by (test x.0) refl (key_passes test es k) e
  where
    by : (b : Bool) → test x.0 ≡ b → (lookup_key test es ≡ Some k → test k ≡ true) → cond b (Some x.0) (lookup_key test es) ≡ Some k → test k ≡ true
    by true is later e = let same : x.0 ≡ k = cc in sym (ap test same) ∙ is
    by false is later e = later e

-- the series that a search finds is the one that was sought
pub sought_is : (es : SeriesEntries) (s k : SeriesKey) → lookup_key (series_eq s) es ≡ Some k → k ≡ s
sought_is es s k e = sym (series_cmp-IsAntisymmetric s k (equal_of _ (series_tie s k ∙ key_passes (series_eq s) es k e)))
