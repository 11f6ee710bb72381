-- Where a value stands.
use Rattle.std.proofs.Common.{◌≡◌, ℕ, suc, ℤ, [], ◌∷◌, cond, refl, sym, ◌∙◌, Bool, true, false}
use Rattle.std.specs.Prelude.{Option, Some, None, IsSome, slice_get}
use Rattle.std.specs.FinMap as finite
use Rattle.std.specs.Map.{lookup}
use Rattle.m3_model.specs.declared.point.Key.{Key}
use Rattle.m3_model.proofs.Keyed.{equal_of}
use Rattle.series_slots.specs.declared.series_key.SeriesKey.{SeriesKey}
use Rattle.series_slots.specs.SeriesKeys.{series_eq, series_of}
use Rattle.series_slots.specs.Slots.{Slots, settled}
use Rattle.series_slots.specs.Points.{slot_in, slot_at, value_of}
use Rattle.series_slots.specs.SeriesEntries.{SeriesEntries, slots_of}
use Rattle.series_slots.proofs.PointLemmas.{series_cmp-IsAntisymmetric}
use Rattle.series_slots.proofs.SeriesLemmas.{placed_at, series_tie}

-- a series that is looked up has a position
lookup_position : (es : SeriesEntries) (s : SeriesKey) (v : Slots) → lookup (series_eq s) es ≡ Some v → (position : ℕ) × (slice_get es position ≡ Some (s, v))
lookup_position [] s v e = cc
lookup_position (x ∷ es) s v e = by (series_eq s x.0) refl e (lookup_position es s v)
  where
    by : (b : Bool) → series_eq s x.0 ≡ b → cond b (Some x.1) (lookup (series_eq s) es) ≡ Some v → (lookup (series_eq s) es ≡ Some v → (position : ℕ) × (slice_get es position ≡ Some (s, v)))
        → (position : ℕ) × (slice_get (x ∷ es) position ≡ Some (s, v))
    by true t g later =
        let slots : x.1 ≡ v = cc in
        let same : s ≡ x.0 = series_cmp-IsAntisymmetric s x.0 (equal_of _ (series_tie s x.0 ∙ t)) in
        (0, λ i. Some (sym same i, slots i))
    by false t g later = let found = later g in (suc found.0, found.1)

-- where a value stands
pub record IsPlaced (es : SeriesEntries) (k : Key) (w : ℤ) : Type 0 where
  pub position : ℕ
  pub slots : Slots
  pub entry : slice_get es position ≡ Some (series_of k, slots)
  pub value : settled (finite.get slots k.t) ≡ Some w

pub value_position : (es : SeriesEntries) (k : Key) (w : ℤ) → value_of (slots_of es) k ≡ Some w → IsPlaced es k w
value_position es k w e = by (finite.get (slots_of es) (series_of k)) refl e
  where
    by : (o : Option Slots) → finite.get (slots_of es) (series_of k) ≡ o → settled (slot_in o k.t) ≡ Some w → IsPlaced es k w
    by None t g = cc
    by (Some v) t g = let at = lookup_position es (series_of k) v (sym (placed_at es (series_of k)) ∙ t) in record { position = at.0; slots = v; entry = at.1; value = g }

-- where a slot is
pub record IsSlotPlaced (es : SeriesEntries) (k : Key) : Type 0 where
  pub position : ℕ
  pub slots : Slots
  pub entry : slice_get es position ≡ Some (series_of k, slots)
  pub slot : IsSome (finite.get slots k.t)

pub slot_position : (es : SeriesEntries) (k : Key) → IsSome (slot_at (slots_of es) k) → IsSlotPlaced es k
slot_position es k h = by (finite.get (slots_of es) (series_of k)) refl h
  where
    by : (o : Option Slots) → finite.get (slots_of es) (series_of k) ≡ o → IsSome (slot_in o k.t) → IsSlotPlaced es k
    by None t g = cc
    by (Some v) t g = let at = lookup_position es (series_of k) v (sym (placed_at es (series_of k)) ∙ t) in record { position = at.0; slots = v; entry = at.1; slot = g }

pub none_or_value : (es : SeriesEntries) (k : Key) → ((w : ℤ) → value_of (slots_of es) k ≡ Some w → ⊥) → value_of (slots_of es) k ≡ None
none_or_value es k h = by (value_of (slots_of es) k) refl
  where
    by : (o : Option ℤ) → value_of (slots_of es) k ≡ o → value_of (slots_of es) k ≡ None
    by None e = e
    by (Some w) e = absurd (h w e)
