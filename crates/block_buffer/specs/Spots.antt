-- Where a value of some kind stands among the series.
use Rattle.std.specs.Prelude.{◌≡◌, ℕ, ℤ, ◌/◌, ◌<◌, Some, None, true, IsSome, slice_get}
use Rattle.std.specs.FinMap as map
use Rattle.m3_model.specs.declared.point.Key.{Key}
use Rattle.series_slots.specs.declared.series_key.SeriesKey.{SeriesKey}
use Rattle.series_slots.specs.SeriesKeys.{key_at, series_of}
use Rattle.series_slots.specs.Slots.{Slots, is_within}
use Rattle.series_slots.specs.Points.{value_of}
use Rattle.series_slots.specs.SeriesEntries.{SeriesEntries, IsAt, StandsAt, slots_of}

-- the group of a position, sixteen to a group
abbrev pub group_of : ℕ → ℕ
group_of position = position / 16

-- the key is of the namespace, and of one of the times from `low` up to and with `high`
abbrev pub IsKeyWithin : ℕ → ℕ → ℕ → Key → Type 0
IsKeyWithin ns low high k = (k.ns ≡ ns) × (is_within low high k.t ≡ true)

-- the value of a series stands at the position and time, at a key with P
pub record IsValueOf (es : SeriesEntries) (P : Key → Type 0) (position t : ℕ) (v : ℤ) : Type 0 where
  pub series : SeriesKey
  pub stands : StandsAt es position t series
  pub value : value_of (slots_of es) (key_at series t) ≡ Some v
  pub holds : P (key_at series t)

-- no value stands at a key with P
abbrev pub HasNoValueOf : SeriesEntries → (Key → Type 0) → Type 0
HasNoValueOf es P = (k : Key) → P k → value_of (slots_of es) k ≡ None

-- the series at the position has no value at a key with P
abbrev pub HasNoneAt : SeriesEntries → ℕ → (Key → Type 0) → Type 0
HasNoneAt es position P = (s : SeriesKey) (t : ℕ) → IsAt es position s → P (key_at s t) → value_of (slots_of es) (key_at s t) ≡ None

-- the series at the position has no value at a key with P, as far as it stands there
abbrev pub IsClear : SeriesEntries → ℕ → (Key → Type 0) → Type 0
IsClear es position P = (k : Key) (w : ℤ) (slots : Slots) → slice_get es position ≡ Some (series_of k, slots) → IsSome (map.get slots k.t) → value_of (slots_of es) k ≡ Some w → P k → ⊥

-- where the series at the position is of the namespace, each of its slots is of a later time
abbrev pub IsLate : SeriesEntries → ℕ → ℕ → ℕ → Type 0
IsLate es ns high position = (t : ℕ) (e : SeriesKey × Slots) → slice_get es position ≡ Some e → e.0.ns ≡ ns → IsSome (map.get e.1 t) → high < t
