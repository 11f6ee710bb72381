-- The first value of a series from a time on.
use Rattle.std.specs.Prelude.{◌≡◌, ℕ, ℤ, ◌≤◌, ◌<◌, Some, None, IsSome}
use Rattle.std.specs.FinMap as map
use Rattle.series_slots.specs.declared.series_key.SeriesKey.{SeriesKey}
use Rattle.series_slots.specs.SeriesKeys.{key_at}
use Rattle.series_slots.specs.Slots.{Slots, value_at}
use Rattle.series_slots.specs.Points.{value_of}
use Rattle.series_slots.specs.SeriesEntries.{SeriesEntries, StandsAt, slots_of}

-- no slot from the time on has a value
abbrev pub IsBareFrom : Slots → ℕ → Type 0
IsBareFrom slots low = (q : ℕ) → low ≤ q → value_at slots q ≡ None

-- the first of the slots from `low` on that has a value is that of the time, and it has this value
pub record IsFirstFrom (slots : Slots) (low t : ℕ) (v : ℤ) : Type 0 where
  pub from : low ≤ t
  pub value : value_at slots t ≡ Some v
  pub first : (q : ℕ) → low ≤ q → q < t → value_at slots q ≡ None

-- the series has no value from the time on
abbrev pub HasNoneLater : SeriesEntries → SeriesKey → ℕ → Type 0
HasNoneLater es s low = (q : ℕ) → low ≤ q → value_of (slots_of es) (key_at s q) ≡ None

-- the first value from `low` on of the series at the position stands at the time
pub record IsFirstAt (es : SeriesEntries) (position : ℕ) (s : SeriesKey) (low t : ℕ) (v : ℤ) : Type 0 where
  pub from : low ≤ t
  pub stands : StandsAt es position t s
  pub value : value_of (slots_of es) (key_at s t) ≡ Some v
  pub first : (q : ℕ) → low ≤ q → q < t → value_of (slots_of es) (key_at s q) ≡ None

-- there is no slot
abbrev pub HasNoTime : Slots → Type 0
HasNoTime slots = (q : ℕ) → map.get slots q ≡ None

-- the first slot, with a value or without, is that of the time
pub record IsFirstTime (slots : Slots) (t : ℕ) : Type 0 where
  pub slot : IsSome (map.get slots t)
  pub first : (q : ℕ) → IsSome (map.get slots q) → t ≤ q

-- the first value of the series stands at the time
pub record IsFirstValue (es : SeriesEntries) (s : SeriesKey) (t : ℕ) (v : ℤ) : Type 0 where
  pub value : value_of (slots_of es) (key_at s t) ≡ Some v
  pub first : (q : ℕ) → q < t → value_of (slots_of es) (key_at s q) ≡ None
