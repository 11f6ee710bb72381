-- What is said of the slots of all series.
use Rattle.std.specs.Prelude.{◌≡◌, ℕ, ℤ, ◌≤◌, ◌<◌, ◌^◌, List, Option, Some, None, Bool, false, not, is_some, IsSome, MatchOption, cond, slice_get}
use Rattle.std.specs.FinMap as map
use Rattle.std.specs.Ordering.{eq_by_cmp}
use Rattle.m3_model.specs.declared.point.Key.{Key}
use Rattle.m3_model.specs.Keys.{key_cmp}
use Rattle.series_slots.specs.declared.series_key.SeriesKey.{SeriesKey}
use Rattle.block_buffer.specs.declared.taken.Taken.{Taken}
use Rattle.series_slots.specs.SeriesKeys.{key_at}
use Rattle.series_slots.specs.Slots.{Slots}
use Rattle.series_slots.specs.Points.{slot_at, value_of}
use Rattle.series_slots.specs.SeriesEntries.{SeriesEntries, IsAt, slots_of}
use Rattle.block_buffer.specs.Bounds.{bound_at}
use Rattle.block_buffer.specs.Spots.{group_of}

-- there is a slot, and it has no value
abbrev pub is_bare : Option (Option ℤ) → Bool
is_bare None = false
is_bare (Some value) = not (is_some value)

-- each series with its slots is so
abbrev pub EachEntry : (SeriesKey × Slots → Type 0) → SeriesEntries → Type 0
EachEntry P es = (position : ℕ) (e : SeriesKey × Slots) → slice_get es position ≡ Some e → P e

-- the time of each slot has 64 bits
abbrev pub TimesFit : SeriesEntries → Type 0
TimesFit = EachEntry (λ e. (t : ℕ) → IsSome (map.get e.1 t) → t < 2 ^ 64)

-- each series is of one of the first so many namespaces
abbrev pub SpacesBelow : ℕ → SeriesEntries → Type 0
SpacesBelow spaces = EachEntry (λ e. e.0.ns < spaces)

-- no slot of a series comes before the time that is noted for its group
abbrev pub AreNoted : List (List ℕ) → SeriesEntries → Type 0
AreNoted noted es = (position t : ℕ) (e : SeriesKey × Slots) → slice_get es position ≡ Some e → IsSome (map.get e.1 t) → bound_at noted e.0.ns (group_of position) ≤ t

-- the slots are the same, but for that at the key
abbrev pub IsSlotSet : SeriesEntries → SeriesEntries → Key → Option (Option ℤ) → Type 0
IsSlotSet old new key slot = (k : Key) → slot_at (slots_of new) k ≡ cond (eq_by_cmp key_cmp k key) slot (slot_at (slots_of old) k)

-- all slots are the same
abbrev pub AreSameSlots : SeriesEntries → SeriesEntries → Type 0
AreSameSlots old new = (k : Key) → slot_at (slots_of new) k ≡ slot_at (slots_of old) k

-- the series has no slot
abbrev pub HasNoSlots : SeriesEntries → SeriesKey → Type 0
HasNoSlots es s = (t : ℕ) → slot_at (slots_of es) (key_at s t) ≡ None

-- the series is at the position, with some slot
pub record HasSlots (es : SeriesEntries) (position : ℕ) (s : SeriesKey) : Type 0 where
  pub at : IsAt es position s
  pub t : ℕ
  pub some : IsSome (slot_at (slots_of es) (key_at s t))

-- the value of the series at the position and time left, and the series is told where it left with it
pub record IsTakenAt (old new : SeriesEntries) (position : ℕ) (s : SeriesKey) (t : ℕ) (x : Taken) : Type 0 where
  pub time : x.t ≡ t
  pub value : value_of (slots_of old) (key_at s t) ≡ Some x.v
  pub set : IsSlotSet old new (key_at s t) None
  pub left : MatchOption x.gone (HasSlots new position s) (λ gone. (gone ≡ s) × HasNoSlots new s)
