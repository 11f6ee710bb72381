-- Series with their slots at positions.
use Rattle.std.specs.Prelude.{◌≡◌, ℕ, List, Some, IsSome, slice_get}
use Rattle.std.specs.Coded.{Coded, coded×, coded_list}
use Rattle.std.specs.FinMap as map
use Rattle.series_slots.specs.declared.series_key.SeriesKey.{SeriesKey}
use Rattle.series_slots.specs.SeriesKeys.{series_code}
use Rattle.series_slots.specs.Slots.{Slots, slots_code}
use Rattle.series_slots.specs.Points.{AllSlots}

-- each series with its slots, at its position
abbrev pub SeriesEntries : Type 0
SeriesEntries = List (SeriesKey × Slots)

abbrev pub series_entries_code : Coded SeriesEntries
series_entries_code = coded_list (coded× series_code slots_code)

-- the slots of each series, at whatever position
abbrev pub slots_of : SeriesEntries → AllSlots
slots_of es = map.from_entries es

-- the series is at the position
pub record IsAt (es : SeriesEntries) (position : ℕ) (s : SeriesKey) : Type 0 where
  pub slots : Slots
  pub entry : slice_get es position ≡ Some (s, slots)

-- the series is at the position, and has a slot at the time
pub record StandsAt (es : SeriesEntries) (position t : ℕ) (s : SeriesKey) : Type 0 where
  pub slots : Slots
  pub entry : slice_get es position ≡ Some (s, slots)
  pub slot : IsSome (map.get slots t)
