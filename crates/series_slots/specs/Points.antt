-- The points of all series, as one content.
use Rattle.std.specs.Prelude.{ℕ, ℤ, List, Option, Some, None, option_map}
use Rattle.std.specs.List.{filter_map, flat_map}
use Rattle.std.specs.FinMap as map
use Rattle.m3_model.specs.declared.point.Key.{Key}
use Rattle.m3_model.specs.Contents.{Contents}
use Rattle.series_slots.specs.declared.series_key.SeriesKey.{SeriesKey}
use Rattle.series_slots.specs.SeriesKeys.{series_cmp, series_of, key_at}
use Rattle.series_slots.specs.Slots.{Slots, settled}

-- the slots of each series
abbrev pub AllSlots : Type 0
AllSlots = map.FinMap series_cmp Slots

-- the key and the value of a slot that has one
abbrev pub keyed : SeriesKey → ℕ × Option ℤ → Option (Key × ℤ)
keyed s e = option_map (λ v. (key_at s e.0, v)) e.1

-- the points of a series
abbrev pub series_points : SeriesKey × Slots → List (Key × ℤ)
series_points e = filter_map (keyed e.0) (map.entries e.1)

-- all points, in the order of their keys
abbrev pub points_of : AllSlots → Contents
points_of all = map.from_sorted (flat_map series_points (map.entries all))

-- the slot of a series at a time
abbrev pub slot_in : Option Slots → ℕ → Option (Option ℤ)
slot_in None t = None
slot_in (Some slots) t = map.get slots t

-- the slot at a key
abbrev pub slot_at : AllSlots → Key → Option (Option ℤ)
slot_at all k = slot_in (map.get all (series_of k)) k.t

-- the value at a key
abbrev pub value_of : AllSlots → Key → Option ℤ
value_of all k = settled (slot_at all k)
