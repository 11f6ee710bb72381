-- Room for a point.
use Rattle.std.specs.Prelude.{◌≡◌, Option, Some, None, IfSome, option_map}
use Rattle.m3_model.specs.declared.point.Key.{Key}
use Rattle.series_slots.specs.declared.series_key.SeriesKey.{SeriesKey}
use Rattle.series_slots.specs.SeriesKeys.{key_at}
use Rattle.series_slots.specs.Points.{slot_at}
use Rattle.series_slots.specs.SeriesEntries.{SeriesEntries, StandsAt, slots_of}
use Rattle.block_buffer.specs.declared.room.Room.{Room}

-- the key of a series at which there is room
abbrev pub room_key : SeriesKey → Option Room → Option Key
room_key s room = option_map (λ r. key_at s r.t) room

-- where there is room, a slot of the series stands
abbrev pub RoomStands : Option Room → SeriesKey → SeriesEntries → Type 0
RoomStands room s es = IfSome room (λ r. StandsAt es r.position r.t s)

-- only the slot for which there is room has no value
abbrev pub OnlyRoomIsEmpty : Option Key → SeriesEntries → Type 0
OnlyRoomIsEmpty room es = (k : Key) → slot_at (slots_of es) k ≡ Some None → room ≡ Some k
