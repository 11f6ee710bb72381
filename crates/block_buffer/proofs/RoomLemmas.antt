-- Room in a buffer.
use Rattle.std.proofs.Common.{◌≡◌, ◌≢◌, ℤ, refl, sym, ap, subst}
use Rattle.std.specs.Prelude.{Option, Some, None, IsSome}
use Rattle.m3_model.specs.declared.point.Key.{Key}
use Rattle.series_slots.specs.declared.series_key.SeriesKey.{SeriesKey}
use Rattle.series_slots.specs.Slots.{settled}
use Rattle.series_slots.specs.Points.{slot_at, value_of}
use Rattle.series_slots.specs.SeriesEntries.{SeriesEntries, slots_of}
use Rattle.block_buffer.specs.declared.room.Room.{Room}
use Rattle.block_buffer.specs.Room.{RoomStands, room_key, OnlyRoomIsEmpty}

-- where there is none, the series doesn't count
pub no_room : (s q : SeriesKey) (room : Option Room) → room_key s room ≡ None → room_key q room ≡ None
no_room s q None e = refl
no_room s q (Some r) e = cc

-- and no slot need stand
pub none_stands : (s : SeriesKey) (room : Option Room) (q : SeriesKey) (es : SeriesEntries) → room_key s room ≡ None → RoomStands room q es
none_stands s None q es e = tt
none_stands s (Some r) q es e = cc

-- nor has one no value
pub only_values : (s q : SeriesKey) (room : Option Room) (es : SeriesEntries) → room_key s room ≡ None → OnlyRoomIsEmpty None es → OnlyRoomIsEmpty (room_key q room) es
only_values s q room es e only = subst (λ (r : Option Key). OnlyRoomIsEmpty r es) (sym (no_room s q room e)) only

-- without room each slot has a value
pub only_of : (s : SeriesKey) (room : Option Room) (es : SeriesEntries) → room_key s room ≡ None → OnlyRoomIsEmpty (room_key s room) es → OnlyRoomIsEmpty None es
only_of s room es e only = subst (λ (r : Option Key). OnlyRoomIsEmpty r es) e only

-- the slot without a value left
pub only_vacated : (old new : SeriesEntries) (key : Key) → OnlyRoomIsEmpty (Some key) old → ((k : Key) → slot_at (slots_of new) k ≡ Some None → (slot_at (slots_of old) k ≡ Some None) × (k ≢ key)) → OnlyRoomIsEmpty None new
only_vacated old new key only h k e =
    let was = h k e in
    let room : Some key ≡ Some k = only k was.0 in
    let same : key ≡ k = cc in
    absurd (was.1 (sym same))

-- a slot has a value
pub valued_slot : (es : SeriesEntries) (k : Key) → OnlyRoomIsEmpty None es → IsSome (slot_at (slots_of es) k) → (v : ℤ) × (value_of (slots_of es) k ≡ Some v)
valued_slot es k only some = by (slot_at (slots_of es) k) refl some
  where
    by : (o : Option (Option ℤ)) → slot_at (slots_of es) k ≡ o → IsSome o → (v : ℤ) × (value_of (slots_of es) k ≡ Some v)
    by None e h = cc
    by (Some None) e h = let wrong : None ≡ Some k = only k e in cc
    by (Some (Some v)) e h = (v, ap settled e)
