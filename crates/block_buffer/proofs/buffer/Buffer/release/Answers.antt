use Rattle.std.proofs.Common.{ap, ap₂, sym, subst}
use Rattle.std.specs.Prelude.{Option}
use Rattle.m3_model.specs.declared.point.Key.{Key}
use Rattle.m3_model.specs.Contents.{Contents}
use Rattle.block_buffer.specs.declared.room.Room.{Room}
use Rattle.block_buffer.specs.Room.{RoomStands, room_key}
use Rattle.block_buffer.specs.Held.{InMemory}
use Rattle.series_slots.proofs.PointLemmas.{same_points}
use Rattle.block_buffer.proofs.buffer.Buffer.release.Goals as goal

abbrev held : Contents → Option Key → InMemory
held points room = record { points = points; room = room }

pub vacate-requires : goal.vacate-requires
vacate-requires c = (c.self.inside.sought, subst (λ (r : Option Room). RoomStands r c.self.inside.sought c.self.inside.all) (sym c.in-Some.ensures.value) c.self.invariant.0)

pub returns-in-Some : goal.returns-in-Some
returns-in-Some c = rw (← c.self.view_is) (ap₂ held (same_points _ _ c.vacate.ensures.kept) (ap (room_key c.self.inside.sought) c.take.ensures.after))
