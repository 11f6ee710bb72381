use Rattle.std.proofs.Common.{sym}
use Rattle.series_slots.proofs.SlotLemmas.{slot_got, gap_got}
use Rattle.series_slots.proofs.series_buffer.SeriesBuffer.get.Goals as goal

pub returns-in-Ok : goal.returns-in-Ok
returns-in-Ok c =
    rw (← c.self.view_is) (sym (slot_got c.self.inside.slots.items c.in-Ok.position c.args.t c.index.result.now c.self.invariant c.in-Ok.ensures.there c.index.ensures))

pub returns-in-Err : goal.returns-in-Err
returns-in-Err c = rw (← c.self.view_is) (sym (gap_got c.self.inside.slots.items c.in-Err.field-0 c.args.t c.self.invariant c.in-Err.ensures.absent))
