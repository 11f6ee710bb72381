use Rattle.std.proofs.Common.{None, ap, sym, subst, ◌∙◌}
use Rattle.m3_model.specs.Contents.{Contents}
use Rattle.series_slots.specs.Points.{points_of}
use Rattle.series_slots.specs.SeriesEntries.{SeriesEntries, slots_of}
use Rattle.block_buffer.specs.Held.{InMemory}
use Rattle.block_buffer.specs.Room.{OnlyRoomIsEmpty}
use Rattle.series_slots.proofs.PointLemmas.{points-empty}
use Rattle.block_buffer.proofs.ContentLemmas.{only_none}
use Rattle.block_buffer.proofs.buffer.Buffer.new.Goals as goal

pub invariant_of-result : goal.invariant_of-result
invariant_of-result c = (tt, subst (OnlyRoomIsEmpty None) (sym c.new.ensures) only_none)

pub returns : goal.returns
returns c = ap (λ (m : Contents). let held : InMemory = record { points = m; room = None } in held) (ap (λ (es : SeriesEntries). points_of (slots_of es)) c.new.ensures ∙ points-empty)
