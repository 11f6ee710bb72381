use Rattle.std.proofs.Common.{sym, subst}
use Rattle.std.specs.Prelude.{IfOk}
use Rattle.std.proofs.lemmas.Result.{IfOk-weaker}
use Rattle.m3_model.specs.declared.point.Pick.{Pick}
use Rattle.series_slots.specs.Points.{points_of}
use Rattle.series_slots.specs.SeriesEntries.{slots_of}
use Rattle.block_buffer.specs.Held.{InMemory}
use Rattle.series_slots.specs.Ranges.{IsRangeOf}
use Rattle.block_buffer.proofs.buffer.Buffer.range.Goals as goal

pub returns-in-Match : goal.returns-in-Match
returns-in-Match c =
    subst (λ (h : InMemory). IfOk c.range_of_space.result (IsRangeOf h.points c.args.pick.now c.args.from c.args.to)) c.self.view_is
    (subst (λ (p : Pick). IfOk c.range_of_space.result (IsRangeOf (points_of (slots_of c.self.inside.all)) p c.args.from c.args.to)) (sym c.in-Match.is)
    (IfOk-weaker c.range_of_space.result _ _ (λ found all. all c.in-Match.wanted) c.range_of_space.ensures))
