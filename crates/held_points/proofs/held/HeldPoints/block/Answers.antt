use Rattle.std.proofs.Common.{◌+◌, List, subst}
use Rattle.std.specs.Prelude.{IfOk}
use Rattle.m3_model.specs.declared.point.Matcher.{Matcher}
use Rattle.m3_model.specs.declared.point.Pick.TheVariants as pick
use Rattle.series_slots.specs.Ranges.{IsRangeOf}
use Rattle.block_buffer.specs.Held.{InMemory}
use Rattle.held_points.proofs.held.HeldPoints.block.Goals as goal

pub returns : goal.returns
returns c =
    subst (λ (h : InMemory). IfOk c.block.result (λ rows. (wanted : List Matcher) → IsRangeOf h.points (pick.Match c.args.ns wanted) c.args.start (c.args.start + c.args.size) rows)) c.self.view_is c.block.ensures
