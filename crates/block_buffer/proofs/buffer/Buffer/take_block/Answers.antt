use Rattle.std.proofs.Common.{◌+◌, List, subst}
use Rattle.m3_model.specs.declared.point.Matcher.{Matcher}
use Rattle.m3_model.specs.declared.point.Pick.TheVariants as pick
use Rattle.series_slots.specs.Ranges.{IsRangeOf}
use Rattle.block_buffer.specs.Held.{InMemory}
use Rattle.block_buffer.proofs.buffer.Buffer.take_block.Goals as goal

pub returns-clause-rows : goal.returns-clause-rows
returns-clause-rows c =
    subst (λ (h : InMemory). (wanted : List Matcher) → IsRangeOf h.points (pick.Match c.args.ns wanted) c.args.start (c.args.start + c.args.size) c.in_ok-rows.rows) c.release.ensures c.in_ok-rows.ensures
