use Rattle.std.proofs.Common.{sym, subst, false}
use Rattle.std.specs.FinMap as finite
use Rattle.block_buffer.specs.Held.{InMemory}
use Rattle.tag_index.specs.Listed.{Listed}
use Rattle.held_points.specs.Indexed.{IsIndexedFor}
use Rattle.held_points.proofs.IndexLemmas.{empty_indexed}
use Rattle.held_points.proofs.held.HeldPoints.new.Goals as goal

pub invariant_of-result : goal.invariant_of-result
invariant_of-result c =
    subst (λ (m : Listed). IsIndexedFor c.new.result.room false c.new.result.points m) (sym c.new-2.ensures) (subst (λ (h : InMemory). IsIndexedFor h.room false h.points finite.empty) (sym c.new.ensures) empty_indexed)
