use Rattle.std.proofs.Common.{arith, Some, sym, ap, ◌∙◌}
use Rattle.placement_core.specs.Shards.{Shard}
use Rattle.placement_core.proofs.ListLemmas.{at_index}
use Rattle.placement_core.proofs.StepLemmas.{no_true}
use Rattle.placement_plan.specs.Nodes.{Has}
use Rattle.placement_plan.proofs.PlaceLemmas.{none_all, none_more}
use Rattle.placement_plan.proofs.shards.first_shard_of.Goals as goal

pub returns-then-has_node-clause-found : goal.returns-then-has_node-clause-found
returns-then-has_node-clause-found c =
    let shard : Shard = c.as_slice.result.now in
    let at = at_index c.args.shards.now c.loop-number.number c.index-shards-number.result c.loop-number-test.true c.index-shards-number.is ∙ ap Some (sym c.as_slice.ensures) in
    record { shard = shard; stands = at; holds = c.has_node.ensures.0 c.if-has_node.true; first = c.loop-number.invariant }

pub loop-number-preserved : goal.loop-number-preserved
loop-number-preserved c =
    let shard : Shard = c.as_slice.result.now in
    let at = at_index c.args.shards.now c.loop-number.number c.index-shards-number.result c.loop-number-test.true c.index-shards-number.is ∙ ap Some (sym c.as_slice.ensures) in
    none_more (Has c.args.node) c.args.shards.now c.loop-number.number shard at (λ h. no_true c.has_node.result c.if-has_node.false (c.has_node.ensures.1 h)) c.loop-number.invariant

pub returns-clause-none : goal.returns-clause-none
returns-clause-none c = none_all (Has c.args.node) c.args.shards.now c.loop-number.number (omega arith) c.loop-number.invariant
