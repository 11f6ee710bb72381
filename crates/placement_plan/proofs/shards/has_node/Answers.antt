use Rattle.placement_core.proofs.StepLemmas.{has_node, node_has}
use Rattle.placement_plan.proofs.shards.has_node.Goals as goal

pub returns : goal.returns
returns c = (λ t. has_node c.args.shard.now c.args.node (c.any_of.ensures.0 t), λ h. c.any_of.ensures.1 (node_has c.args.shard.now c.args.node h))
