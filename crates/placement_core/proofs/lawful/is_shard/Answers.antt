use Rattle.placement_core.proofs.StepLemmas.{no_true}
use Rattle.placement_core.proofs.LawfulLemmas.{shard_decided}
use Rattle.placement_core.proofs.lawful.is_shard.Goals as goal

pub returns-then-has_replicas : goal.returns-then-has_replicas
returns-then-has_replicas c =
    let is = shard_decided c.args.rf c.args.version c.args.shard.now in
    (λ t. is.0 (c.has_replicas.ensures.0 c.if-has_replicas.true, c.has_nodes.ensures.0 t), λ h. c.has_nodes.ensures.1 (is.1 h).1)

pub returns-else-has_replicas : goal.returns-else-has_replicas
returns-else-has_replicas c =
    let is = shard_decided c.args.rf c.args.version c.args.shard.now in
    (λ t. absurd (no_true c.has_replicas.result c.if-has_replicas.false t), λ h. absurd (no_true c.has_replicas.result c.if-has_replicas.false (c.has_replicas.ensures.1 (is.1 h).0)))
