use Rattle.placement_core.proofs.StepLemmas.{no_true}
use Rattle.placement_core.proofs.LawfulLemmas.{spread_decided}
use Rattle.placement_core.proofs.lawful.is_spread.Goals as goal

pub returns-then-are_listed : goal.returns-then-are_listed
returns-then-are_listed c =
    let is = spread_decided c.args.instances.now c.args.shard.now in
    (λ t. is.0 (c.are_listed.ensures.0 c.if-are_listed.true, c.are_spread.ensures.0 t), λ h. c.are_spread.ensures.1 (is.1 h).1)

pub returns-else-are_listed : goal.returns-else-are_listed
returns-else-are_listed c =
    let is = spread_decided c.args.instances.now c.args.shard.now in
    (λ t. absurd (no_true c.are_listed.result c.if-are_listed.false t), λ h. absurd (no_true c.are_listed.result c.if-are_listed.false (c.are_listed.ensures.1 (is.1 h).0)))
