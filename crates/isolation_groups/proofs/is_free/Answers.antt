use Rattle.std.proofs.Common.{◌≢◌}
use Rattle.placement_core.specs.m3_model.declared.placement.Assignment.{Assignment}
use Rattle.placement_core.proofs.m3_model_proofs.Lists.{All-from_each}
use Rattle.placement_core.proofs.ListLemmas.{each-from_All}
use Rattle.isolation_groups.specs.Groups.{group_of}
use Rattle.isolation_groups.proofs.is_free.Goals as goal

pub returns : goal.returns
returns c =
    let Beside : Assignment → Type 0 = λ a. a.node ≢ c.args.from → group_of c.args.instances.now a.node ≢ c.args.group.now in
    (λ t. each-from_All Beside c.args.shard.now (c.are_beside.ensures.0 t), λ h. c.are_beside.ensures.1 (All-from_each Beside c.args.shard.now h))
