use Rattle.std.proofs.Common.{refl, subst}
use Rattle.placement_core.specs.m3_model.declared.placement.Placement.{Placement}
use Rattle.placement_core.specs.m3_model.Members.{IsIn}
use Rattle.placement_core.specs.Shards.{Shard}
use Rattle.placement_plan.specs.Nodes.{ListsNode, Has}
use Rattle.placement_plan.specs.Plans.{IsRemoval}
use Rattle.placement_plan.proofs.PlanLemmas.{removal_lawful, removal_step, same_shards}
use Rattle.placement_plan.proofs.removal.remove.Goals as goal

pub returns : goal.returns
returns c =
    let old = c.args.place.now in
    let name = c.args.node.now in
    let node = c.in-Some.number in
    let next : Placement = record { version = c.in_ok-version.version; rf = old.rf; instances = c.in_ok-instances.instances; shards = c.in_ok-shards.shards } in
    let lists : ListsNode old.instances name node = subst (λ nodes. ListsNode nodes name node) c.as_slice.ensures c.in-Some.ensures.found in
    let plan : IsRemoval old name next = record {
      node = node;
      lists = lists;
      idle = subst (λ shards. (shard : Shard) → IsIn shards shard → ¬ Has node shard) c.as_slice-2.ensures c.in_default-first_shard_of.ensures.none;
      follows = record {
        version = (c.in_ok-version.ensures.ok).0;
        version_fits = (c.in_ok-version.ensures.ok).1;
        rf = refl;
        shards = same_shards old.shards c.in_ok-shards.shards c.in_ok-shards.ensures;
      };
      instances = c.in_ok-instances.ensures lists.instance lists.stands;
    } in
    record { plan = plan; lawful = removal_lawful old next name c.requires plan; step = removal_step old next name plan; refused = tt }
