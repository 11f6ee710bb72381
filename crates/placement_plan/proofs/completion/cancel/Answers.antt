use Rattle.std.proofs.Common.{refl, subst}
use Rattle.placement_core.specs.m3_model.declared.placement.Placement.{Placement}
use Rattle.placement_plan.specs.Nodes.{ListsNode}
use Rattle.placement_plan.specs.Plans.{MakesAll, CancelsJoining, IsCancel, IsFreed, GivesTo}
use Rattle.placement_plan.proofs.PlanLemmas.{cancel_lawful, cancel_step}
use Rattle.placement_plan.proofs.completion.cancel.Goals as goal

pub returns : goal.returns
returns c =
    let old = c.args.place.now in
    let name = c.args.node.now in
    let node = c.in-Some.number in
    let next : Placement = record { version = c.in_ok-version.version; rf = old.rf; instances = c.in_ok-instances.instances; shards = c.in_ok-shards.shards } in
    let plan : IsCancel old name next = record {
      node = node;
      lists = subst (λ nodes. ListsNode nodes name node) c.as_slice.ensures c.in-Some.ensures.found;
      follows = record {
        version = (c.in_ok-version.ensures.ok).0;
        version_fits = (c.in_ok-version.ensures.ok).1;
        rf = refl;
        shards = subst (λ shards. MakesAll (λ s. CancelsJoining node) shards c.in_ok-shards.shards) c.as_slice-old.ensures c.in_ok-shards.ensures;
      };
      instances = subst (λ shards. MakesAll (IsFreed (GivesTo shards node)) old.instances c.in_ok-instances.instances) c.as_slice-old.ensures
          (subst (λ nodes. MakesAll (IsFreed (GivesTo c.as_slice-old.result.now node)) nodes c.in_ok-instances.instances) c.as_slice-2.ensures c.in_ok-instances.ensures);
    } in
    record { plan = plan; lawful = cancel_lawful old next name c.requires plan; step = cancel_step old next name plan; refused = tt }
