use Rattle.std.proofs.Common.{refl, subst}
use Rattle.placement_core.specs.m3_model.declared.placement.Placement.{Placement}
use Rattle.placement_plan.specs.Plans.{MakesAll, EndsAsNamed, IsAvailable}
use Rattle.placement_plan.proofs.PlanLemmas.{available_lawful, available_step}
use Rattle.placement_plan.proofs.completion.available.Goals as goal

pub returns : goal.returns
returns c =
    let old = c.args.place.now in
    let done = c.args.done.now in
    let next : Placement = record { version = c.in_ok-version.version; rf = old.rf; instances = c.in_ok-instances.instances; shards = c.in_ok-shards.shards } in
    let plan : IsAvailable old done next = record {
      follows = record {
        version = (c.in_ok-version.ensures.ok).0;
        version_fits = (c.in_ok-version.ensures.ok).1;
        rf = refl;
        shards = subst (λ shards. MakesAll (EndsAsNamed done) shards c.in_ok-shards.shards) c.as_slice.ensures c.in_ok-shards.ensures;
      };
      instances = c.in_ok-instances.ensures;
    } in
    record { plan = plan; lawful = available_lawful old next done c.requires.lawful plan; step = available_step old next done plan; refused = tt }
