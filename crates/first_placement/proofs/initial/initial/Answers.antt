use Rattle.std.proofs.Common.{◌≡◌, ℕ, List, refl, subst, take, slice_get, Some}
use Rattle.m3_model.specs.declared.placement.Placement.{Placement}
use Rattle.m3_model.specs.declared.placement.Instance.{Instance}
use Rattle.placement_core.specs.Shards.{Shard}
use Rattle.placement_plan.specs.First.{IsInitial, IsPlacedShard}
use Rattle.placement_plan.proofs.InitialLemmas.{initial_lawful, initial_first}
use Rattle.first_placement.proofs.initial.initial.Goals as goal

pub returns : goal.returns
returns c =
    let place : Placement = record { version = 1; rf = c.args.rf; instances = c.in_ok-instances.instances; shards = c.in-Ok.shards } in
    let plan : IsInitial c.args.rf c.args.shards c.args.nodes place = record {
      version = refl;
      rf_is = refl;
      instances = c.in_ok-instances.ensures;
      count = c.in-Ok.ensures.count;
      each = subst (λ (instances : List Instance). (s : ℕ) (shard : Shard) → slice_get c.in-Ok.shards s ≡ Some shard → IsPlacedShard c.args.rf instances (take s c.in-Ok.shards) shard) c.as_slice.ensures c.in-Ok.ensures.each;
    } in
    record { plan = plan; lawful = initial_lawful c.args.rf c.args.shards c.args.nodes c.requires place plan; first = initial_first c.args.rf c.args.shards c.args.nodes c.requires place plan; refused = tt }
