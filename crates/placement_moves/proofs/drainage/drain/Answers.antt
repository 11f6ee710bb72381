use Rattle.std.proofs.Common.{refl, sym, subst, List}
use Rattle.std.proofs.lemmas.Option.{slice_get_within}
use Rattle.m3_model.specs.Members.{IsIn}
use Rattle.placement_core.specs.Lawful.{IsSteady}
use Rattle.placement_plan.proofs.ShardLemmas.{steady_of}
use Rattle.m3_model.specs.declared.placement.Placement.{Placement}
use Rattle.m3_model.specs.declared.placement.Instance.{Instance}
use Rattle.placement_core.specs.Shards.{Shard}
use Rattle.placement_plan.specs.Nodes.{ListsNode, Has}
use Rattle.placement_plan.specs.Plans.{MakesAll, MovesAway, IsDrain, IsReady}
use Rattle.placement_plan.proofs.DrainLemmas.{drain_lawful, drain_step}
use Rattle.placement_moves.proofs.drainage.drain.Goals as goal

pub returns : goal.returns
returns c =
    let old = c.args.place.now in
    let name = c.args.node.now in
    let node = c.in-Some.number in
    let next : Placement = record { version = c.in_ok-version.version; rf = old.rf; instances = c.in_ok-instances.instances; shards = c.in-Ok.shards } in
    let lists : ListsNode old.instances name node = subst (λ nodes. ListsNode nodes name node) c.as_slice-old.ensures c.in-Some.ensures.found in
    let plan : IsDrain old name next = record {
      node = node;
      lists = lists;
      ready = subst (λ shards. IsReady shards node) c.as_slice-shards.ensures c.in_default-first_busy.ensures.none;
      follows = record {
        version = (c.in_ok-version.ensures.ok).0;
        version_fits = (c.in_ok-version.ensures.ok).1;
        rf = refl;
        shards = subst (λ (shards : List Shard). MakesAll (MovesAway old.instances shards c.in-Ok.shards c.in_ok-version.version node) shards c.in-Ok.shards) c.as_slice-shards.ensures
            (subst (λ (nodes : List Instance). MakesAll (MovesAway nodes c.as_slice-shards.result.now c.in-Ok.shards c.in_ok-version.version node) c.as_slice-shards.result.now c.in-Ok.shards) c.as_slice-old.ensures c.in-Ok.ensures.moved);
      };
      instances = c.in_ok-instances.ensures lists.instance lists.stands;
    } in
    record { plan = plan; lawful = drain_lawful old next name c.requires plan; step = drain_step old next name c.requires plan; refused = tt }

pub all_moved_away-requires-clause-steady : goal.all_moved_away-requires-clause-steady
all_moved_away-requires-clause-steady c =
    let old = c.args.place.now in
    let node = c.in-Some.number in
    let ready = subst (λ shards. IsReady shards node) c.as_slice-shards.ensures c.in_default-first_busy.ensures.none in
    subst (λ (shards : List Shard). (shard : Shard) → IsIn shards shard → Has node shard → IsSteady shard) (sym c.as_slice-shards.ensures)
    (λ shard m has. steady_of old.rf old.version shard (c.requires.shards shard m) (ready shard m has))

pub drained-requires : goal.drained-requires
drained-requires c =
    let old = c.args.place.now in
    let lists : ListsNode old.instances c.args.node.now c.in-Some.number = subst (λ nodes. ListsNode nodes c.args.node.now c.in-Some.number) c.as_slice-old.ensures c.in-Some.ensures.found in
    slice_get_within old.instances c.in-Some.number lists.instance lists.stands
