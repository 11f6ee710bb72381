use Rattle.std.proofs.Common.{refl, subst}
use Rattle.std.proofs.lemmas.Option.{slice_get_within}
use Rattle.m3_model.specs.declared.placement.Placement.{Placement}
use Rattle.placement_plan.specs.Plans.{MakesAll, MovesShardTo, IsReplacement, MayReplace}
use Rattle.placement_plan.proofs.ReplaceLemmas.{replacement_lawful, replacement_step, marked_at}
use Rattle.placement_moves.proofs.replacement.replace.Goals as goal

pub drained-requires : goal.drained-requires
drained-requires c =
    let old = c.args.place.now in
    let may : MayReplace old c.args.node.now c.args.by.now c.args.group.now c.in_ok-from.from c.in_ok-from.to = c.in_ok-from.ensures.ok in
    slice_get_within c.in_ok-with.with c.in_ok-from.from ((may.lists).instance) (marked_at old c.args.node.now c.args.by.now c.args.group.now c.requires.lawful c.requires.named c.requires.grouped c.in_ok-from.from c.in_ok-from.to may c.in_ok-with.with c.in_ok-with.ensures)

pub returns : goal.returns
returns c =
    let old = c.args.place.now in
    let name = c.args.node.now in
    let by = c.args.by.now in
    let group = c.args.group.now in
    let node = c.in_ok-from.from in
    let to = c.in_ok-from.to in
    let next : Placement = record { version = c.in_ok-version.version; rf = old.rf; instances = c.in_ok-instances.instances; shards = c.in_ok-shards.shards } in
    let may : MayReplace old name by group node to = c.in_ok-from.ensures.ok in
    let plan : IsReplacement old name by group next = record {
      node = node;
      to = to;
      may = may;
      joined = c.in_ok-with.with;
      joins = c.in_ok-with.ensures;
      follows = record {
        version = (c.in_ok-version.ensures.ok).0;
        version_fits = (c.in_ok-version.ensures.ok).1;
        rf = refl;
        shards = subst (λ shards. MakesAll (λ s. MovesShardTo c.in_ok-version.version node to) shards c.in_ok-shards.shards) c.as_slice.ensures c.in_ok-shards.ensures;
      };
      instances = c.in_ok-instances.ensures ((may.lists).instance) (marked_at old name by group c.requires.lawful c.requires.named c.requires.grouped node to may c.in_ok-with.with c.in_ok-with.ensures);
    } in
    record {
      plan = plan;
      lawful = replacement_lawful old next name by group c.requires.lawful c.requires.named c.requires.grouped plan;
      step = replacement_step old next name by group c.requires.lawful c.requires.named c.requires.grouped plan;
      refused = tt;
    }
