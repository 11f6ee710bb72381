use Rattle.std.proofs.Common.{◌≡◌, ℕ, List, false, refl, subst, sym, ◌&&◌, nat_eq}
use Rattle.std.specs.Cmp.Lexicographic.{pointwise}
use Rattle.std.specs.List.{list_any}
use Rattle.std.proofs.lemmas.Option.{slice_get_within}
use Rattle.placement_core.specs.NodeNames.{is_listed}
use Rattle.m3_model.specs.declared.placement.Placement.{Placement}
use Rattle.m3_model.specs.declared.placement.Instance.{Instance}
use Rattle.placement_plan.specs.Nodes.{ListsNode, fresh_node}
use Rattle.placement_plan.specs.Plans.{HasRoom}
use Rattle.placement_plan.specs.Additions.{IsAddition, Rebalances}
use Rattle.placement_plan.specs.Refusals.{IsPastLimit}
use Rattle.placement_plan.proofs.NodeLemmas.{lists_found, limit_refuses_add}
use Rattle.placement_plan.proofs.PlanLemmas.{lawful_nodes}
use Rattle.placement_plan.proofs.JoinLemmas.{HaveJoined, have_joined}
use Rattle.placement_plan.proofs.AddLemmas.{addition_lawful, addition_step}
use Rattle.placement_moves.proofs.addition.add.Goals as goal

pub returns-in-Some-clause-refused : goal.returns-in-Some-clause-refused
returns-in-Some-clause-refused c = lists_found c.args.place.now c.args.node.now c.in-Some.field-0 (subst (λ nodes. ListsNode nodes c.args.node.now c.in-Some.field-0) c.as_slice-old.ensures c.in-Some.ensures.found)

pub returns-in-Err-clause-refused : goal.returns-in-Err-clause-refused
returns-in-Err-clause-refused c =
    let place = c.args.place.now in
    let new : is_listed c.args.node.now place ≡ false = subst (λ nodes. list_any (λ node. node.listed && pointwise nat_eq c.args.node.now node.name) nodes ≡ false) c.as_slice-old.ensures c.in-None.ensures.none in
    limit_refuses_add place c.args.node.now c.in-Err.refused new (subst (λ nodes. IsPastLimit nodes c.args.node.now c.in-Err.refused) c.as_slice-old.ensures c.in-Err.ensures.err)

pub rebalanced-requires-clause-to : goal.rebalanced-requires-clause-to
rebalanced-requires-clause-to c =
    let old = c.args.place.now in
    let new : is_listed c.args.node.now old ≡ false = subst (λ nodes. list_any (λ node. node.listed && pointwise nat_eq c.args.node.now node.name) nodes ≡ false) c.as_slice-old.ensures c.in-None.ensures.none in
    let room = subst (λ nodes. HasRoom nodes c.args.node.now) c.as_slice-old.ensures (c.in-Ok.ensures.ok).1 in
    let joined : HaveJoined old.instances c.args.node.now c.args.group.now c.as_slice.result.now c.in-Ok.to = subst (λ (nodes : List Instance). HaveJoined old.instances c.args.node.now c.args.group.now nodes c.in-Ok.to) (sym c.as_slice.ensures)
    (have_joined old.instances c.args.node.now c.args.group.now c.in-Ok.to (lawful_nodes old c.requires.lawful) c.requires.named c.requires.grouped new c.in_ok-instances.instances room c.in_ok-instances.ensures) in
    slice_get_within c.as_slice.result.now c.in-Ok.to (fresh_node c.args.node.now c.args.group.now) joined.at

pub returns : goal.returns
returns c =
    let old = c.args.place.now in
    let name = c.args.node.now in
    let group = c.args.group.now in
    let next : Placement = record { version = c.in_ok-version.version; rf = old.rf; instances = c.in_ok-instances.instances; shards = c.in_ok-shards.shards } in
    let rebalances : (moves : List (ℕ × ℕ)) × Rebalances c.in_ok-instances.instances c.in_ok-version.version c.in-Ok.to moves old.shards c.in_ok-shards.shards =
    subst (λ (nodes : List Instance). (moves : List (ℕ × ℕ)) × Rebalances nodes c.in_ok-version.version c.in-Ok.to moves old.shards c.in_ok-shards.shards) c.as_slice.ensures c.in_ok-shards.ensures.ok in
    let plan : IsAddition old name group next = record {
      is_new = subst (λ nodes. list_any (λ node. node.listed && pointwise nat_eq name node.name) nodes ≡ false) c.as_slice-old.ensures c.in-None.ensures.none;
      room = subst (λ nodes. HasRoom nodes name) c.as_slice-old.ensures (c.in-Ok.ensures.ok).1;
      node = c.in-Ok.to;
      joins = c.in_ok-instances.ensures;
      version = (c.in_ok-version.ensures.ok).0;
      version_fits = (c.in_ok-version.ensures.ok).1;
      rf = refl;
      moves = rebalances.0;
      rebalances = rebalances.1;
    } in
    record {
      plan = plan;
      lawful = addition_lawful old next name group c.requires.lawful c.requires.named c.requires.grouped plan;
      step = addition_step old next name group c.requires.lawful c.requires.named c.requires.grouped plan;
      refused = tt;
    }
