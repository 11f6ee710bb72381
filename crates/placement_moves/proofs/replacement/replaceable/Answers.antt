use Rattle.m3_model.specs.declared.placement.Instance.{Instance}
use Rattle.std.proofs.Common.{List, ◌≡◌, false, subst, ◌&&◌, nat_eq}
use Rattle.std.specs.Cmp.Lexicographic.{pointwise}
use Rattle.std.specs.List.{list_any}
use Rattle.m3_model.specs.Members.{IsIn}
use Rattle.placement_core.specs.NodeNames.{is_listed}
use Rattle.placement_core.specs.Shards.{Shard}
use Rattle.placement_plan.specs.Nodes.{ListsNode, IsFirstWhere, Has, CanHave}
use Rattle.isolation_groups.specs.Groups.{IsFree}
use Rattle.placement_plan.specs.Plans.{IsReady, HasRoom}
use Rattle.placement_plan.specs.Refusals.{IsBusy, IsPastLimit}
use Rattle.placement_plan.proofs.NodeLemmas.{lists_found, limit_refuses_replace}
use Rattle.placement_moves.proofs.replacement.replaceable.Goals as goal

pub returns-in-Some-clause-err : goal.returns-in-Some-clause-err
returns-in-Some-clause-err c = lists_found c.args.place.now c.args.by.now c.in-Some.field-0 (subst (λ nodes. ListsNode nodes c.args.by.now c.in-Some.field-0) c.as_slice-old.ensures c.in-Some.ensures.found)

pub returns-in-Err-clause-err : goal.returns-in-Err-clause-err
returns-in-Err-clause-err c =
    let place = c.args.place.now in
    let new : is_listed c.args.by.now place ≡ false = subst (λ nodes. list_any (λ node. node.listed && pointwise nat_eq c.args.by.now node.name) nodes ≡ false) c.as_slice-old.ensures c.in-None.ensures.none in
    let lists = subst (λ nodes. ListsNode nodes c.args.node.now c.in-Some-listed_node.from) c.as_slice-old.ensures c.in-Some-listed_node.ensures.found in
    limit_refuses_replace place c.args.node.now c.args.by.now c.args.group.now c.in-Err.refused new (lists_found place c.args.node.now c.in-Some-listed_node.from lists)
    (subst (λ nodes. IsPastLimit nodes c.args.by.now c.in-Err.refused) c.as_slice-old.ensures c.in-Err.ensures.err)

pub returns-in-Some-first_busy-clause-err : goal.returns-in-Some-first_busy-clause-err
returns-in-Some-first_busy-clause-err c =
    let place = c.args.place.now in
    let new : is_listed c.args.by.now place ≡ false = subst (λ nodes. list_any (λ node. node.listed && pointwise nat_eq c.args.by.now node.name) nodes ≡ false) c.as_slice-old.ensures c.in-None.ensures.none in
    let room = subst (λ nodes. HasRoom nodes c.args.by.now) c.as_slice-old.ensures (c.in-Ok.ensures.ok).1 in
    let lists = subst (λ nodes. ListsNode nodes c.args.node.now c.in-Some-listed_node.from) c.as_slice-old.ensures c.in-Some-listed_node.ensures.found in
    (new, room, (c.in-Some-listed_node.from, lists, subst (λ shards. IsBusy shards c.in-Some-listed_node.from c.in-Some-first_busy.shard c.in-Some-first_busy.node) c.as_slice-shards.ensures c.in-Some-first_busy.ensures.found))

pub returns-in-Some-first_taken-clause-err : goal.returns-in-Some-first_taken-clause-err
returns-in-Some-first_taken-clause-err c =
    let place = c.args.place.now in
    let new : is_listed c.args.by.now place ≡ false = subst (λ nodes. list_any (λ node. node.listed && pointwise nat_eq c.args.by.now node.name) nodes ≡ false) c.as_slice-old.ensures c.in-None.ensures.none in
    let room = subst (λ nodes. HasRoom nodes c.args.by.now) c.as_slice-old.ensures (c.in-Ok.ensures.ok).1 in
    let lists = subst (λ nodes. ListsNode nodes c.args.node.now c.in-Some-listed_node.from) c.as_slice-old.ensures c.in-Some-listed_node.ensures.found in
    let ready = subst (λ shards. IsReady shards c.in-Some-listed_node.from) c.as_slice-shards.ensures c.in_default-first_busy.ensures.none in
    let Taken : List Instance → List Shard → Type 0 = λ nodes shards. IsFirstWhere (λ shard. Has c.in-Some-listed_node.from shard × ¬ IsFree nodes shard c.in-Some-listed_node.from c.args.group.now) shards c.in-Some-first_taken.shard in
    (new, room, (c.in-Some-listed_node.from, lists, ready, subst (λ nodes. Taken nodes place.shards) c.as_slice-old.ensures (subst (Taken c.as_slice-old.result.now) c.as_slice-shards.ensures c.in-Some-first_taken.ensures.found)))

pub returns-in-None-first_taken-clause-ok : goal.returns-in-None-first_taken-clause-ok
returns-in-None-first_taken-clause-ok c =
    let place = c.args.place.now in
    let from = c.in-Some-listed_node.from in
    let Free : List Instance → List Shard → Type 0 = λ nodes shards. (shard : Shard) → IsIn shards shard → ¬ (Has from shard × ¬ IsFree nodes shard from c.args.group.now) in
    let free = subst (λ nodes. Free nodes place.shards) c.as_slice-old.ensures (subst (Free c.as_slice-old.result.now) c.as_slice-shards.ensures c.in-None-first_taken.ensures.none) in
    record {
      is_new = subst (λ nodes. list_any (λ node. node.listed && pointwise nat_eq c.args.by.now node.name) nodes ≡ false) c.as_slice-old.ensures c.in-None.ensures.none;
      lists = subst (λ nodes. ListsNode nodes c.args.node.now from) c.as_slice-old.ensures c.in-Some-listed_node.ensures.found;
      can = subst (λ nodes. CanHave nodes c.args.by.now c.in-Ok.to) c.as_slice-old.ensures (c.in-Ok.ensures.ok).0;
      room = subst (λ nodes. HasRoom nodes c.args.by.now) c.as_slice-old.ensures (c.in-Ok.ensures.ok).1;
      ready = subst (λ shards. IsReady shards from) c.as_slice-shards.ensures c.in_default-first_busy.ensures.none;
      free = λ shard m has a there ne e. free shard m (has, λ f. f a there ne e);
    }
