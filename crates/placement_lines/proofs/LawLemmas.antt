-- The laws of lines.
use Rattle.std.proofs.Common.{◌≡◌, ◌≢◌, ◌<◌, ℕ, List, length, Option, Some, None, sym, ap, subst, ◌∙◌, arith}
use Rattle.std.proofs.lemmas.List.{length-map}
use Rattle.m3_model.specs.Limits.{IsInit}
use Rattle.m3_model.proofs.MemberLemmas.{IsIn-map}
use Rattle.m3_model.specs.declared.act.Act.{Act}
use Rattle.m3_model.specs.declared.act.Act.TheVariants as act
use Rattle.m3_model.specs.declared.answer.Answer.{Answer}
use Rattle.m3_model.specs.declared.answer.Answer.TheVariants as answer
use Rattle.m3_model.specs.declared.placement.Assignment.{Assignment}
use Rattle.m3_model.specs.declared.placement.Instance.{Instance}
use Rattle.m3_model.specs.declared.placement.Placement.{Placement}
use Rattle.isolation_groups.specs.Groups.{group_of}
use Rattle.placement_core.specs.Lawful.{IsApart}
use Rattle.placement_core.specs.Shards.{Shard, nodes_of}
use Rattle.placement_core.proofs.OrderLemmas.{ascends-map, at_in}
use Rattle.placement_plan.specs.First.{HasGroups, IsFirstPlacement, IsFirstShard, IsInitial, first_instances}
use Rattle.placement_plan.proofs.DrainLemmas.{at_below}
use Rattle.placement_plan.proofs.InitialLemmas.{initial_first}
use Rattle.placement_plan.proofs.SpreadLemmas.{ascends_in, group_is}
use Rattle.placement_lines.specs.Laws.{InitsHaveOneRefusal, InitsLeadToOne, RefusedInitsLeadNowhere, RefusedStepsLeadNowhere, StepsHaveOneRefusal, StepsLeadToOne}
use Rattle.placement_acts.specs.Acts.{IsDueBy, IsInTheWay, refusal_due}
use Rattle.placement_lines.proofs.PlanLemmas.{one_plan, one_start}
use Rattle.placement_lines.proofs.WayCases.{by_way}
use Rattle.placement_lines.proofs.WayLemmas.{no_way, one_way}

one_due : (place : Option Placement) (a : Act) → ((b c : Answer) → IsInTheWay place a b → IsInTheWay place a c → b ≡ c) → (o : Option Answer) (b c : Answer) → IsDueBy place a o b → IsDueBy place a o c → b ≡ c
one_due place a one (Some refusal) b c h k = h ∙ sym k
one_due place a one None b c h k = one b c h k

pub refused_steps_lead_nowhere : RefusedStepsLeadNowhere
refused_steps_lead_nowhere place kept a next b lawful step leads h = no_way place lawful a next b step leads.plan (subst (λ (o : Option Answer). IsDueBy (Some place) a o b) leads.free h)

pub steps_have_one_refusal : StepsHaveOneRefusal
steps_have_one_refusal place kept a b c lawful step = one_due (Some place) a (one_way place lawful a step) (refusal_due (Some place) kept a) b c

pub steps_lead_to_one : StepsLeadToOne
steps_lead_to_one place kept a one other lawful step limits p q = one_plan place lawful a step limits one other p.plan q.plan

-- ---- `init`

groups_apart : (instances : List Instance) (a b : Assignment) → IsApart instances a b → group_of instances a.node ≢ group_of instances b.node
groups_apart instances a b apart e = apart.groups (sym (group_is instances a.node apart.one apart.of_one) ∙ e ∙ group_is instances b.node apart.other apart.of_other)

shard_groups : (rf : ℕ) (instances : List Instance) (shard : Shard) → IsFirstShard rf instances shard → HasGroups rf instances
shard_groups rf instances shard h = record {
  nodes = nodes_of shard;
  all = length-map shard (λ (a : Assignment). a.node) ∙ h.all;
  within = λ n m. let from = IsIn-map (λ (a : Assignment). a.node) shard n m in subst (λ (k : ℕ). k < length instances) from.2 (h.to_nodes from.0 from.1);
  differ = ascends-map (λ (a b : ℕ). group_of instances a ≢ group_of instances b) (λ (a : Assignment). a.node) shard
      (ascends_in (IsApart instances) (λ a b. group_of instances a.node ≢ group_of instances b.node) shard (λ a b ma mb. groups_apart instances a b) h.apart);
}

-- the seed doesn't matter to the placement
at_seed_0 : (rf shards seed : ℕ) (nodes : List (List ℕ × List ℕ)) → IsInit rf shards seed nodes → IsInit rf shards 0 nodes
at_seed_0 rf shards seed nodes init = record {
  some_replicas = init.some_replicas;
  few_replicas = init.few_replicas;
  some_shards = init.some_shards;
  few_shards = init.few_shards;
  seed_fits = omega arith;
  some_nodes = init.some_nodes;
  few_nodes = init.few_nodes;
  named = init.named;
  distinct = init.distinct;
}

first_groups : (rf shards seed : ℕ) (nodes : List (List ℕ × List ℕ)) (next : Placement) → IsInit rf shards seed nodes → IsInitial rf shards nodes next → HasGroups rf (first_instances nodes)
first_groups rf shards seed nodes next init plan =
    let made : IsFirstPlacement rf shards nodes next = initial_first rf shards nodes (at_seed_0 rf shards seed nodes init) next plan in
    let first = at_below next.shards 0 (omega (arith, init.some_shards, made.shards_are)) in
    subst (λ (instances : List Instance). HasGroups rf instances) made.instances_are (shard_groups rf next.instances first.0 (made.each_shard first.0 (at_in next.shards 0 first.0 first.1)))

pub refused_inits_lead_nowhere : RefusedInitsLeadNowhere
refused_inits_lead_nowhere rf shards seed nodes kept next b init leads =
    by_way None (act.Init rf shards seed nodes) (λ _. ⊥) (λ name s n r e. r) (λ s r. r.1 (first_groups rf shards seed nodes next init leads.plan)) b

pub inits_have_one_refusal : InitsHaveOneRefusal
inits_have_one_refusal rf shards seed nodes kept b c h k =
    by_way None (act.Init rf shards seed nodes) (λ x. x ≡ c) (λ name s n r e. absurd r)
    (λ s r. by_way None (act.Init rf shards seed nodes) (λ y. answer.Group s ≡ y) (λ name t n q e. absurd q) (λ t q. ap (λ n. answer.Group n) (r.0 ∙ sym q.0)) c k) b h

pub inits_lead_to_one : InitsLeadToOne
inits_lead_to_one rf shards seed nodes kept one other init p q = one_start rf shards nodes one other (at_seed_0 rf shards seed nodes init) p.plan q.plan
