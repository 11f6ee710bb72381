-- What is in the way of a step is one thing, and then there is no plan.
use Rattle.std.proofs.Common.{◌≡◌, ◌<◌, ℕ, List, true, false, slice_get, Some, sym, ap, ap₂, subst, ◌∙◌, inl, inr, arith}
use Rattle.std.proofs.lemmas.Option.{slice_get_within}
use Rattle.m3_model.specs.Members.{IsIn}
use Rattle.m3_model.specs.declared.act.Act.{Act}
use Rattle.m3_model.specs.declared.answer.Answer.{Answer}
use Rattle.m3_model.specs.declared.answer.Answer.TheVariants as answer
use Rattle.m3_model.specs.declared.placement.Assignment.{Assignment}
use Rattle.m3_model.specs.declared.placement.Placement.{Placement}
use Rattle.placement_core.specs.Lawful.{IsLawful}
use Rattle.placement_core.specs.NodeNames.{name_of}
use Rattle.placement_core.specs.Shards.{Shard, is_steady}
use Rattle.placement_core.proofs.HolderLemmas.{the_joining, is_moving}
use Rattle.placement_core.proofs.ListLemmas.{same_at}
use Rattle.placement_core.proofs.OrderLemmas.{at_in}
use Rattle.isolation_groups.specs.Groups.{IsFree}
use Rattle.placement_plan.specs.Choices.{MayTake}
use Rattle.placement_plan.specs.Nodes.{Has, IsFirstWhere, ListsNode}
use Rattle.placement_plan.specs.Plans.{IsDrain, IsReady}
use Rattle.placement_plan.specs.Refusals.{IsBusy, IsInitializing}
use Rattle.placement_plan.specs.declared.plan_err.PlaceErr.TheVariants as refused
use Rattle.placement_plan.proofs.DrainLemmas.{at_below}
use Rattle.placement_acts.specs.Acts.{IsInTheWay, Plans, Refuses, is_step_act}
use Rattle.placement_acts.proofs.ActLemmas.{by_step}
use Rattle.placement_lines.proofs.ChoiceLemmas.{one_at}
use Rattle.placement_lines.proofs.WayCases.{by_way}

-- ---- nodes and shards

-- a name is that of one listed node
pub listed_one : (place : Placement) → IsLawful place → (name : List ℕ) (n m : ℕ) → ListsNode place.instances name n → ListsNode place.instances name m → n ≡ m
listed_one place lawful name n m one other = one_at place.instances n m lawful.limits.distinct one.instance other.instance one.stands other.stands (one.named ∙ sym other.named)

pub first_one : (Holds : Shard → Type 0) (shards : List Shard) (k l : ℕ) → IsFirstWhere Holds shards k → IsFirstWhere Holds shards l → k ≡ l
first_one Holds shards k l one other =
    let not_below : ¬ (k < l) = λ lt. other.first k one.shard lt one.stands one.holds in
    let not_above : ¬ (l < k) = λ lt. one.first l other.shard lt other.stands other.holds in
    omega (arith, not_below, not_above)

-- one node joins a shard
joining_one : (place : Placement) → IsLawful place → (shard : Shard) → IsIn place.shards shard → (n m : ℕ) → IsInitializing n shard → IsInitializing m shard → n ≡ m
joining_one place lawful shard there n m one other =
    let h = lawful.shards shard there in
    let moving = (is_moving place.rf place.version shard h one.0 one.1 one.3).0 in
    let same = the_joining shard h.distinct moving one.0 one.1 one.3 ∙ sym (the_joining shard h.distinct moving other.0 other.1 other.3) in
    sym one.2 ∙ ap (λ (a : Assignment). a.node) same ∙ other.2

busy_one : (place : Placement) → IsLawful place → (node s t n m : ℕ) → IsBusy place.shards node s n → IsBusy place.shards node t m → (s ≡ t) × (n ≡ m)
busy_one place lawful node s t n m one other =
    let Moves : Shard → Type 0 = λ x. Has node x × (is_steady x ≡ false) in
    let same : s ≡ t = first_one Moves place.shards s t one.first other.first in
    let shard : one.first.shard ≡ other.first.shard = same_at place.shards t one.first.shard other.first.shard (subst (λ (k : ℕ). slice_get place.shards k ≡ Some one.first.shard) same one.first.stands) other.first.stands in
    (same, joining_one place lawful other.first.shard (at_in place.shards t other.first.shard other.first.stands) n m (subst (λ (x : Shard). IsInitializing n x) shard one.joins) other.joins)

-- where a shard of the node is busy the node isn't ready
busy_not_ready : (shards : List Shard) (node s n : ℕ) → IsBusy shards node s n → ¬ IsReady shards node
busy_not_ready shards node s n busy ready =
    let clash : true ≡ false = sym (ready busy.first.shard (at_in shards s busy.first.shard busy.first.stands) busy.first.holds.0) ∙ busy.first.holds.1 in cc

-- ---- refusals of one act

module _ (place : Placement) (lawful : IsLawful place) where
  same_listed : (P : ℕ → Type 0) (name : List ℕ) (n m : ℕ) → ListsNode place.instances name n → ListsNode place.instances name m → P m → P n
  same_listed P name n m one other p = subst P (sym (listed_one place lawful name n m one other)) p

  abbrev BusyOnce : Act → Type 0
  BusyOnce a = (s n t m : ℕ) → Refuses (Some place) a (refused.Busy s n) → Refuses (Some place) a (refused.Busy t m) → (s ≡ t) × (n ≡ m)

  busy_once : (a : Act) → is_step_act a ≡ true → BusyOnce a
  busy_once = by_step BusyOnce
      (λ name group s n t m h k. absurd h)
      (λ name s n t m h k. busy_one place lawful h.0 s t n m h.2 (same_listed (λ x. IsBusy place.shards x t m) name h.0 k.0 h.1 k.1 k.2))
      (λ name s n t m h k. absurd h)
      (λ name s n t m h k. (first_one (Has n) place.shards s t h.1 (same_listed (λ x. IsFirstWhere (Has x) place.shards t) name n m h.0 k.0 k.1), listed_one place lawful name n m h.0 k.0))
      (λ name by group s n t m h k. busy_one place lawful h.2.0 s t n m h.2.2 (same_listed (λ x. IsBusy place.shards x t m) name h.2.0 k.2.0 h.2.1 k.2.1 k.2.2))

  abbrev BusyAlone : Act → Type 0
  BusyAlone a = (s n t : ℕ) → Refuses (Some place) a (refused.Busy s n) → ¬ Refuses (Some place) a (refused.Group t)

  busy_alone : (a : Act) → is_step_act a ≡ true → BusyAlone a
  busy_alone = by_step BusyAlone
      (λ name group s n t h k. h)
      (λ name s n t h k. busy_not_ready place.shards h.0 s n h.2 (same_listed (IsReady place.shards) name h.0 k.0 h.1 k.1 k.2))
      (λ name s n t h k. h)
      (λ name s n t h k. k)
      (λ name by group s n t h k. busy_not_ready place.shards h.2.0 s n h.2.2 (same_listed (IsReady place.shards) name h.2.0 k.2.0 h.2.1 k.2.1 k.2.2))

  -- no node may take this least shard of the node
  abbrev Stuck : ℕ → ℕ → Type 0
  Stuck n shard = IsFirstWhere (λ s. Has n s × ((to : ℕ) → ¬ MayTake place.instances s n to)) place.shards shard

  -- the group has another replica of this least shard of the node
  abbrev Taken : List ℕ → ℕ → ℕ → Type 0
  Taken group n shard = IsFirstWhere (λ s. Has n s × ¬ IsFree place.instances s n group) place.shards shard

  abbrev GroupOnce : Act → Type 0
  GroupOnce a = (s t : ℕ) → Refuses (Some place) a (refused.Group s) → Refuses (Some place) a (refused.Group t) → s ≡ t

  group_once : (a : Act) → is_step_act a ≡ true → GroupOnce a
  group_once = by_step GroupOnce
      (λ name group s t h k. absurd h)
      (λ name s t h k. first_one (λ x. Has h.0 x × ((to : ℕ) → ¬ MayTake place.instances x h.0 to)) place.shards s t h.3 (same_listed (λ x. Stuck x t) name h.0 k.0 h.1 k.1 k.3))
      (λ name s t h k. absurd h)
      (λ name s t h k. absurd h)
      (λ name by group s t h k. first_one (λ x. Has h.2.0 x × ¬ IsFree place.instances x h.2.0 group) place.shards s t h.2.3 (same_listed (λ x. Taken group x t) name h.2.0 k.2.0 h.2.1 k.2.1 k.2.3))

  -- one thing is in the way
  pub one_way : (a : Act) → is_step_act a ≡ true → (b c : Answer) → IsInTheWay (Some place) a b → IsInTheWay (Some place) a c → b ≡ c
  one_way a step b c h = by_way (Some place) a (λ x. IsInTheWay (Some place) a c → x ≡ c)
      (λ name s n r e k. by_way (Some place) a (λ y. answer.Busy name s ≡ y)
      (λ other t m q f.
      let same = busy_once a step s n t m r q in
      ap₂ answer.Busy (e ∙ ap (name_of place.instances) same.1 ∙ sym f) same.0)
      (λ t q. absurd (busy_alone a step s n t r q)) c k)
      (λ s r k. by_way (Some place) a (λ y. answer.Group s ≡ y)
      (λ other t m q f. absurd (busy_alone a step t m s q r))
      (λ t q. ap (λ n. answer.Group n) (group_once a step s t r q)) c k) b h

  -- ---- where there is a plan nothing is in the way

  drain_finds : (name : List ℕ) (next : Placement) (s : ℕ) (plan : IsDrain place name next) → ¬ Stuck plan.node s
  drain_finds name next s plan first =
      let made = plan.follows.shards in
      let at = at_below next.shards s (subst (λ (n : ℕ). s < n) (sym made.count) (slice_get_within place.shards s first.shard first.stands)) in
      elim (made.each s first.shard at.0 first.stands at.1) as (λ _. ⊥) [ inl stays ↦ stays.0 first.holds.0 | inr goes ↦ first.holds.1 goes.1.0 goes.1.1.may ]

  abbrev Planned : Placement → Act → Type 0
  Planned next a = Plans (Some place) a next → ((s n : ℕ) → ¬ Refuses (Some place) a (refused.Busy s n)) × ((s : ℕ) → ¬ Refuses (Some place) a (refused.Group s))

  nothing_refuses : (next : Placement) (a : Act) → is_step_act a ≡ true → Planned next a
  nothing_refuses next = by_step (Planned next)
      (λ name group plan. (λ s n h. h, λ s h. h))
      (λ name plan. (
        λ s n h. busy_not_ready place.shards plan.node s n (same_listed (λ x. IsBusy place.shards x s n) name plan.node h.0 plan.lists h.1 h.2) plan.ready,
        λ s h. drain_finds name next s plan (same_listed (λ x. Stuck x s) name plan.node h.0 plan.lists h.1 h.3),
      ))
      (λ name plan. (λ s n h. h, λ s h. h))
      (λ name plan. (
        λ s n h. let first = same_listed (λ x. IsFirstWhere (Has x) place.shards s) name plan.node n plan.lists h.0 h.1 in plan.idle first.shard (at_in place.shards s first.shard first.stands) first.holds,
        λ s h. h,
      ))
      (λ name by group plan. (
        λ s n h. busy_not_ready place.shards plan.node s n (same_listed (λ x. IsBusy place.shards x s n) name plan.node h.2.0 plan.may.lists h.2.1 h.2.2) plan.may.ready,
        λ s h.
            let first = same_listed (λ x. Taken group x s) name plan.node h.2.0 plan.may.lists h.2.1 h.2.3 in
            first.holds.1 (plan.may.free first.shard (at_in place.shards s first.shard first.stands) first.holds.0),
      ))

  pub no_way : (a : Act) (next : Placement) (b : Answer) → is_step_act a ≡ true → Plans (Some place) a next → ¬ IsInTheWay (Some place) a b
  no_way a next b step plan = by_way (Some place) a (λ _. ⊥) (λ name s n r e. (nothing_refuses next a step plan).0 s n r) (λ s r. (nothing_refuses next a step plan).1 s r) b
