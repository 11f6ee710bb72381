-- A node that takes another's shards.
use Rattle.std.proofs.Common.{◌≡◌, ℕ, List, [], length, slice_get, Some, None, refl, sym, ap, subst, inl, inr, ◌∙◌, IsTrue, true}
use Rattle.placement_core.specs.m3_model.Members.{IsIn}
use Rattle.placement_core.specs.m3_model.Names.{is_name}
use Rattle.placement_core.proofs.m3_model_proofs.MemberLemmas.{IsIn-map}
use Rattle.placement_core.specs.m3_model.declared.placement.Assignment.{Assignment}
use Rattle.placement_core.specs.m3_model.declared.placement.Instance.{Instance}
use Rattle.placement_core.specs.m3_model.declared.placement.Placement.{Placement}
use Rattle.placement_core.specs.Shards.{Shard}
use Rattle.placement_core.specs.Lawful.{IsSpread, IsLawful}
use Rattle.placement_core.specs.Steps.{KeepsNames, IsStep, IsShardStep}
use Rattle.placement_core.proofs.ListLemmas.{same_at}
use Rattle.placement_core.proofs.OrderLemmas.{at_in}
use Rattle.placement_plan.specs.Nodes.{Has, Joins, fresh_node}
use Rattle.isolation_groups.specs.Groups.{IsFree}
use Rattle.placement_plan.specs.Choices.{MayTake}
use Rattle.placement_plan.specs.Plans.{MovesShardTo, MayReplace, IsReplacement}
use Rattle.placement_plan.proofs.SpreadLemmas.{IsKept, spread_kept, moved_spread, group_is}
use Rattle.placement_plan.proofs.ShardLemmas.{steady_of, moved_step}
use Rattle.placement_plan.proofs.PlanLemmas.{AreAlike, lawful_nodes, alike_set, alike_names, alike_nodes, set_cases, spread_alike, follows_step, follows_lawful, none_done}
use Rattle.placement_plan.proofs.JoinLemmas.{HaveJoined, have_joined}

-- names that are kept twice are kept
pub names_twice : (a b c : List Instance) → KeepsNames a b → KeepsNames b c → KeepsNames a c
names_twice a b c ab bc n was at = let i = ab n was at in let j = bc n i.0 i.1 in (j.0, j.1, j.2 ∙ i.2)

-- a node that has a shard stays as it is where one comes
pub used_kept : (old : List Instance) (name group : List ℕ) (next : List Instance) (node : ℕ) (shard : Shard) → HaveJoined old name group next node → IsSpread old shard → (a : Assignment) → IsIn shard a → IsKept old next a.node
used_kept old name group next node shard joined spread a m =
    let l = spread.listed a m in
    record { was = l.0; is = l.0; at_old = l.1; at_next = joined.kept a.node l.0 l.1 l.2; name = refl; group = refl; listed = refl }

pub lacks_joined : (old : List Instance) (name group : List ℕ) (next : List Instance) (node : ℕ) (shard : Shard) → HaveJoined old name group next node → IsSpread old shard → ¬ Has node shard
lacks_joined old name group next node shard joined spread has =
    let a = IsIn-map (λ (x : Assignment). x.node) shard node has in
    let l = spread.listed a.0 a.1 in
    joined.other (a.0).node l.0 l.1 l.2 a.2

pub spread_joined : (old : List Instance) (name group : List ℕ) (next : List Instance) (node : ℕ) (shard : Shard) → HaveJoined old name group next node → IsSpread old shard → IsSpread next shard
spread_joined old name group next node shard joined spread = spread_kept old next shard (used_kept old name group next node shard joined spread) spread

-- the node that came may take a shard where its group is free
pub joined_takes : (old : List Instance) (name group : List ℕ) (next : List Instance) (node : ℕ) (shard : Shard) (from : ℕ) → HaveJoined old name group next node → IsSpread old shard → IsFree old shard from group → MayTake next shard from node
joined_takes old name group next node shard from joined spread free = record {
  instance = fresh_node name group;
  stands = joined.at;
  listed = refl;
  serves = refl;
  lacks = lacks_joined old name group next node shard joined spread;
  free = λ a m ne e.
      let l = spread.listed a m in
      free a m ne (group_is old a.node l.0 l.1 ∙ sym (group_is next a.node l.0 (joined.kept a.node l.0 l.1 l.2)) ∙ e);
}

-- the node stays where it is when the other one comes
pub marked_at : (old : Placement) (name by group : List ℕ) → IsLawful old → IsTrue (is_name by) → IsTrue (is_name group) → (node to : ℕ) → (may : MayReplace old name by group node to) → (joined : List Instance) → Joins old.instances by group joined to
    → slice_get joined node ≡ Some ((may.lists).instance)
marked_at old name by group lawful named grouped node to may joined joins =
    (have_joined old.instances by group to (lawful_nodes old lawful) named grouped may.is_new joined may.room joins).kept node ((may.lists).instance) ((may.lists).stands) ((may.lists).listed)

module _ (old next : Placement) (name by group : List ℕ) (lawful : IsLawful old) (named : IsTrue (is_name by)) (grouped : IsTrue (is_name group)) (plan : IsReplacement old name by group next) where
  abbrev marked : Instance
  marked = record (((plan.may).lists).instance) { drained = true }

  joined : HaveJoined old.instances by group plan.joined plan.to
  joined = have_joined old.instances by group plan.to (lawful_nodes old lawful) named grouped (plan.may).is_new plan.joined (plan.may).room plan.joins

  node_at : slice_get plan.joined plan.node ≡ Some (((plan.may).lists).instance)
  node_at = joined.kept plan.node (((plan.may).lists).instance) (((plan.may).lists).stands) (((plan.may).lists).listed)

  alike : AreAlike plan.joined next.instances
  alike = subst (AreAlike plan.joined) (sym plan.instances) (alike_set plan.joined plan.node (((plan.may).lists).instance) marked node_at refl refl)

  listed_same : (n : ℕ) (i j : Instance) → slice_get plan.joined n ≡ Some i → slice_get next.instances n ≡ Some j → j.listed ≡ i.listed
  listed_same n i j ei ej =
      elim (set_cases plan.joined plan.node marked n j (ap (λ nodes. slice_get nodes n) (sym plan.instances) ∙ ej)) as (λ _. j.listed ≡ i.listed) [
        | inl h ↦ ap (λ (z : Instance). z.listed) h.1 ∙ ap (λ (z : Instance). z.listed) (same_at plan.joined n (((plan.may).lists).instance) i (ap (slice_get plan.joined) h.0 ∙ node_at) ei)
        | inr h ↦ ap (λ (z : Instance). z.listed) (same_at plan.joined n j i h.1 ei)
      ]

  spread_in : (shard : Shard) → IsSpread plan.joined shard → IsSpread next.instances shard
  spread_in shard spread = spread_alike plan.joined next.instances shard alike (λ n i j used. listed_same n i j) spread

  step_of : (s : ℕ) (a b : Shard) → slice_get old.shards s ≡ Some a → MovesShardTo next.version plan.node plan.to a b → IsShardStep next.version a b None
  step_of s a b at made = elim made as (λ _. IsShardStep next.version a b None) [
    | inl h ↦ inl h.1
    | inr h ↦
        let m = at_in old.shards s a at in
        subst (λ x. IsShardStep next.version a x None) (sym h.1) (moved_step next.version plan.node plan.to a (steady_of old.rf old.version a (lawful.shards a m) ((plan.may).ready a m h.0)) h.0
        (lacks_joined old.instances by group plan.joined plan.to a joined (lawful.spread a m)))
  ]

  spread_of : (s : ℕ) (a b : Shard) → slice_get old.shards s ≡ Some a → MovesShardTo next.version plan.node plan.to a b → IsSpread next.instances b
  spread_of s a b at made =
      let m = at_in old.shards s a at in
      let spread = spread_joined old.instances by group plan.joined plan.to a joined (lawful.spread a m) in
      spread_in b (elim made as (λ _. IsSpread plan.joined b) [
        | inl h ↦ subst (IsSpread plan.joined) (sym h.1) spread
        | inr h ↦ subst (IsSpread plan.joined) (sym h.1) (moved_spread next.version plan.joined plan.node plan.to a (joined.nodes).distinct (steady_of old.rf old.version a (lawful.shards a m) ((plan.may).ready a m h.0)) spread
            (joined_takes old.instances by group plan.joined plan.to a plan.node joined (lawful.spread a m) ((plan.may).free a m h.0)))
      ])

  pub replacement_step : IsStep old next []
  replacement_step = follows_step old next [] (λ s. MovesShardTo next.version plan.node plan.to) plan.follows (names_twice old.instances plan.joined next.instances joined.names (alike_names plan.joined next.instances alike)) (none_done (length old.shards)) step_of

  pub replacement_lawful : IsLawful next
  replacement_lawful = follows_lawful old next (λ s. MovesShardTo next.version plan.node plan.to) lawful plan.follows (alike_nodes plan.joined next.instances alike joined.nodes) (λ s a b at made. ((None, step_of s a b at made), spread_of s a b at made))
