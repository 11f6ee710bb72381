-- Former replicas: nodes of the placement other than the one that joins; who was fenced for its move runs, and was begun.
use Rattle.std.proofs.Common.{◌≡◌, ◌∙◌, ◌++◌, ℕ, List, [], Option, Some, Bool, true, false, refl, sym, ap, subst}
use Rattle.std.specs.Prelude.{slice_get, if◌then◌else◌}
use Rattle.m3_model.specs.Members.{IsIn}
use Rattle.m3_model.specs.declared.act.Act.TheVariants as act
use Rattle.m3_model.specs.declared.placement.Assignment.{Assignment}
use Rattle.m3_model.specs.declared.placement.Instance.{Instance}
use Rattle.m3_model.specs.declared.placement.Placement.{Placement}
use Rattle.m3_model.specs.declared.placement.ShardState.TheVariants.{Initializing}
use Rattle.m3_model.specs.declared.rules.MetaState.{MetaState}
use Rattle.m3_model.specs.declared.turn.Turn.{Turn}
use Rattle.placement_core.specs.Lawful.{IsLawful}
use Rattle.placement_core.specs.Shards.{Shard, former, holders, holds, is_holder, is_steady}
use Rattle.placement_core.proofs.HolderLemmas.{chosen_node, same_node}
use Rattle.placement_core.proofs.OrderLemmas.{names_at}
use Rattle.cluster_core.specs.Legal.{Legal}
use Rattle.cluster_core.specs.declared.event.Event.{Event}
use Rattle.cluster_core.specs.declared.event.Event.TheVariants as event
use Rattle.cluster_core.specs.declared.event.StepCall.TheVariants as call
use Rattle.cluster_core.specs.declared.event.StepReply.TheVariants as reply
use Rattle.cluster_core.proofs.ListLemmas.{at_in}
use Rattle.transcripts.specs.Fates.{IsRunningAt, OfNode}
use Rattle.transcripts.specs.Record.{TurnPosition, IsTurnPosition}
use Rattle.transcripts.specs.Waiting.{IsBegunFor}
use Rattle.told_by.specs.Hears.{Happens, InStretch, IsNamedBy}
use Rattle.told_by.specs.Told.{ToldBy}
use Rattle.told_causes.specs.Standing.{HaltsAlone}
use Rattle.told_causes.proofs.RunLemmas.{serves_beside, who_serves}

module _ (place : Placement) (lawful : IsLawful place) (s : ℕ) (shard : Shard) (there : slice_get place.shards s ≡ Some shard) where
  -- a former replica is one of the placement's nodes
  pub former_there : (node : ℕ) → IsIn (former shard) node → (i : Instance) × (slice_get place.instances node ≡ Some i)
  former_there node m = by (is_steady shard) m
    where
      by : (steady : Bool) → IsIn (if steady then [] else holders shard) node → (i : Instance) × (slice_get place.instances node ≡ Some i)
      by true none = absurd none
      by false among =
          let x = chosen_node is_holder shard node among in
          let listed = ((lawful.spread shard (at_in place.shards s shard there)).listed) x.0 x.1 in
          (listed.0, subst (λ n. slice_get place.instances n ≡ Some listed.0) x.2 listed.1)

  module _ (joining : Assignment) (joins : IsIn shard joining) (is_joining : joining.state ≡ Initializing) where
    -- who joins isn't one of them
    former_not : (node : ℕ) → IsIn (former shard) node → node ≡ joining.node → ⊥
    former_not node m is = by (is_steady shard) m
      where
        by : (steady : Bool) → IsIn (if steady then [] else holders shard) node → ⊥
        by true none = none
        by false among =
            let x = chosen_node is_holder shard node among in
            let same : x.0 ≡ joining = same_node shard x.0 joining (lawful.shards shard (at_in place.shards s shard there)).distinct x.1 joins (x.2 ∙ is) in
            let bad : true ≡ false = sym x.3 ∙ ap (λ (a : Assignment). holds a.state) same ∙ ap holds is_joining in
            cc

    -- so they have other names
    pub former_named : (name : List ℕ) → OfNode place joining.node (λ own. own ≡ name) → (node : ℕ) → IsIn (former shard) node → (one : Instance) → slice_get place.instances node ≡ Some one → one.name ≡ name → ⊥
    former_named name named node m one stands is = names_at place.instances node joining.node one named.instance_ (lawful.limits).distinct stands named.stands (former_not node m) (is ∙ sym named.holds)

-- who was fenced in the stretch of another node's bootstrap
module _ {tells : Bool} (start : Option MetaState) (turns : List Turn) (events : List Event) (legal : Legal tells events) (told : ToldBy start turns events) (halts : HaltsAlone turns) where
  pub fenced_serves : (p : TurnPosition) → IsTurnPosition turns p → (name : List ℕ) (asked : Option ℕ) → p.turn.act ≡ act.Bootstrap name asked
      → (place : Placement) (node shard : ℕ) (one : Instance) → slice_get place.instances node ≡ Some one → IsNamedBy events node one.name → (one.name ≡ name → ⊥)
      → (version : ℕ) → Happens (InStretch events ((told.spans).from p) ((told.spans).to p)) (event.Step node shard (call.Fence version) reply.Done)
      → IsRunningAt p place node × IsBegunFor start p place shard node
  fenced_serves p at name asked acts place node shard one stands everywhere other version h = (
    record { instance_ = one; stands = stands; holds = who_serves start turns events legal told halts p at node shard one.name everywhere (call.Fence version) reply.Done tt h },
    record { instance_ = one; stands = stands; holds = serves_beside start turns events legal told halts p at name asked acts node shard one.name everywhere other (call.Fence version) reply.Done tt h },
  )
