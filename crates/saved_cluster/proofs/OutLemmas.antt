-- The meta disk stays out, whatever disks are taken or given back for replicas.
use Rattle.std.proofs.Common.{◌≡◌, ◌-◌, ◌^◌, ℕ, List, refl, sym, subst, ◌∙◌, inl, inr}
use Rattle.std.specs.Prelude.{Option, Some, None}
use Rattle.std.specs.FinMap.{empty}
use Rattle.m3_model.specs.declared.act.Act.{Act}
use Rattle.m3_model.specs.declared.act.Act.TheVariants as act
use Rattle.m3_model.specs.declared.answer.Answer.{Answer}
use Rattle.m3_model.specs.declared.answer.Answer.TheVariants as answer
use Rattle.m3_outside.specs.Depots.{Depot}
use Rattle.m3_outside.specs.DiskState.{DiskState, IsEmpty}
use Rattle.m3_outside.specs.Slots.{MayGive, Out}
use Rattle.m3_outside.specs.declared.disk.Disk.{Ghosts}
use Rattle.line_tracks.specs.replica_exchange.declared.slot.Slot.{Slot}
use Rattle.line_tracks.specs.replica_calls.Slots.{MemberMap}
use Rattle.line_tracks.specs.session_net.Runs.{slot_at}
use Rattle.line_tracks.specs.cluster_members.declared.members.Members.{Members}
use Rattle.line_tracks.specs.first_cluster.Depots.{meta_slot}
use Rattle.line_tracks.specs.first_cluster.First.{IsFirst}
use Rattle.line_tracks.specs.first_cluster.Lending.{AreAsTheyWere, HasReturned, HasTaken, IsLeftAt}
use Rattle.line_tracks.proofs.first_cluster_proofs.SlotLists.{in_or_out}
use Rattle.line_tracks.specs.cluster_placements.Lending.{HaveGained, HaveReturned, IsUntakenAt}
use Rattle.line_tracks.specs.cluster_placements.Steps.{IsChanged}
use Rattle.line_tracks.specs.tracks.Acts.{IsInitAnswer, IsServedBy, IsStepAnswer}
use Rattle.served_cluster.specs.Acts.{Serves}
use Rattle.served_cluster.specs.declared.cluster.Cluster.{Cluster}
use Rattle.served_cluster.proofs.OwnLemmas.{refused_returned}

-- the slot of a replica whose disk would lie in the slot of the meta disk
abbrev pub meta_at : Slot
meta_at = slot_at 255 (2 ^ 32 - 1)

module _ {D : Type 0} (state : D → DiskState) where
  -- ---- disks of slots

  pub left_out : (old new : Depot D) → IsLeftAt state old new meta_at → old.held meta_slot ≡ Out → new.held meta_slot ≡ Out
  left_out old new (inl same) was = same.held ∙ was
  left_out old new (inr back) was = absurd (subst (λ h. MayGive (λ d. IsEmpty (state d)) h back.disk) was back.given)

  returned_out : (slots : List Slot) (old new : Depot D) → HaveReturned state slots old new → old.held meta_slot ≡ Out → new.held meta_slot ≡ Out
  returned_out slots old new h was = elim (in_or_out slots meta_at) as (λ _. new.held meta_slot ≡ Out) [
    | inl i ↦ left_out old new (h.each meta_at i) was
    | inr away ↦ (h.others meta_at away).held ∙ was
  ]

  untaken_out : (slots : List Slot) (old new : Depot D) (slot : Slot) → IsUntakenAt state slots old new slot → old.held meta_slot ≡ Out → new.held meta_slot ≡ Out
  untaken_out slots old new slot h was = elim (in_or_out h.first meta_at) as (λ _. new.held meta_slot ≡ Out) [
    | inl i ↦ left_out old new (inr (h.back meta_at i)) was
    | inr away ↦ (h.others meta_at away).held ∙ was
  ]

  pub gained_out : (slots : List Slot) (old new : Depot D) (before after : MemberMap D) → HaveGained state slots old before new after → old.held meta_slot ≡ Out → new.held meta_slot ≡ Out
  gained_out slots old new before after h was = elim (in_or_out slots meta_at) as (λ _. new.held meta_slot ≡ Out) [
    | inl i ↦ (h.gained meta_at i).held
    | inr away ↦ (h.others meta_at away).held ∙ was
  ]

  pub taken_out : (slots : List Slot) (old new : Depot D) (members : MemberMap D) → HasTaken state slots old members new → old.held meta_slot ≡ Out → new.held meta_slot ≡ Out
  taken_out slots old new members h was = elim (in_or_out slots meta_at) as (λ _. new.held meta_slot ≡ Out) [
    | inl i ↦ (h.taken meta_at i).held
    | inr away ↦ (h.others meta_at away).held ∙ was
  ]

  pub back_out : (old new : Depot D) → HasReturned state old empty new → old.held meta_slot ≡ Out → new.held meta_slot ≡ Out
  back_out old new h was = elim (h.each meta_at) as (λ _. new.held meta_slot ≡ Out) [
    | inl same ↦ same.held ∙ was
    | inr back ↦ absurd (subst (λ o. MayGive (λ d. IsEmpty (state d)) o back.opened.disk) was back.opened.given)
  ]

  -- ---- answers

  module _ {G : Ghosts D} where
    changed_out : (kept : ℕ) (a : Act) (depot : Depot D) (m : Members D G) (b : Answer) (after : Depot D) (g : Members D G) → IsChanged state kept a depot m b after g → depot.held meta_slot ≡ Out → after.held meta_slot ≡ Out
    changed_out kept a depot m b after g (inl next) was = gained_out _ depot after _ next.placed.made next.placed.gained was
    changed_out kept a depot m b after g (inr (inl none)) was = subst (λ (d : Depot D). d.held meta_slot ≡ Out) (sym none.depot_is) was
    changed_out kept a depot m b after g (inr (inr (inl disk))) was = untaken_out _ depot after disk.slot disk.untaken was
    changed_out kept a depot m b after g (inr (inr (inr (inl full)))) was = subst (λ (d : Depot D). d.held meta_slot ≡ Out) (sym full.depot_is) was
    changed_out kept a depot m b after g (inr (inr (inr (inr memory)))) was = returned_out _ depot after memory.returned was

    step_out : (o : Option (Members D G)) (a : Act) (depot : Depot D) (b : Answer) (after : Depot D) (new : Option (Members D G)) → IsStepAnswer state depot o a b after new → depot.held meta_slot ≡ Out → after.held meta_slot ≡ Out
    step_out None a depot b after new h was = subst (λ (d : Depot D). d.held meta_slot ≡ Out) (sym h.2) was
    step_out (Some m) a depot b after new h was = changed_out _ a depot m b after h.0 h.2 was

    init_out : (rf shards seed : ℕ) (nodes : List (List ℕ × List ℕ)) (old : Option (Members D G)) (depot : Depot D) (b : Answer) (after : Depot D) (new : Option (Members D G)) → IsInitAnswer state depot old rf shards seed nodes b after new → depot.held meta_slot ≡ Out → after.held meta_slot ≡ Out
    init_out rf shards seed nodes old depot (answer.Placed place version) after new h was = taken_out _ depot after _ h.3.opened.taken was
    init_out rf shards seed nodes old depot answer.Order after new h was = subst (λ (d : Depot D). d.held meta_slot ≡ Out) (sym h.2) was
    init_out rf shards seed nodes old depot b after new h was = back_out depot after (refused_returned state rf shards seed nodes depot after b h.2) was

    -- so it is after any act
    pub serves_out : (depot : Depot D) (old : Cluster D G) (a : Act) (b : Answer) (after : Depot D) (new : Cluster D G) → Serves state depot old a b after new → depot.held meta_slot ≡ Out → after.held meta_slot ≡ Out
    serves_out depot old a b after new h was = by a h.members
      where
        by : (x : Act) → IsServedBy state old.calls depot old.members x b after new.members → after.held meta_slot ≡ Out
        by (act.Init rf shards seed nodes) it = init_out rf shards seed nodes old.members depot b after new.members it was
        by (act.Add node group) it = step_out old.members (act.Add node group) depot b after new.members it was
        by (act.Drain node) it = step_out old.members (act.Drain node) depot b after new.members it was
        by (act.Cancel node) it = step_out old.members (act.Cancel node) depot b after new.members it was
        by (act.Remove node) it = step_out old.members (act.Remove node) depot b after new.members it was
        by (act.Replace node with_ group) it = step_out old.members (act.Replace node with_ group) depot b after new.members it was
        by _ it = subst (λ (d : Depot D). d.held meta_slot ≡ Out) (sym it.1) was
