-- What is counted of the meta disk while it is out, and what stops leave of it.
use Rattle.std.proofs.Common.{◌≡◌, ℕ, List, refl, sym, ap, subst, ◌∙◌, inl, inr, true}
use Rattle.std.specs.Prelude.{Option, Some, None}
use Rattle.std.specs.FinMap.{empty}
use Rattle.m3_model.specs.declared.act.Act.{Act}
use Rattle.m3_model.specs.declared.act.Act.TheVariants as act
use Rattle.m3_model.specs.declared.answer.Answer.{Answer}
use Rattle.m3_model.specs.declared.answer.Answer.TheVariants as answer
use Rattle.m3_model.specs.declared.rules.MetaState.{MetaState}
use Rattle.m3_model.specs.declared.turn.Request.{Request}
use Rattle.m3_model.specs.declared.turn.Turn.{Turn}
use Rattle.m3_outside.specs.Depots.{Depot}
use Rattle.m3_outside.specs.DiskState.{DiskState, IsEmpty}
use Rattle.m3_outside.specs.Slots.{MayGive, Out}
use Rattle.m3_outside.specs.declared.disk.Disk.{Ghosts}
use Rattle.placement_log.specs.MetaHolds.{MetaHolds}
use Rattle.transcripts.specs.Fates.{is_stopped}
use Rattle.transcripts.specs.Record.{inner_turns}
use Rattle.saved_cluster.specs.replica_calls.Slots.{MemberMap}
use Rattle.saved_cluster.specs.replica_exchange.declared.slot.Slot.{Slot}
use Rattle.saved_cluster.specs.cluster_members.declared.members.Members.{Members}
use Rattle.saved_cluster.specs.first_cluster.Depots.{meta_slot}
use Rattle.saved_cluster.specs.first_cluster.Lending.{HasReturned, HasTaken, IsLeftAt}
use Rattle.saved_cluster.proofs.first_cluster_proofs.SlotLists.{in_or_out}
use Rattle.saved_cluster.specs.cluster_placements.Lending.{HaveGained, HaveReturned, IsUntakenAt}
use Rattle.saved_cluster.specs.cluster_placements.Steps.{IsChanged}
use Rattle.saved_cluster.specs.line_tracks.Acts.{IsInitAnswer, IsServedBy, IsStepAnswer}
use Rattle.saved_cluster.specs.served_cluster.Acts.{Serves}
use Rattle.saved_cluster.specs.served_cluster.Plans.{state_of}
use Rattle.saved_cluster.specs.served_cluster.declared.cluster.Cluster.{Cluster}
use Rattle.saved_cluster.proofs.served_cluster_proofs.OwnLemmas.{refused_returned}
use Rattle.saved_cluster.specs.Saved.{ElapsesBy, IsSaved, Leads, RunsOn}
use Rattle.saved_cluster.specs.States.{IsOnRunning, kept_of}
use Rattle.saved_cluster.proofs.OutLemmas.{meta_at}
use Rattle.m3_program.specs.Saved.{HoldsLast, LeadsUnanswered, LeaveState, StopsLeave, kept_by}

module _ {D : Type 0} (state : D → DiskState) where
  -- ---- what is counted, whatever disks are taken or given back for replicas

  abbrev Stays : Depot D → Depot D → Type 0
  Stays old new = new.counted meta_slot ≡ old.counted meta_slot

  left_stays : (old new : Depot D) → IsLeftAt state old new meta_at → Stays old new
  left_stays old new (inl same) = same.counted
  left_stays old new (inr back) = back.counted

  returned_stays : (slots : List Slot) (old new : Depot D) → HaveReturned state slots old new → Stays old new
  returned_stays slots old new h = elim (in_or_out slots meta_at) as (λ _. Stays old new) [ inl i ↦ left_stays old new (h.each meta_at i) | inr away ↦ (h.others meta_at away).counted ]

  untaken_stays : (slots : List Slot) (old new : Depot D) (slot : Slot) → IsUntakenAt state slots old new slot → Stays old new
  untaken_stays slots old new slot h = elim (in_or_out h.first meta_at) as (λ _. Stays old new) [ inl i ↦ left_stays old new (inr (h.back meta_at i)) | inr away ↦ (h.others meta_at away).counted ]

  gained_stays : (slots : List Slot) (old new : Depot D) (before after : MemberMap D) → HaveGained state slots old before new after → Stays old new
  gained_stays slots old new before after h = elim (in_or_out slots meta_at) as (λ _. Stays old new) [ inl i ↦ (h.gained meta_at i).counted | inr away ↦ (h.others meta_at away).counted ]

  taken_stays : (slots : List Slot) (old new : Depot D) (members : MemberMap D) → HasTaken state slots old members new → Stays old new
  taken_stays slots old new members h = elim (in_or_out slots meta_at) as (λ _. Stays old new) [ inl i ↦ (h.taken meta_at i).counted | inr away ↦ (h.others meta_at away).counted ]

  back_stays : (old new : Depot D) → HasReturned state old empty new → old.held meta_slot ≡ Out → Stays old new
  back_stays old new h was = elim (h.each meta_at) as (λ _. Stays old new) [
    | inl same ↦ same.counted
    | inr back ↦ absurd (subst (λ o. MayGive (λ d. IsEmpty (state d)) o back.opened.disk) was back.opened.given)
  ]

  module _ {G : Ghosts D} where
    changed_stays : (kept : ℕ) (a : Act) (depot : Depot D) (m : Members D G) (b : Answer) (after : Depot D) (g : Members D G) → IsChanged state kept a depot m b after g → Stays depot after
    changed_stays kept a depot m b after g (inl next) = gained_stays _ depot after _ next.placed.made next.placed.gained
    changed_stays kept a depot m b after g (inr (inl none)) = ap (λ (d : Depot D). d.counted meta_slot) none.depot_is
    changed_stays kept a depot m b after g (inr (inr (inl disk))) = untaken_stays _ depot after disk.slot disk.untaken
    changed_stays kept a depot m b after g (inr (inr (inr (inl full)))) = ap (λ (d : Depot D). d.counted meta_slot) full.depot_is
    changed_stays kept a depot m b after g (inr (inr (inr (inr memory)))) = returned_stays _ depot after memory.returned

    step_stays : (o : Option (Members D G)) (a : Act) (depot : Depot D) (b : Answer) (after : Depot D) (new : Option (Members D G)) → IsStepAnswer state depot o a b after new → Stays depot after
    step_stays None a depot b after new h = ap (λ (d : Depot D). d.counted meta_slot) h.2
    step_stays (Some m) a depot b after new h = changed_stays _ a depot m b after h.0 h.2

    init_stays : (rf shards seed : ℕ) (nodes : List (List ℕ × List ℕ)) (old : Option (Members D G)) (depot : Depot D) (b : Answer) (after : Depot D) (new : Option (Members D G)) → IsInitAnswer state depot old rf shards seed nodes b after new → depot.held meta_slot ≡ Out → Stays depot after
    init_stays rf shards seed nodes old depot (answer.Placed place version) after new h was = taken_stays _ depot after _ h.3.opened.taken
    init_stays rf shards seed nodes old depot answer.Order after new h was = ap (λ (d : Depot D). d.counted meta_slot) h.2
    init_stays rf shards seed nodes old depot b after new h was = back_stays depot after (refused_returned state rf shards seed nodes depot after b h.2) was

    -- so it is after any act
    pub counted_stays : (depot : Depot D) (old : Cluster D G) (a : Act) (b : Answer) (after : Depot D) (new : Cluster D G) → Serves state depot old a b after new → depot.held meta_slot ≡ Out → Stays depot after
    counted_stays depot old a b after new h was = by a h.members
      where
        by : (x : Act) → IsServedBy state old.calls depot old.members x b after new.members → Stays depot after
        by (act.Init rf shards seed nodes) it = init_stays rf shards seed nodes old.members depot b after new.members it was
        by (act.Add node group) it = step_stays old.members (act.Add node group) depot b after new.members it
        by (act.Drain node) it = step_stays old.members (act.Drain node) depot b after new.members it
        by (act.Cancel node) it = step_stays old.members (act.Cancel node) depot b after new.members it
        by (act.Remove node) it = step_stays old.members (act.Remove node) depot b after new.members it
        by (act.Replace node with_ group) it = step_stays old.members (act.Replace node with_ group) depot b after new.members it
        by _ it = ap (λ (d : Depot D). d.counted meta_slot) it.1

-- ---- what stops leave

-- where each stop leaves the state that the turns led to
pub saved_leaves : (d : DiskState) (start last : Option MetaState) (turns : List Turn) (unanswered : Option Request) → LeaveState start turns last → IsSaved last d → StopsLeave d start turns unanswered
saved_leaves d start last turns unanswered leave saved tells c image = record { last = last; may = record { state = last; leave = leave; is = inl refl }; holds = saved tells c image }

-- within a request, or after it
pub lost_leaves : {D : Type 0} {G : Ghosts D} (old new : DiskState) (start : Option MetaState) (turns : List Turn) (cluster after : Cluster D G) (asked : Request) → new.tells ≡ old.tells → LeaveState start turns (state_of cluster) → IsSaved (state_of cluster) old
    → kept_of cluster ≡ kept_by start turns (state_of cluster) → (RunsOn cluster asked → IsOnRunning (is_stopped (inner_turns turns)) asked)
    → (old.tells ≡ true → ElapsesBy cluster asked after old new) → StopsLeave new start turns (Some asked)
lost_leaves old new start turns cluster after asked same leave saved kept runs goes tells c image = by (goes told)
  where
    told : old.tells ≡ true
    told = sym same ∙ tells

    is_last : MetaHolds (state_of cluster) c → HoldsLast start turns (Some asked) c
    is_last holds = record { last = state_of cluster; may = record { state = state_of cluster; leave = leave; is = inl refl }; holds = holds }

    leads_on : (next : MetaState) → Leads cluster asked next → LeadsUnanswered start turns (state_of cluster) asked next
    leads_on next leads = record { kept = kept_of cluster; leads = leads.to; kept_is = kept; running = runs leads.runs }

    by : ElapsesBy cluster asked after old new → HoldsLast start turns (Some asked) c
    by (inl (same, keeps)) = let step = keeps.images c image in is_last (step.stepped.last (state_of cluster) (saved told step.before step.was))
    by (inr (next, leads, has, may)) =
        let step = may.images c image in
        elim (step.stepped.last (state_of cluster) (saved told step.before step.was)) as (λ _. HoldsLast start turns (Some asked) c) [
          | inl was ↦ is_last was
          | inr saves ↦ record { last = Some next; may = record { state = state_of cluster; leave = leave; is = inr (next, refl, leads_on next leads) }; holds = saves }
        ]
