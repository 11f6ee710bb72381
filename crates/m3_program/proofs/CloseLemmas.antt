-- What is promised of a run once its disks are given back.
use Rattle.std.proofs.Common.{◌≡◌, ◌≤◌, ◌-◌, ◌∙◌, ℕ, List, [], ◌∷◌, ◌++◌, ap, refl, subst, sym, inl, inr, arith, Bool, true}
use Rattle.std.specs.Prelude.{Option, Some, None}
use Rattle.std.specs.FinMap.{empty}
use Rattle.m3_model.specs.declared.placement.Assignment.{Assignment}
use Rattle.m3_model.specs.declared.point.Point.{Point}
use Rattle.m3_model.specs.declared.rules.MetaState.{MetaState}
use Rattle.m3_model.specs.declared.turn.Request.{Request}
use Rattle.m3_model.specs.declared.turn.Turn.{Turn}
use Rattle.m3_outside.specs.Causes.{RoseBy}
use Rattle.m3_outside.specs.DiskState.{DiskState, IsLawfulDisk}
use Rattle.m3_outside.specs.declared.disk.Disk.{Ghosts}
use Rattle.m3_outside.specs.declared.slot.DiskSlot.{DiskSlot}
use Rattle.m3_outside.specs.Depots.{Depot, TellAll}
use Rattle.m3_outside.specs.Files.{Files}
use Rattle.m3_outside.specs.Slots.{Here, Out}
use Rattle.placement_core.proofs.ListLemmas.{Any-from_IsIn}
use Rattle.shard_files.specs.FilesHold.{HoldWhole}
use Rattle.shard_files.proofs.FilesHoldLemmas.{files_hold_one, no_files_hold_whole_nothing}
use Rattle.transcripts.specs.Kept.{Kept}
use Rattle.transcripts.specs.Record.{Record}
use Rattle.saved_cluster.specs.first_cluster.Depots.{IsForReplicas, RisesBy, count_at, disk_slot_of, meta_slot}
use Rattle.life_ends.specs.Lies.{MayLie}
use Rattle.saved_cluster.specs.first_cluster.Lending.{IsLeftAt}
use Rattle.saved_cluster.specs.line_tracks.Leaves.{AreLowBy, SlotsStand, held_with}
use Rattle.saved_cluster.specs.replica_exchange.declared.member.Member.{Member}
use Rattle.saved_cluster.specs.replica_exchange.declared.slot.Slot.{Slot}
use Rattle.saved_cluster.specs.session_net.Runs.{slot_at}
use Rattle.saved_cluster.specs.served_cluster.Ends.{replica_at}
use Rattle.saved_cluster.specs.served_cluster.Owned.{held_at}
use Rattle.saved_cluster.specs.served_cluster.Plans.{state_of}
use Rattle.placement_log.proofs.LastLemmas.{last_is_one}
use Rattle.placement_log.specs.declared.open_err.OpenErr.TheVariants as failures
use Rattle.saved_cluster.specs.Openings.{IsMetaBack, IsOpened}
use Rattle.saved_cluster.specs.Saved.{MayClose}
use Rattle.saved_cluster.specs.declared.saved.SavedCluster.{SavedCluster}
use Rattle.m3_program.specs.Faults.{counts_of}
use Rattle.m3_program.specs.Lives.{FilesStandFor, IsLowSlot, StandFor, StandsStill, replica_slot}
use Rattle.m3_program.specs.LifeLaws.{UnopenedLieLess}
use Rattle.m3_program.specs.Openings.{IsUnopened}
use Rattle.m3_program.specs.Runs.{HasCauses}
use Rattle.m3_program.specs.Saved.{MayBeLast}
use Rattle.m3_program.specs.Streams.{HaveServed, KnowsMembers, LeavesSlots, Stage, held_back, opening_at, stage}
use Rattle.m3_program.specs.declared.status.Status.{Status}
use Rattle.m3_program.specs.declared.status.Status.TheVariants as status
use Rattle.saved_cluster.proofs.CloseLemmas.{none_at_meta}
use Rattle.saved_cluster.proofs.OutLemmas.{meta_at}
use Rattle.saved_cluster.proofs.line_tracks_proofs.LainLemmas.{lies}
use Rattle.saved_cluster.proofs.served_cluster_proofs.EndLemmas.{kept_where_tracked}
use Rattle.m3_program.proofs.FreshLemmas.{meta_stays}
use Rattle.m3_program.proofs.LifeLemmas.{began, begins_over, elsewhere, follows_on, same_or_other, there, with_slot}
use Rattle.m3_program.proofs.PromiseLemmas.{Closes, causes_closed, life_after, rises_on}
use Rattle.m3_program.proofs.StandLemmas.{stops_leave_standing}

-- nothing was done, for want of memory
pub unopened_idly : {D : Type 0} (state : D → DiskState) (disks : Depot D) → IsUnopened state disks disks status.Memory
unopened_idly state disks = record {
  why = failures.Memory;
  ended_is = refl;
  cause = tt;
  back = record { meta = inl (refl, refl); nodes = λ s other. inl (record { held = refl; counted = refl }); later = omega arith };
}

module _ {D : Type 0} {G : Ghosts D} (state : D → DiskState) where
  -- the meta disk's count was no higher as the cluster was opened
  pub opened_count : (before now : Depot D) (c : SavedCluster D G) → IsOpened state before now c → before.counted meta_slot ≤ (state c.meta).faults
  opened_count before now c opened = let read = opened.read.faults in let given = opened.is_meta.counted in omega (arith, read, given)

  pub closes_so : (before now : Depot D) (c : SavedCluster D G) (opened : IsOpened state before now c) (mid : Stage D G) (last : Depot D) → MayClose mid.saved mid.depot.held → (state c.meta).faults ≤ (state mid.saved.meta).faults
      → ((s : Slot) → IsForReplicas (disk_slot_of s) → last.counted (disk_slot_of s) ≡ count_at state mid.depot (replica_at mid.saved.cluster.members s) s) → last.counted meta_slot ≡ (state mid.saved.meta).faults
      → (between : ℕ) × RisesBy state mid.depot mid.saved.cluster.members between × RoseBy ((state mid.saved.meta).faults - mid.depot.counted meta_slot) between last.faults → mid.depot.faults ≤ last.faults
      → Closes state before opened.mid mid last
  closes_so before now c opened mid last may later counted meta rose on = record {
    same = opened.has.counted;
    opened = opened.has.later;
    no_replica = none_at_meta mid.saved.cluster mid.depot.held may.cluster;
    counted = counted;
    meta_later = (let was = opened_count before now c opened in let same = opened.has.counted meta_slot in omega (arith, was, same, later, meta));
    rose = rises_on state mid.depot mid.saved.cluster.members rose.0 ((state mid.saved.meta).faults - mid.depot.counted meta_slot) last.faults rose.1 rose.2;
    later = on;
  }

  module _ (lawful : (d : D) → IsLawfulDisk (state d)) (before now : Depot D) (c : SavedCluster D G) (opened : IsOpened state before now c) (mid : Stage D G) (turns : List Turn) (unanswered : Option Request)
      (served : HaveServed state (opening_at (stage c now)) mid turns unanswered) where
    -- what the reads had to keep, also where a turn more was served
    pub kept_over : (past : List Record) → StandFor state past before.held → Kept (life_after past (state_of c.cluster) turns unanswered)
    kept_over past stand =
        let tracked = served.tracked true past opened.mid (begins_over state lawful before now c opened true past (λ is. stand)) in
        kept_where_tracked state lawful mid.saved.cluster.members past (state_of c.cluster) opened.mid mid.depot turns tracked.more mid.saved.cluster.calls unanswered tracked.tracks

    pub causes_over : (last : Depot D) → Closes state before opened.mid mid last → (tells : Bool) (past : List Record) → (tells ≡ true → StandFor state past before.held)
        → HasCauses tells (counts_of before) (counts_of last) (life_after past (state_of c.cluster) turns unanswered)
    causes_over last closes tells past stand =
        let tracked = served.tracked tells past opened.mid (begins_over state lawful before now c opened tells past stand) in
        causes_closed state before opened.mid mid last closes (served.counted ∙ meta_stays state before now c opened) lawful tells past (state_of c.cluster) turns tracked.more unanswered tracked.few tracked.tracks

-- ---- what lies in the slots then

module _ {D : Type 0} (state : D → DiskState) where
  -- a disk that was read, and its slot given back
  meta_less : TellAll state → (before now : Depot D) → IsMetaBack state before now → (files : Files) → MayLie state (now.held meta_slot) files → MayLie state (before.held meta_slot) files
  meta_less tell before now (inl same) files mine = subst (λ held. MayLie state held files) same.0 mine
  meta_less tell before now (inr (disk, read, is_meta, was_read, here, counted)) files mine =
      let step = (was_read.any_moment (tell disk)).images files (subst (λ held. MayLie state held files) here mine) in
      lies state tell (before.held meta_slot) disk is_meta.given files (subst (state disk).images (sym step.stepped) step.was)

  node_less : TellAll state → (before now : Depot D) (s : Slot) → IsLeftAt state before now s → (files : Files) → MayLie state (now.held (disk_slot_of s)) files → MayLie state (before.held (disk_slot_of s)) files
  node_less tell before now s (inl same) files mine = subst (λ held. MayLie state held files) same.held mine
  node_less tell before now s (inr back) files mine = lies state tell (before.held (disk_slot_of s)) back.disk back.given files (subst (λ held. MayLie state held files) back.held mine)

  -- nothing was done but that disks were taken, and given back
  pub unopened_lie_less : UnopenedLieLess state
  unopened_lie_less before now ended tell unopened slot files mine =
      elim (same_or_other slot meta_slot) as (λ _. MayLie state (before.held slot) files) [
        | inl same ↦ subst (λ s. MayLie state (before.held s) files) (sym same) (meta_less tell before now unopened.back.meta files (subst (λ s. MayLie state (now.held s) files) same mine))
        | inr other ↦ node_less tell before now (slot_at slot.node slot.shard) (unopened.back.nodes (slot_at slot.node slot.shard) other) files mine
      ]

  -- so they stand for what they stood for
  pub unopened_stands : (before now : Depot D) (ended : Status) → IsUnopened state before now ended → StandsStill state before.held now.held
  unopened_stands before now ended unopened past stand = stops_leave_standing state past before.held now.held (unopened_lie_less before now ended stand.tell unopened) stand

-- What lies in the slots once all disks are given back: those of the replicas, in each other slot what lay there, and the meta disk.
pub record GivesBack {D : Type 0} {G : Ghosts D} (state : D → DiskState) (mid : Stage D G) (last : Depot D) : Type 0 where
  pub close : MayClose mid.saved mid.depot.held
  pub known : KnowsMembers state mid
  pub meta : last.held meta_slot ≡ Here mid.saved.meta
  pub held : (s : Slot) → IsForReplicas (disk_slot_of s) → last.held (disk_slot_of s) ≡ held_at mid.depot (replica_at mid.saved.cluster.members s) s

module _ {D : Type 0} {G : Ghosts D} (state : D → DiskState) (lawful : (d : D) → IsLawfulDisk (state d)) (before now : Depot D) (c : SavedCluster D G) (opened : IsOpened state before now c) (mid : Stage D G) (turns : List Turn) (unanswered : Option Request)
    (served : HaveServed state (opening_at (stage c now)) mid turns unanswered) (last : Depot D) (back : GivesBack state mid last) (past : List Record) (stand : StandFor state past before.held) where
  abbrev run : Record
  run = record { start = state_of c.cluster; turns = turns; unanswered = unanswered }

  -- the slot of the meta disk is empty before it is given back
  meta_out : held_back mid meta_slot ≡ Out
  meta_out = ap (λ o. held_with mid.depot.held o meta_at) (none_at_meta mid.saved.cluster mid.depot.held back.close.cluster) ∙ back.close.meta_out

  same_held : (o : Option (Member D)) (s : Slot) → held_at mid.depot o s ≡ held_with mid.depot.held o s
  same_held None s = refl
  same_held (Some member) s = refl

  others_back : (slot : DiskSlot) → IsForReplicas slot → last.held slot ≡ held_back mid slot
  others_back slot away =
      let s = slot_at slot.node slot.shard in
      back.held s away ∙ same_held (replica_at mid.saved.cluster.members s) s

  module _ (files : DiskSlot → Files) (mine : (slot : DiskSlot) → MayLie state (last.held slot) (files slot)) where
    of_meta : (state mid.saved.meta).images (files meta_slot)
    of_meta = subst (λ held. MayLie state held (files meta_slot)) back.meta (mine meta_slot)

    abbrev leaves : LeavesSlots state past run (held_back mid) (files meta_slot)
    leaves = served.slots past opened.mid (begins_over state lawful before now c opened true past (λ is. stand)) back.known (files meta_slot) of_meta

    may_be : MayBeLast run.start turns unanswered leaves.left
    may_be =
        let last = served.leaves (stand.tell mid.saved.meta) (files meta_slot) of_meta in
        subst (MayBeLast run.start turns unanswered) (last_is_one last.last leaves.left (files meta_slot) last.holds leaves.holds) last.may

    -- where the meta disk was out there are none
    abbrev others : DiskSlot → Files
    others slot = with_slot meta_slot empty files slot

    others_lie : (slot : DiskSlot) → MayLie state (held_back mid slot) (others slot)
    others_lie slot =
        elim (same_or_other slot meta_slot) as (λ _. MayLie state (held_back mid slot) (others slot)) [
          | inl same ↦ subst (λ s. MayLie state (held_back mid s) (others s)) (sym same) (subst (λ held. MayLie state held (others meta_slot)) (sym meta_out) (there meta_slot empty files))
          | inr other ↦ subst (MayLie state (held_back mid slot)) (sym (elsewhere meta_slot empty files slot other)) (subst (λ held. MayLie state held (files slot)) (others_back slot other) (mine slot))
        ]

    abbrev left : SlotsStand (past ++ run ∷ []) leaves.left (λ n s. others (replica_slot n s))
    left = leaves.slots (λ n s. others (replica_slot n s)) (λ n s. others_lie (replica_slot n s))

    low_slot : (o : Option MetaState) (n s : ℕ) (points : List Point) (tenure fence : ℕ) → AreLowBy o n s points tenure fence → IsLowSlot o n s points tenure fence
    low_slot None n s points tenure fence low = low
    low_slot (Some st) n s points tenure fence low = (
      record { version = low.0.version; own = λ shard at a among node. low.0.own a.tenure (shard, at, Any-from_IsIn (λ (x : Assignment). (x.node ≡ n) × (x.tenure ≡ a.tenure)) shard a among (node, refl)) },
      low.1,
    )

    all_left : FilesStandFor (past ++ run ∷ []) files
    all_left = record {
      state = leaves.left;
      last = leaves.holds;
      follows = follows_on None past run leaves.left (began state lawful before now c opened past stand) may_be;
      held = left.opening;
      slots = λ n s away.
          let h = left.slots n s in record {
            tenure = h.tenure;
            fence = h.fence;
            whole = subst (HoldWhole (left.opening n s) h.tenure h.fence) (elsewhere meta_slot empty files (replica_slot n s) away) h.whole;
            low = low_slot leaves.left n s (left.opening n s) h.tenure h.fence h.low;
          };
      none = λ n s at.
          let h = left.slots n s in
          let holds = subst (HoldWhole (left.opening n s) h.tenure h.fence) (ap others at ∙ there meta_slot empty files) h.whole in
          (files_hold_one (left.opening n s) [] h.tenure 0 h.fence 0 empty holds.held no_files_hold_whole_nothing.held).0;
      stands = left.stands;
    }

  -- The disks stand for these runs and this one.
  pub leaves_over : StandFor state (past ++ run ∷ []) last.held
  leaves_over = record { tell = stand.tell; each = all_left }
