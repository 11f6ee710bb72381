-- A cluster opened over the meta disk, and disks that are back as they were.
use Rattle.std.proofs.Common.{◌≡◌, ◌≢◌, ◌≤◌, ◌⊎◌, ℕ, List, [], refl, sym, ap, subst, ◌∙◌, inl, inr, arith, Bool, true}
use Rattle.std.specs.FinMap.{empty}
use Rattle.std.specs.Prelude.{Option, Some, None}
use Rattle.m3_model.specs.declared.rules.MetaState.{MetaState}
use Rattle.m3_outside.specs.Causes.{Rose}
use Rattle.m3_outside.specs.Depots.{Depot}
use Rattle.m3_outside.specs.DiskState.{DiskState, IsEmpty, Told}
use Rattle.m3_outside.specs.Slots.{Held, Here, MayGive, OthersStay, Out}
use Rattle.m3_outside.specs.declared.disk.Disk.{Ghosts}
use Rattle.m3_outside.specs.declared.slot.DiskSlot.{DiskSlot}
use Rattle.placement_log.specs.Damage.{MayBeDamaged}
use Rattle.placement_log.specs.declared.open_err.OpenErr.{OpenErr}
use Rattle.placement_log.specs.declared.open_err.OpenErr.TheVariants as failures
use Rattle.line_tracks.specs.replica_exchange.declared.slot.Slot.{Slot}
use Rattle.line_tracks.specs.session_net.Runs.{slot_at}
use Rattle.line_tracks.specs.cluster_members.declared.members.Members.{Members}
use Rattle.line_tracks.specs.first_cluster.Depots.{IsForReplicas, disk_slot_of, meta_slot}
use Rattle.line_tracks.specs.first_cluster.Lending.{AreAsTheyWere, IsLeftAt}
use Rattle.line_tracks.specs.first_cluster.Slots.{slots_of}
use Rattle.line_tracks.proofs.first_cluster_proofs.SlotCases.{other_disk_slot}
use Rattle.line_tracks.proofs.first_cluster_proofs.SlotLists.{in_or_out, slot_or_other}
use Rattle.line_tracks.proofs.first_cluster_proofs.TakeAll.{rose_from, rose_to}
use Rattle.line_tracks.specs.cluster_placements.Lending.{HaveReturned}
use Rattle.line_tracks.specs.cluster_placements.Steps.{MayChange}
use Rattle.served_cluster.specs.Owned.{MayServeCluster}
use Rattle.served_cluster.specs.declared.cluster.Cluster.{Cluster}
use Rattle.served_cluster.proofs.KeptLemmas.{first_serves, ready_still}
use Rattle.saved_cluster.specs.Openings.{HasMetaDisk, IsGivenBack, IsMetaBack, IsMetaDisk, IsRead, MayNotGoOn, MayNotOpen, MayNotOpenOver, OpensWith}
use Rattle.saved_cluster.proofs.OutLemmas.{gained_out, meta_at}

-- the members of a cluster that goes on may serve
pub may_serve : {D : Type 0} {G : Ghosts D} (c : Cluster D G) (m : Members D G) (held : DiskSlot → Held D) → c.members ≡ Some m → MayChange m held → MayServeCluster c held
may_serve c m held is may = first_serves c m held is may.out (ready_still m held may)

module _ {D : Type 0} (state : D → DiskState) where
  -- ---- disks of nodes

  -- what was taken is back
  pub all_left : (slots : List Slot) (old new : Depot D) → HaveReturned state slots old new → AreAsTheyWere state old new
  all_left slots old new h = record {
    each = λ s. elim (in_or_out slots s) as (λ _. IsLeftAt state old new s) [
      | inl i ↦ h.each s i
      | inr out ↦ inl (h.others s out)
    ];
    later = h.later;
  }

  -- nothing was taken
  pub none_left : (old : Depot D) → AreAsTheyWere state old old
  none_left old = record { each = λ s. inl (record { held = refl; counted = refl }); later = omega arith }

  -- also where the slot was the same before and is the same afterwards
  left_between : (old mid after new : Depot D) (s : Slot) → mid.held (disk_slot_of s) ≡ old.held (disk_slot_of s) → mid.counted (disk_slot_of s) ≡ old.counted (disk_slot_of s) → new.held (disk_slot_of s) ≡ after.held (disk_slot_of s)
      → new.counted (disk_slot_of s) ≡ after.counted (disk_slot_of s) → IsLeftAt state mid after s → IsLeftAt state old new s
  left_between old mid after new s held counted held_too counted_too (inl same) = inl (record { held = held_too ∙ same.held ∙ held; counted = counted_too ∙ same.counted ∙ counted })
  left_between old mid after new s held counted held_too counted_too (inr back) =
      inr (record { disk = back.disk; given = subst (λ h. MayGive (λ d. IsEmpty (state d)) h back.disk) held back.given; held = held_too ∙ back.held; counted = counted_too ∙ back.counted ∙ counted })

  -- ---- the meta disk

  -- it was read, and given back; so were the disks of nodes
  pub given_back : (old mid after new : Depot D) (disk read : D) → IsMetaDisk state old disk → HasMetaDisk old mid → AreAsTheyWere state mid after → IsRead state disk read → new.held meta_slot ≡ Here read → new.counted meta_slot ≡ (state read).faults
      → OthersStay meta_slot after.held new.held → OthersStay meta_slot after.counted new.counted → after.faults ≤ new.faults → IsGivenBack state old new
  given_back old mid after new disk read is_meta has left was_read here counted others counted_others later = record {
    meta = inr (disk, read, is_meta, was_read, here, counted);
    nodes = λ s other. left_between old mid after new s (has.others (disk_slot_of s) other) (has.counted (disk_slot_of s)) (others (disk_slot_of s) other) (counted_others (disk_slot_of s) other) (left.each s);
    later = (let first = has.later in let then = left.later in omega (arith, first, then, later));
  }

  -- it couldn't be taken
  pub not_taken : (old new : Depot D) → new.held meta_slot ≡ old.held meta_slot → OthersStay meta_slot old.held new.held → ((disk_slot : DiskSlot) → new.counted disk_slot ≡ old.counted disk_slot) → old.faults ≤ new.faults → IsGivenBack state old new
  not_taken old new held others counted later = record {
    meta = inl (held, counted meta_slot);
    nodes = λ s other. inl (record { held = others (disk_slot_of s) other; counted = counted (disk_slot_of s) });
    later = later;
  }

  -- it stays out, whatever the cluster begins with
  pub opens_out : {G : Ghosts D} (last : Option MetaState) (mid new : Depot D) (members : Option (Members D G)) → OpensWith state last mid new members → mid.held meta_slot ≡ Out → new.held meta_slot ≡ Out
  opens_out None mid new members h was = subst (λ (d : Depot D). d.held meta_slot ≡ Out) (sym h.1) was
  opens_out (Some s) mid new members h was = gained_out state (slots_of s.place) mid new empty h.0.net.replicas.members h.2.gained was

  -- so no disk is out, where none was
  pub back_none_out : (old new : Depot D) → IsGivenBack state old new → ((disk_slot : DiskSlot) → old.held disk_slot ≢ Out) → (disk_slot : DiskSlot) → new.held disk_slot ≢ Out
  back_none_out old new back none disk_slot out = by (slot_or_other s meta_at)
    where
      s : Slot
      s = slot_at disk_slot.node disk_slot.shard

      of_meta : new.held meta_slot ≡ Out → IsMetaBack state old new → ⊥
      of_meta held (inl same) = none meta_slot (sym same.0 ∙ held)
      of_meta held (inr read) = let clash : Here read.1 ≡ Out = sym read.4 ∙ held in cc

      of_node : IsLeftAt state old new s → ⊥
      of_node (inl same) = none disk_slot (sym same.held ∙ out)
      of_node (inr given) = let clash : Here given.disk ≡ Out = sym given.held ∙ out in cc

      by : (s ≡ meta_at) ⊎ ¬ (s ≡ meta_at) → ⊥
      by (inl same) = of_meta (subst (λ (t : Slot). new.held (disk_slot_of t) ≡ Out) same out) back.meta
      by (inr other) = of_node (back.nodes s (other_disk_slot s meta_at other))

  -- ---- causes

  pub not_opened : (old : Depot D) (disk read : D) (e : OpenErr) → (e ≡ failures.Disk → Rose (state disk).faults (state read).faults) → Told (state disk) (λ files. MayBeDamaged files e) → MayNotOpenOver state old old disk read e
  not_opened old disk read failures.Disk rose told = inr (rose refl)
  not_opened old disk read failures.Memory rose told = tt
  not_opened old disk read (failures.Digest number kept found) rose told = told
  not_opened old disk read (failures.Form number at) rose told = told

  pub not_gone_on : (old new : Depot D) (disk read : D) (e : OpenErr) → MayNotGoOn old new e → MayNotOpenOver state old new disk read e
  not_gone_on old new disk read failures.Disk rose = inl rose
  not_gone_on old new disk read failures.Memory free = tt
  not_gone_on old new disk read (failures.Digest number kept found) never = absurd never
  not_gone_on old new disk read (failures.Form number at) never = absurd never

  pub not_opened_so : (old mid after new : Depot D) (disk read : D) (e : OpenErr) → IsMetaDisk state old disk → old.faults ≤ mid.faults → after.faults ≤ new.faults → new.counted meta_slot ≡ (state read).faults → MayNotOpenOver state mid after disk read e → MayNotOpen state old new e
  not_opened_so old mid after new disk read failures.Disk is_meta before behind counted (inl rose) = inl (rose_to old.faults after.faults new.faults (rose_from old.faults mid.faults after.faults before rose) behind)
  not_opened_so old mid after new disk read failures.Disk is_meta before behind counted (inr rose) = inr (subst (λ n. Rose n (new.counted meta_slot)) is_meta.counted (subst (Rose (state disk).faults) (sym counted) rose))
  not_opened_so old mid after new disk read failures.Memory is_meta before behind counted why = tt
  not_opened_so old mid after new disk read (failures.Digest number kept found) is_meta before behind counted why = (disk, is_meta, why)
  not_opened_so old mid after new disk read (failures.Form number at) is_meta before behind counted why = (disk, is_meta, why)
