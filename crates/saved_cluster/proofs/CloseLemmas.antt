-- The meta disk, given back behind the disks of nodes.
use Rattle.std.proofs.Common.{◌≡◌, ◌≢◌, ◌⊎◌, ◌<◌, refl, sym, subst, ◌∙◌, inl, inr, arith, length}
use Rattle.std.specs.Prelude.{Option, Some, None}
use Rattle.m3_outside.specs.Slots.{Held, Here, OthersStay, Out}
use Rattle.m3_outside.specs.declared.disk.Disk.{Ghosts}
use Rattle.m3_outside.specs.declared.slot.DiskSlot.{DiskSlot}
use Rattle.line_tracks.specs.replica_exchange.declared.slot.Slot.{Slot}
use Rattle.line_tracks.specs.session_net.Runs.{slot_at}
use Rattle.line_tracks.specs.cluster_members.declared.members.Members.{Members}
use Rattle.line_tracks.specs.first_cluster.Depots.{AreOut, IsForReplicas, OwnedBy, disk_slot_of, meta_slot}
use Rattle.line_tracks.specs.tracks.Ends.{replica_at}
use Rattle.line_tracks.proofs.first_cluster_proofs.SlotCases.{other_disk_slot}
use Rattle.line_tracks.proofs.first_cluster_proofs.SlotLists.{slot_or_other}
use Rattle.served_cluster.specs.Owned.{AreReady, MayServeCluster}
use Rattle.served_cluster.specs.declared.cluster.Cluster.{Cluster}
use Rattle.saved_cluster.proofs.OutLemmas.{meta_at}

-- no replica stands over it
pub none_at_meta : {D : Type 0} {G : Ghosts D} (c : Cluster D G) (held : DiskSlot → Held D) → MayServeCluster c held → replica_at c.members meta_at ≡ None
none_at_meta {D} {G} c held may = by c.members refl
  where
    by : (o : Option (Members D G)) → c.members ≡ o → replica_at o meta_at ≡ None
    by None is = refl
    by (Some m) is =
        let own : AreOut m.slots.items m.net.replicas.members held = subst (λ (o : Option (Members D G)). OwnedBy o held) is may.owned in
        let ready : AreReady (Some m) = subst (λ (o : Option (Members D G)). AreReady o) is may.ready in
        own.only meta_at (λ i. (let low : 255 < length m.net.state.place.instances = ready.2.slots.nodes meta_at i in let few = m.few_nodes in omega (arith, low, few)))

-- no disk is out then
pub all_back : {D : Type 0} (mid new : DiskSlot → Held D) (disk : D) → ((disk_slot : DiskSlot) → IsForReplicas disk_slot → mid disk_slot ≢ Out) → new meta_slot ≡ Here disk → OthersStay meta_slot mid new → (disk_slot : DiskSlot) → new disk_slot ≢ Out
all_back mid new disk none here others disk_slot out = by (slot_or_other s meta_at)
  where
    s : Slot
    s = slot_at disk_slot.node disk_slot.shard

    of_meta : new meta_slot ≡ Out → ⊥
    of_meta held = let clash : Here disk ≡ Out = sym here ∙ held in cc

    by : (s ≡ meta_at) ⊎ ¬ (s ≡ meta_at) → ⊥
    by (inl same) = of_meta (subst (λ (t : Slot). new (disk_slot_of t) ≡ Out) same out)
    by (inr other) = let away = other_disk_slot s meta_at other in none disk_slot away (sym (others disk_slot away) ∙ out)
