-- Slots that differ, and what a map of members has without one of them.
use Rattle.std.proofs.Common.{◌≡◌, refl, ap, ◌∙◌, Bool, true, false, cond}
use Rattle.std.specs.Prelude.{None}
use Rattle.std.specs.FinMap.{get, remove, get-remove}
use Rattle.std.specs.Ordering.{eq_by_cmp}
use Rattle.m3_outside.specs.declared.slot.DiskSlot.{DiskSlot}
use Rattle.cluster_members.specs.replica_exchange.declared.slot.Slot.{Slot}
use Rattle.cluster_members.specs.replica_calls.Slots.{MemberMap, slot_cmp}
use Rattle.cluster_members.proofs.replica_calls_proofs.SlotLemmas.{slot_cmp_total, same_slot}
use Rattle.first_cluster.specs.Depots.{disk_slot_of}
use Rattle.first_cluster.proofs.SlotLists.{own_slot}

-- slots that differ have disks in slots that differ
pub other_disk_slot : (s t : Slot) → ¬ (s ≡ t) → ¬ (disk_slot_of s ≡ disk_slot_of t)
other_disk_slot s t apart same = apart (λ k. record { shard = ap (λ (p : DiskSlot). p.shard) same k; node = ap (λ (p : DiskSlot). p.node) same k })

-- the slot that was taken out has no replica
pub get-remove_here : {D : Type 0} (members : MemberMap D) (s : Slot) → get (remove members s) s ≡ None
get-remove_here members s = get-remove slot_cmp_total members s s ∙ ap (λ b. cond b None (get members s)) (own_slot s s refl)

-- and each other has what it had
pub get-remove_other : {D : Type 0} (members : MemberMap D) (s t : Slot) → ¬ (t ≡ s) → get (remove members s) t ≡ get members t
get-remove_other members s t apart = by_test (eq_by_cmp slot_cmp t s) refl
  where
    by_test : (b : Bool) → eq_by_cmp slot_cmp t s ≡ b → get (remove members s) t ≡ get members t
    by_test true e = absurd (apart (same_slot t s e))
    by_test false e = get-remove slot_cmp_total members s t ∙ ap (λ b. cond b None (get members t)) e
