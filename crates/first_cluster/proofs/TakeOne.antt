-- One disk taken, and a replica put over it.
use Rattle.std.proofs.Common.{◌≡◌, ◌≤◌, refl, ap, subst, ◌∙◌, inl, inr}
use Rattle.std.specs.Prelude.{◌⊎◌, None}
use Rattle.std.specs.FinMap.{get, insert}
use Rattle.m3_outside.specs.DiskState.{DiskState, IsEmpty}
use Rattle.m3_outside.specs.Slots.{Here, Out, MayGive, OthersStay}
use Rattle.m3_outside.specs.declared.slot.DiskSlot.{DiskSlot}
use Rattle.cluster_members.specs.replica_exchange.declared.slot.Slot.{Slot}
use Rattle.cluster_members.specs.replica_calls.Calls.{first_member}
use Rattle.cluster_members.specs.replica_calls.Slots.{MemberMap}
use Rattle.cluster_members.proofs.replica_calls_proofs.SlotLemmas.{get-insert_here, get-insert_other}
use Rattle.m3_outside.specs.Depots.{Depot}
use Rattle.first_cluster.specs.Depots.{disk_slot_of}
use Rattle.first_cluster.specs.Lending.{IsUntouched, IsGivenBack, IsNewlyTaken, KeepsOthers}
use Rattle.first_cluster.proofs.SlotCases.{other_disk_slot}

-- a replica was put over the disk
pub new_by : {D : Type 0} (state : D → DiskState) (s : Slot) (disk_slot : DiskSlot) (disk : D) (old mid : Depot D) (before members : MemberMap D) → disk_slot ≡ disk_slot_of s
    → MayGive (λ d. IsEmpty (state d)) (old.held disk_slot) disk → (state disk).faults ≡ old.counted disk_slot → mid.held disk_slot ≡ Out → ((p : DiskSlot) → mid.counted p ≡ old.counted p) → members ≡ insert before s (first_member disk)
    → IsNewlyTaken state old members mid s
new_by state s disk_slot disk old mid before members at given faults out counted is = record {
  disk = disk;
  given = subst (λ p. MayGive (λ d. IsEmpty (state d)) (old.held p) disk) at given;
  disk_faults = faults ∙ ap old.counted at;
  stands = ap (λ m. get m s) is ∙ get-insert_here before s (first_member disk);
  held = subst (λ p. mid.held p ≡ Out) at out;
  counted = counted (disk_slot_of s);
}

-- and nothing was done at all other slots
pub others_by : {D : Type 0} (s : Slot) (disk_slot : DiskSlot) (disk : D) (old mid : Depot D) (before members : MemberMap D) → disk_slot ≡ disk_slot_of s → OthersStay disk_slot old.held mid.held
    → ((p : DiskSlot) → mid.counted p ≡ old.counted p) → old.faults ≤ mid.faults → members ≡ insert before s (first_member disk) → KeepsOthers s old before mid members
others_by s disk_slot disk old mid before members at others counted later is = record {
  others = λ t apart. record {
    member = ap (λ m. get m t) is ∙ get-insert_other before s (first_member disk) t apart;
    held = others (disk_slot_of t) (λ same. other_disk_slot t s apart (same ∙ at));
    counted = counted (disk_slot_of t);
  };
  later = later;
}

-- or the disk was given back
pub back_by : {D : Type 0} (state : D → DiskState) (s : Slot) (disk_slot : DiskSlot) (disk back : D) (old new : Depot D) (before members : MemberMap D) → disk_slot ≡ disk_slot_of s
    → MayGive (λ d. IsEmpty (state d)) (old.held disk_slot) disk → (state disk).faults ≡ old.counted disk_slot → back ≡ disk → get before s ≡ None → members ≡ before → new.held disk_slot ≡ Here back
    → new.counted disk_slot ≡ (state back).faults → IsUntouched old members new s ⊎ IsGivenBack state old members new s
back_by state s disk_slot disk back old new before members at given faults own none same here counted =
    inr (record {
      member = first_member disk;
      no_member = ap (λ m. get m s) same ∙ none;
      opened = record {
        disk = disk;
        given = subst (λ p. MayGive (λ d. IsEmpty (state d)) (old.held p) disk) at given;
        counted = faults ∙ ap old.counted at;
        begun = inl refl;
      };
      held = subst (λ p. new.held p ≡ Here back) at here ∙ ap Here own;
      counted = subst (λ p. new.counted p ≡ (state back).faults) at counted ∙ ap (λ d. (state d).faults) own;
    })
