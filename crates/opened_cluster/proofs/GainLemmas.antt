-- Disks that a cluster takes as it goes on, or that were given back.
use Rattle.std.proofs.Common.{◌≡◌, ◌≢◌, ◌≤◌, List, refl, sym, subst, ◌∙◌, inl, arith}
use Rattle.std.specs.Prelude.{Option, Some, None}
use Rattle.std.specs.FinMap.{get, get-empty, empty}
use Rattle.m3_model.specs.Members.{IsIn}
use Rattle.m3_outside.specs.Depots.{Depot}
use Rattle.m3_outside.specs.DiskState.{DiskState}
use Rattle.m3_outside.specs.Slots.{Held, Out}
use Rattle.m3_outside.specs.declared.slot.DiskSlot.{DiskSlot}
use Rattle.line_tracks.specs.replica_exchange.declared.member.Member.{Member}
use Rattle.line_tracks.specs.replica_exchange.declared.slot.Slot.{Slot}
use Rattle.line_tracks.specs.replica_calls.Slots.{MemberMap, slot_cmp}
use Rattle.line_tracks.specs.first_cluster.Depots.{disk_slot_of}
use Rattle.line_tracks.specs.first_cluster.Lending.{IsFree}
use Rattle.cluster_placements.specs.Lending.{AreLent, HaveGained, HaveReturned}

none_at : {D : Type 0} (members : MemberMap D) → members ≡ empty → (s : Slot) → get members s ≡ None
none_at members is s = (λ i. get (is i) s) ∙ get-empty slot_cmp s

-- no replica stands at a slot whose disk isn't out
pub free_at : {D : Type 0} (held : DiskSlot → Held D) (members : MemberMap D) (s : Slot) → members ≡ empty → held (disk_slot_of s) ≢ Out → IsFree held members s
free_at held members s is not_out = record { not_out = not_out; no_member = none_at members is s }

-- and no disk is lent yet
pub none_lent : {D : Type 0} (held : DiskSlot → Held D) (members : MemberMap D) → members ≡ empty → AreLent members held
none_lent held members is s m there = let clash : None ≡ Some m = sym (none_at members is s) ∙ there in cc

-- the disks were taken of these very slots, where there was no replica
pub gained_so : {D : Type 0} (state : D → DiskState) (slots own : List Slot) (old new : Depot D) (before after members : MemberMap D) → slots ≡ own → before ≡ empty → members ≡ after → HaveGained state slots old before new after → HaveGained state own old empty new members
gained_so state slots own old new before after members same none is had =
    subst (λ xs. HaveGained state xs old empty new members) same (subst (λ b. HaveGained state slots old b new members) none (subst (λ a. HaveGained state slots old before new a) (sym is) had))

-- none was taken
pub none_taken : {D : Type 0} (state : D → DiskState) (slots : List Slot) (depot : Depot D) → HaveReturned state slots depot depot
none_taken state slots depot = record { each = λ s i. inl (record { held = refl; counted = refl }); others = λ s out. record { held = refl; counted = refl }; later = omega arith }
