-- What lies in the slots of a set of disks.
use Rattle.std.specs.Prelude.{◌≡◌}
use Rattle.m3_outside.specs.declared.slot.DiskSlot.{DiskSlot}

-- a slot was never used, holds the disk that was given back, or its disk is out
pub data Held (D : Type 0) : Type 0 where
  Unused : Held D
  Here : D → Held D
  Out : Held D

-- what a slot gives: an empty disk where it was never used, and else the disk that lies there
abbrev pub MayGive : {D : Type 0} → (D → Type 0) → Held D → D → Type 0
MayGive empty Unused disk = empty disk
MayGive empty (Here there) disk = disk ≡ there
MayGive empty Out disk = ⊥

-- all other slots are as before
abbrev pub OthersStay : {X : Type 0} → DiskSlot → (DiskSlot → X) → (DiskSlot → X) → Type 0
OthersStay slot old new = (s : DiskSlot) → ¬ (s ≡ slot) → new s ≡ old s
