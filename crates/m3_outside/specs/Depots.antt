-- What a set of disks shows from outside.
use Rattle.std.specs.Prelude.{◌≡◌, ℕ, true}
use Rattle.m3_outside.specs.DiskState.{DiskState}
use Rattle.m3_outside.specs.Slots.{Held}
use Rattle.m3_outside.specs.declared.slot.DiskSlot.{DiskSlot}

-- What the disks of a run show: what lies in each slot, how many faults of its disk are counted in it, and how many in all.
pub record Depot (D : Type 0) : Type 0 where
  pub held : DiskSlot → Held D
  pub counted : DiskSlot → ℕ
  pub faults : ℕ

-- each disk of this kind tells what it holds
abbrev pub TellAll : {D : Type 0} → (D → DiskState) → Type 0
TellAll {D} state = (d : D) → (state d).tells ≡ true
