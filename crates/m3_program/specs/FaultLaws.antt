-- What counts that stay constant tell of a run.
use Rattle.std.specs.Prelude.{◌≡◌, List, [], true}
use Rattle.transcripts.specs.Faults.{Fault}
use Rattle.transcripts.specs.Record.{Record}
use Rattle.m3_outside.specs.Laws.{IsConstant}
use Rattle.m3_outside.specs.declared.slot.DiskSlot.{DiskSlot}
use Rattle.m3_program.specs.Faults.{AreCauses, Counts}

-- each count is below its last value, and is the same afterwards
pub record AreConstant (before now : Counts) : Type 0 where
  pub all : IsConstant before.all now.all
  pub of_disks : (slot : DiskSlot) → IsConstant (before.of_disk slot) (now.of_disk slot)

-- no fault is a cause in a run of disks that tell in which no count rises
abbrev pub ConstantMeansNoFault : Type 0
ConstantMeansNoFault = (run : Record) (before now : Counts) (faults : List Fault) → AreCauses true run before now faults → AreConstant before now → faults ≡ []
