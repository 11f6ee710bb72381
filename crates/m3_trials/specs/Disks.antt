-- What holds of the disks of a case between its runs.
use Rattle.std.specs.Prelude.{◌≡◌}
use Rattle.m3_outside.specs.Slots.{Out}
use Rattle.m3_outside.specs.declared.slot.DiskSlot.{DiskSlot}
use Rattle.mem_disk.specs.Slots.{held_of}
use Rattle.mem_disk.specs.declared.disks.MemDisks.{MemDisks}
use Rattle.m3_trials.specs.declared.disks.TrialDisks.{TrialDisks}

-- each disk lies in its slot
abbrev pub AllAreIn : MemDisks → Type 0
AllAreIn disks = (slot : DiskSlot) → ¬ (held_of disks slot ≡ Out)

abbrev pub NoneIsOut : TrialDisks → Type 0
NoneIsOut disks = AllAreIn disks.disks
