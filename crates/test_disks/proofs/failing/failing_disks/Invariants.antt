use Rattle.std.proofs.Common.{◌≡◌}
use Rattle.m3_outside.specs.Slots.{Out}
use Rattle.m3_outside.specs.declared.slot.DiskSlot.{DiskSlot}
use Rattle.mem_disk.specs.Slots.{held_of}
use Rattle.test_disks.proofs.failing.failing_disks.Given as goal

abbrev pub invariant-loop-node : goal.invariant-loop-node
invariant-loop-node l = (disk_slot : DiskSlot) → ¬ (held_of l.disks disk_slot ≡ Out)
