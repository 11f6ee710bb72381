use Rattle.std.proofs.Common.{◌≡◌, refl, sym, ◌∙◌}
use Rattle.m3_outside.specs.declared.slot.DiskSlot.{DiskSlot}
use Rattle.m3_outside.specs.Slots.{Held, Here, Out}
use Rattle.mem_disk.specs.declared.disk.MemDisk.{MemDisk}
use Rattle.outside_tests.proofs.HeldLemmas.{unused_not_out}
use Rattle.outside_tests.proofs.disks.failing.Goals as goal

here_not_out : (h : Held MemDisk) (d : MemDisk) → h ≡ Here d → h ≡ Out → ⊥
here_not_out h d is out = let e : ◌≡◌ {A = Held MemDisk} (Here d) Out = sym is ∙ out in absurd (cc)

pub returns : goal.returns
returns c =
    let slot : DiskSlot = record { node = 0; shard = 0 } in
    here_not_out _ _ (c.put.ensures.here refl (unused_not_out _ (c.in_ok-disks.ensures.unused slot)))
