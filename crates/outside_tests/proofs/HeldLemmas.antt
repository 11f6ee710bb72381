-- What lies in a slot is one of three.
use Rattle.std.proofs.Common.{◌≡◌, sym, ◌∙◌}
use Rattle.m3_outside.specs.Slots.{Held, Unused, Out}
use Rattle.mem_disk.specs.declared.disk.MemDisk.{MemDisk}

pub unused_not_out : (h : Held MemDisk) → h ≡ Unused → h ≡ Out → ⊥
unused_not_out h is out = let e : ◌≡◌ {A = Held MemDisk} Unused Out = sym is ∙ out in absurd (cc)
