-- A disk that is taken and given back.
use Rattle.std.proofs.Common.{◌≡◌, sym, ◌∙◌, ap}
use Rattle.m3_outside.specs.Slots.{Here, Out, OthersStay}
use Rattle.m3_outside.specs.declared.slot.DiskSlot.{DiskSlot}
use Rattle.mem_disk.specs.Slots.{held_of}
use Rattle.mem_disk.specs.declared.disk.MemDisk.{MemDisk}
use Rattle.mem_disk.specs.declared.disks.MemDisks.{MemDisks}
use Rattle.m3_trials.specs.Disks.{AllAreIn}

-- the slot of a disk that is back isn't that of one that is out
here_or_out : (disk : MemDisk) → Here disk ≡ Out → ⊥
here_or_out disk same = cc

-- none is out once the one that was taken is back
pub none_is_out : (before lent after : MemDisks) (slot : DiskSlot) (disk : MemDisk) → AllAreIn before → OthersStay slot (held_of before) (held_of lent)
    → held_of after slot ≡ Here disk → OthersStay slot (held_of lent) (held_of after) → AllAreIn after
none_is_out before lent after slot disk none taken here given other out =
    let apart : ¬ (other ≡ slot) = λ same. here_or_out disk (sym here ∙ (sym (ap (held_of after) same) ∙ out)) in
    none other (sym (taken other apart) ∙ (sym (given other apart) ∙ out))
