-- What a stop may leave of what lies in a slot.
use Rattle.std.specs.Prelude.{◌≡◌}
use Rattle.std.specs.FinMap.{empty}
use Rattle.m3_outside.specs.DiskState.{DiskState}
use Rattle.m3_outside.specs.Files.{Files}
use Rattle.m3_outside.specs.Slots.{Held, Unused, Here, Out}

-- Of each slot, which files a stop may leave: none where no disk lies, or where it is out.
abbrev pub MayLie : {D : Type 0} → (D → DiskState) → Held D → Files → Type 0
MayLie state Unused files = files ≡ empty
MayLie state (Here disk) files = (state disk).images files
MayLie state Out files = files ≡ empty
