-- The state of a disk that doesn't tell what it holds.
use Rattle.std.specs.Prelude.{⊤, ℕ, ◌-◌, ◌^◌, false}
use Rattle.std.specs.FinMap.{empty}
use Rattle.m3_outside.specs.DiskState.{DiskState, IsLawfulDisk}

abbrev pub silent : ℕ → DiskState
silent faults = record { tells = false; files = empty; images = λ c. ⊤; moment = 0; since = λ t c. ⊤; spare = 2 ^ 64 - 1; faults = faults }

pub silent_is_lawful : (faults : ℕ) → IsLawfulDisk (silent faults)
silent_is_lawful faults = record {
  read_is_image = λ t. tt;
  same_names = λ t c image. absurd (Prim.cc);
  counts_now = λ t c le image. tt;
  counts_later = λ t u c le left. tt;
  only_now = λ c left. tt;
}
