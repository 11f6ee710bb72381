-- A disk that tells nothing of what it holds.
use Rattle.std.specs.Prelude.{◌≡◌, ℕ, ◌^◌, Bool, false, true, Result, IsErr}
use Rattle.std.specs.FinMap.{empty}
use Rattle.m3_outside.specs.Causes.{count_after}
use Rattle.m3_outside.specs.DiskState.{DiskState, IsLawfulDisk}

-- what is known of it: how many calls failed, and whether it is broken, since a sync did
pub record FileDiskState : Type 0 where
  pub faults : ℕ
  pub broken : Bool

-- its count of faults alone is known as a disk's, and that it always has room
abbrev pub silent : FileDiskState → DiskState
silent d = record { tells = false; files = empty; images = λ c. ⊥; moment = 0; since = λ t c. ⊥; spare = 2 ^ 64; faults = d.faults }

tells_not : {A : Type 0} → false ≡ true → A
tells_not e = absurd (cc)

pub lawful_silent : (d : FileDiskState) → IsLawfulDisk (silent d)
lawful_silent d = record {
  read_is_image = λ e. tells_not e;
  same_names = λ e. tells_not e;
  counts_now = λ t c le image. image;
  counts_later = λ t u c le image. image;
  only_now = λ c image. image;
}

-- one fault is counted where the call failed, and else none
pub record CountsOne (failed : Type 0) (before now : ℕ) : Type 0 where
  pub counted : failed → now ≡ count_after before
  pub none : ¬ failed → now ≡ before

-- where the disk is broken, the call fails, and leaves it so
abbrev pub Refuses : {T E : Type 0} → Result T E → FileDiskState → FileDiskState → Type 0
Refuses result old new = old.broken ≡ true → IsErr result × (new.broken ≡ true)
