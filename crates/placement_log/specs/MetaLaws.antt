-- Laws of what the files of the meta disk hold.
use Rattle.std.specs.Prelude.{◌≡◌, ℕ, List, Option}
use Rattle.m3_model.specs.declared.rules.MetaState.{MetaState}
use Rattle.m3_outside.specs.Files.{Files}
use Rattle.placement_log.specs.MetaHolds.{MetaHolds}
use Rattle.placement_log.specs.Damage.{MayBeDamaged}
use Rattle.placement_log.specs.declared.open_err.OpenErr.TheVariants as failures

-- files hold one last state at most
abbrev pub LastIsOne : Type 0
LastIsOne = (one other : Option MetaState) (files : Files) → MetaHolds one files → MetaHolds other files → one ≡ other

-- files of which damage is told hold no states
pub record DamagedHoldNothing : Type 0 where
  pub digest : (files : Files) (number : ℕ) (kept found : List ℕ) → MayBeDamaged files (failures.Digest number kept found) → (last : Option MetaState) → ¬ (MetaHolds last files)
  pub form : (files : Files) (number at : ℕ) → MayBeDamaged files (failures.Form number at) → (last : Option MetaState) → ¬ (MetaHolds last files)
