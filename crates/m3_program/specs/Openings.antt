-- Runs whose cluster is opened, and those whose cluster isn't.
use Rattle.std.specs.Prelude.{◌≡◌, Option}
use Rattle.m3_model.specs.declared.rules.MetaState.{MetaState}
use Rattle.m3_outside.specs.Depots.{Depot}
use Rattle.m3_outside.specs.DiskState.{DiskState}
use Rattle.placement_log.specs.declared.open_err.OpenErr.{OpenErr}
use Rattle.placement_log.specs.declared.open_err.OpenErr.TheVariants as failures
use Rattle.saved_cluster.specs.Openings.{IsGivenBack, MayNotOpen}
use Rattle.saved_cluster.specs.declared.lost.Lost.{Lost}
use Rattle.saved_cluster.specs.declared.lost.Lost.TheVariants as lost
use Rattle.m3_program.specs.declared.status.Status.{Status}
use Rattle.m3_program.specs.declared.status.Status.TheVariants as status

-- how a run ends whose cluster isn't opened for this cause: by a fault, for want of memory, or since the log is damaged
abbrev pub ended_by : OpenErr → Status
ended_by failures.Disk = status.DiskFault
ended_by failures.Memory = status.Memory
ended_by (failures.Digest number kept found) = status.Corrupt
ended_by (failures.Form number at) = status.Corrupt

-- how a run ends that can't go on for this cause
abbrev pub ended_for : Lost → Status
ended_for lost.Meta = status.DiskFault
ended_for lost.Memory = status.Memory

-- A run ended so since its cluster wasn't opened; each disk that was taken for it is back.
pub record IsUnopened {D : Type 0} (disk_state : D → DiskState) (first now : Depot D) (ended : Status) : Type 0 where
  pub why : OpenErr
  pub ended_is : ended ≡ ended_by why
  pub cause : MayNotOpen disk_state first now why
  pub back : IsGivenBack disk_state first now

-- Either it went on with this state, and did so; or its cluster wasn't opened, and nothing came of it.
pub data MayOpen {D : Type 0} (disk_state : D → DiskState) (first now : Depot D) (ended : Status) (Did : Option MetaState → Type 0) (Nothing : Type 0) : Type 0 where
  Opened : (start : Option MetaState) → Did start → MayOpen disk_state first now ended Did Nothing
  Unopened : IsUnopened disk_state first now ended → Nothing → MayOpen disk_state first now ended Did Nothing
