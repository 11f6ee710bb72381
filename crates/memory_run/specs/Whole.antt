-- What a run over memory did, with no premise left.
use Rattle.std.specs.Prelude.{◌≡◌, ◌⊎◌, ℕ, List, [], None, true}
use Rattle.transcripts.specs.Caused.{Caused}
use Rattle.transcripts.specs.Faults.{Fault}
use Rattle.transcripts.specs.Joined.{Joined}
use Rattle.transcripts.specs.Kept.{Kept}
use Rattle.placement_log.specs.declared.open_err.OpenErr.{OpenErr}
use Rattle.m3_program.specs.Openings.{ended_by}
use Rattle.m3_program.specs.Runs.{Ran, life_with}
use Rattle.m3_program.specs.declared.status.Status.{Status}

-- over empty disks in memory this input was read and this was written, and the turns keep, join and are caused
pub record RanWhole (ended : Status) (input written : List ℕ) : Type 0 where
  pub left : List ℕ
  pub ran : Ran None ended input left written
  pub kept : Kept (life_with [] None ran.course.exchanges ran.course.unanswered)
  pub joined : Joined (life_with [] None ran.course.exchanges ran.course.unanswered)
  pub faults : List Fault
  pub caused : Caused true (life_with [] None ran.course.exchanges ran.course.unanswered) faults

-- or the cluster wasn't opened, which the status says, and nothing was written
abbrev pub RanOrNot : Status → List ℕ → List ℕ → Type 0
RanOrNot ended input written = RanWhole ended input written ⊎ ((why : OpenErr) × (ended ≡ ended_by why) × (written ≡ []))
