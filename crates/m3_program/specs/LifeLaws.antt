-- What stands for a life, and what is so of a first run.
use Rattle.std.specs.Prelude.{◌≡◌, ℕ, List, [], ◌∷◌, map, Option, None, true, false}
use Rattle.m3_model.specs.declared.rules.MetaState.{MetaState}
use Rattle.m3_outside.specs.Depots.{Depot, TellAll}
use Rattle.m3_outside.specs.DiskState.{DiskState}
use Rattle.m3_outside.specs.Files.{Files}
use Rattle.m3_outside.specs.Slots.{Held}
use Rattle.m3_outside.specs.declared.slot.DiskSlot.{DiskSlot}
use Rattle.transcripts.specs.Joined.{Joined}
use Rattle.transcripts.specs.Kept.{Kept}
use Rattle.transcripts.specs.Record.{Record}
use Rattle.life_ends.specs.Lies.{MayLie}
use Rattle.m3_program.specs.Faults.{AreEmpty, counts_of}
use Rattle.m3_program.specs.Lives.{FilesStandFor, StandFor}
use Rattle.m3_program.specs.Openings.{IsUnopened}
use Rattle.m3_program.specs.Runs.{HasCauses, HasRun, Ran, life_with, record_of}
use Rattle.m3_program.specs.declared.status.Status.{Status}

-- Empty disks that tell stand for the empty life.
abbrev pub EmptyDisksStand : {D : Type 0} → (D → DiskState) → Type 0
EmptyDisksStand {D} state = (held : DiskSlot → Held D) → AreEmpty state held → StandFor state [] held

-- Files that stand for no runs have no state, and no points.
abbrev pub NoRunsLeaveNothing : Type 0
NoRunsLeaveNothing = (files : DiskSlot → Files) (f : FilesStandFor [] files) → (f.state ≡ None) × ((node shard : ℕ) → f.held node shard ≡ [])

-- Files that stand for one run are those of a run that found no state.
abbrev pub FirstFoundNone : Type 0
FirstFoundNone = (run : Record) (files : DiskSlot → Files) → FilesStandFor (run ∷ []) files → run.start ≡ None

-- a stop leaves no more of these disks than of those before
abbrev pub LieLess : {D : Type 0} → (D → DiskState) → (DiskSlot → Held D) → (DiskSlot → Held D) → Type 0
LieLess state before now = (slot : DiskSlot) (files : Files) → MayLie state (now slot) files → MayLie state (before slot) files

-- Then they stand for what those stood for: so it is after a stop of the process or of a disk, whatever that leaves.
abbrev pub StopsLeaveStanding : {D : Type 0} → (D → DiskState) → Type 0
StopsLeaveStanding {D} state = (past : List Record) (held next : DiskSlot → Held D) → LieLess state held next → StandFor state past held → StandFor state past next

-- So is what lies there after a run whose cluster wasn't opened.
abbrev pub UnopenedLieLess : {D : Type 0} → (D → DiskState) → Type 0
UnopenedLieLess {D} state = (first now : Depot D) (ended : Status) → TellAll state → IsUnopened state first now ended → LieLess state first.held now.held

-- What a first run did, over empty disks or over any where no state was found.
pub record HasFirstRun {D : Type 0} (state : D → DiskState) (first now : Depot D) (start : Option MetaState) (ended : Status) (input left written : List ℕ) : Type 0 where
  pub none_found : AreEmpty state first.held → start ≡ None
  pub ran : Ran start ended input left written
  pub kept : AreEmpty state first.held → Kept (life_with [] start ran.course.exchanges ran.course.unanswered)
  pub joined : Joined (life_with [] start ran.course.exchanges ran.course.unanswered)
  pub causes : AreEmpty state first.held → HasCauses true (counts_of first) (counts_of now) (life_with [] start ran.course.exchanges ran.course.unanswered)
  pub leaves : AreEmpty state first.held → StandFor state (record_of start ran.course.exchanges ran.course.unanswered ∷ []) now.held
  pub untold : HasCauses false (counts_of first) (counts_of now) (life_with [] start ran.course.exchanges ran.course.unanswered)

-- What is promised of a run over a life is promised of a first one.
abbrev pub FirstRunIsOne : {D : Type 0} → (D → DiskState) → Type 0
FirstRunIsOne {D} state =
    (first now : Depot D) (start : Option MetaState) (ended : Status) (input left written : List ℕ) → HasRun state first now start ended input left written → HasFirstRun state first now start ended input left written

-- ---- a life of runs

-- a run that was made: what its slots held when it began and when it ended, and what it did
pub record MadeRun {D : Type 0} (state : D → DiskState) : Type 0 where
  pub first : Depot D
  pub now : Depot D
  pub start : Option MetaState
  pub ended : Status
  pub input : List ℕ
  pub left : List ℕ
  pub written : List ℕ
  pub did : HasRun state first now start ended input left written

-- its record
abbrev pub record_made : {D : Type 0} {state : D → DiskState} → MadeRun state → Record
record_made run = record_of run.start (run.did).ran.course.exchanges (run.did).ran.course.unanswered

-- These runs were made one behind the other, from slots that held this to slots that hold that: between them lies nothing but stops.
abbrev pub WereMade : {D : Type 0} (state : D → DiskState) → (DiskSlot → Held D) → List (MadeRun state) → (DiskSlot → Held D) → Type 0
WereMade state held [] now = LieLess state held now
WereMade state held (run ∷ runs) now = LieLess state held run.first.held × WereMade state run.now.held runs now

-- After any runs over disks that were empty these stand for the runs.
abbrev pub RunsLeaveStanding : {D : Type 0} → (D → DiskState) → Type 0
RunsLeaveStanding {D} state = (held now : DiskSlot → Held D) (runs : List (MadeRun state)) → AreEmpty state held → WereMade state held runs now → StandFor state (map record_made runs) now

-- And one more run keeps what all of them acknowledged, and its answers have their causes: whatever it is that disks stand for.
abbrev pub RunsKeep : {D : Type 0} → (D → DiskState) → Type 0
RunsKeep {D} state =
    (held : DiskSlot → Held D) (runs : List (MadeRun state)) (run : MadeRun state) → AreEmpty state held → WereMade state held runs run.first.held
    → let life = life_with (map record_made runs) run.start (run.did).ran.course.exchanges (run.did).ran.course.unanswered in Kept life × HasCauses true (counts_of run.first) (counts_of run.now) life
