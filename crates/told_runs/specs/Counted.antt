-- The faults by which a run is caused are of its lines, and those of its steps no more than steps were refused so.
use Rattle.std.specs.Prelude.{◌≡◌, ◌≤◌, ◌<◌, ◌++◌, List, length, Bool, false, count_by}
use Rattle.m3_model.specs.Members.{IsIn}
use Rattle.cluster_core.specs.declared.event.Event.{Event}
use Rattle.transcripts.specs.Deliveries.{LateMessage}
use Rattle.transcripts.specs.Faults.{Fault, Taking}
use Rattle.transcripts.specs.Record.{Life, TurnPosition}
use Rattle.told_by.specs.Told.{ToldBy}
use Rattle.told_causes.specs.Faults.{at_first_line, faults_told, tells_of}
use Rattle.told_runs.specs.Laws.{IsServedRun}

-- of a run that is served, over any disks
abbrev pub OfServed : ((life : Life) (events : List Event) → ToldBy life.present.start life.present.turns events → List Fault → Type 0) → Bool → Type 0
OfServed Holds tells =
    (life : Life) (events : List Event) (told : ToldBy life.present.start life.present.turns events) (taking : List Fault) (delivered : TurnPosition → List LateMessage) → IsServedRun tells taking delivered life events told
    → Holds life events told (taking ++ faults_told told.ends events (length life.present.turns))

-- Each is of a line of the run.
abbrev pub AreOfRun : (life : Life) (events : List Event) → ToldBy life.present.start life.present.turns events → List Fault → Type 0
AreOfRun life events told faults = (fault : Fault) → IsIn faults fault → fault.line < length life.present.turns

-- Of those that pass a test there are no more than events that tell of such a one, where no disk that couldn't be taken passes it and it doesn't ask for the line.
abbrev pub AreFew : (life : Life) (events : List Event) → ToldBy life.present.start life.present.turns events → List Fault → Type 0
AreFew life events told faults =
    (test : Fault → Bool) → ((fault : Fault) → test fault ≡ test (at_first_line fault)) → ((fault : Fault) → fault.kind ≡ Taking → test fault ≡ false) → count_by test faults ≤ count_by (tells_of test) events
