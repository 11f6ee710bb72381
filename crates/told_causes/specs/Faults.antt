-- The faults and damages that a list of events tells of: of each slot and line one of each kind for which a step was refused there.
use Rattle.std.specs.Prelude.{◌≡◌, ◌≤◌, ◌<◌, ◌*◌, ℕ, zero, suc, List, [], ◌∷◌, take, drop, Option, Some, None, Bool, true, false, ◌&&◌, if◌then◌else◌, nat_eq, fold, count_by}
use Rattle.std.specs.List.{list_any}
use Rattle.std.specs.Option.{option_map_or}
use Rattle.m3_model.specs.Members.{IsIn}
use Rattle.m3_model.specs.declared.reason.Reason.TheVariants as reason
use Rattle.cluster_core.specs.Lists.{At}
use Rattle.cluster_core.specs.declared.event.Event.{Event}
use Rattle.cluster_core.specs.declared.event.Event.TheVariants as event
use Rattle.cluster_core.specs.declared.event.StepCall.TheVariants as call
use Rattle.cluster_core.specs.declared.event.StepReply.TheVariants as reply
use Rattle.transcripts.specs.Faults.{AreDifferent, Fault, FaultKind, Taking, Failing, Damaged}

-- the fault or the damage of an event in this line: a step was refused for its disk, or for damage that it found
abbrev pub fault_of : ℕ → Event → Option Fault
fault_of k (event.Step n s c (reply.Refused reason.Disk)) = Some (record { line = k; node = n; shard = s; kind = Failing })
fault_of k (event.Step n s c (reply.Refused (reason.Corrupt damage))) = Some (record { line = k; node = n; shard = s; kind = Damaged })
fault_of k _ = None

abbrev pub is_same_kind : FaultKind → FaultKind → Bool
is_same_kind Taking Taking = true
is_same_kind Failing Failing = true
is_same_kind Damaged Damaged = true
is_same_kind _ _ = false

abbrev pub is_same_fault : Fault → Fault → Bool
is_same_fault a b = (nat_eq a.line b.line && nat_eq a.node b.node) && (nat_eq a.shard b.shard && is_same_kind a.kind b.kind)

-- with one more, where it isn't among them
abbrev pub with_fault : Option Fault → List Fault → List Fault
with_fault None faults = faults
with_fault (Some fault) faults = if list_any (is_same_fault fault) faults then faults else fault ∷ faults

-- with those of the events of a line
abbrev pub with_line : ℕ → List Event → List Fault → List Fault
with_line k events faults = fold (λ before e. with_fault (fault_of k e) before) faults events

-- the events of a line
abbrev pub line_events : (ℕ → ℕ) → List Event → ℕ → List Event
line_events ends events k = drop (ends k) (take (ends (suc k)) events)

-- the faults of these many lines, where `ends` has how many events stand before each
abbrev pub faults_told : (ℕ → ℕ) → List Event → ℕ → List Fault
faults_told ends events zero = []
faults_told ends events (suc k) = with_line k (line_events ends events k) (faults_told ends events k)

-- ---- laws

-- No two faults of a list are alike.
abbrev pub FaultsAreDifferent : Type 0
FaultsAreDifferent = (ends : ℕ → ℕ) (events : List Event) (lines : ℕ) → AreDifferent (faults_told ends events lines)

-- an event of a line tells of the fault
pub record IsToldOf (ends : ℕ → ℕ) (events : List Event) (lines : ℕ) (fault : Fault) : Type 0 where
  pub early : fault.line < lines
  pub position : ℕ
  pub low : ends fault.line ≤ position
  pub high : position < ends (suc fault.line)
  pub e : Event
  pub there : At events position e
  pub tells : fault_of fault.line e ≡ Some fault

-- Each fault of a list is told by an event of its line.
abbrev pub FaultsAreSteps : Type 0
FaultsAreSteps = (ends : ℕ → ℕ) (events : List Event) (lines : ℕ) (fault : Fault) → IsIn (faults_told ends events lines) fault → IsToldOf ends events lines fault

-- And each fault that an event tells of is one of the list's.
abbrev pub StepsAreFaults : Type 0
StepsAreFaults = (ends : ℕ → ℕ) (events : List Event) (lines : ℕ) (fault : Fault) → IsToldOf ends events lines fault → IsIn (faults_told ends events lines) fault

-- the fault, as one of a first line
abbrev pub at_first_line : Fault → Fault
at_first_line fault = record fault { line = 0 }

-- the event tells of a fault that passes the test
abbrev pub tells_of : (Fault → Bool) → Event → Bool
tells_of test e = option_map_or test (fault_of 0 e) false

-- Of the faults that pass a test there are no more than events that tell of such a one, whatever the test asks beside their lines: their kind, or their slot.
abbrev pub FaultsAreFew : Type 0
FaultsAreFew =
    (test : Fault → Bool) → ((fault : Fault) → test fault ≡ test (at_first_line fault)) → (ends : ℕ → ℕ) (events : List Event) (lines : ℕ) → ((k : ℕ) → k < lines → ends k ≤ ends (suc k))
    → count_by test (faults_told ends events lines) ≤ count_by (tells_of test) (take (ends lines) events)

-- A list in which a fault stands twice isn't one of different faults.
abbrev pub FaultToldTwice : Type 0
FaultToldTwice = (faults : List Fault) (fault : Fault) → IsIn faults fault → AreDifferent (fault ∷ faults) → ⊥

-- two steps of one slot that its disk failed in one line, and the fault of which they tell
abbrev pub failed_twice : List Event
failed_twice = event.Step 0 0 call.Snapshot (reply.Refused reason.Disk) ∷ event.Step 0 0 call.Snapshot (reply.Refused reason.Disk) ∷ []

abbrev pub failing : Fault
failing = record { line = 0; node = 0; shard = 0; kind = Failing }

-- They are told as one.
abbrev pub RefusedTwice : Type 0
RefusedTwice = faults_told (λ k. 2 * k) failed_twice 1 ≡ failing ∷ []
