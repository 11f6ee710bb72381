-- How far reading and writing have come, within a run.
use Rattle.std.specs.Prelude.{◌≡◌, ◌≤◌, ℕ, length, map, List, [], ◌∷◌, ◌++◌, Bool, false, true, Option, None, Some, IsSome, Ok}
use Rattle.m3_model.specs.declared.rules.MetaState.{MetaState}
use Rattle.m3_model.specs.Members.{IsIn}
use Rattle.m3_model.specs.declared.turn.Request.{Request}
use Rattle.m3_model.specs.declared.turn.Turn.{Turn}
use Rattle.m3_outside.specs.DiskState.{DiskState}
use Rattle.m3_outside.specs.declared.disk.Disk.{Ghosts}
use Rattle.m3_outside.specs.Depots.{Depot}
use Rattle.m3_outside.specs.Files.{Files}
use Rattle.m3_outside.specs.Slots.{Held}
use Rattle.m3_outside.specs.declared.slot.DiskSlot.{DiskSlot}
use Rattle.m3_json.specs.Requests.{LineMeans}
use Rattle.transcripts.specs.Joined.{Joined}
use Rattle.transcripts.specs.Record.{Record}
use Rattle.placement_log.specs.MetaHolds.{MetaHolds}
use Rattle.saved_cluster.specs.first_cluster.Depots.{meta_slot}
use Rattle.saved_cluster.specs.line_tracks.Leaves.{AllSlotsStand, held_after}
use Rattle.saved_cluster.specs.line_tracks.Lines.{EachMember}
use Rattle.saved_cluster.specs.replica_calls.Calls.{AreMembersOf}
use Rattle.saved_cluster.specs.served_cluster.Owned.{TracksTurns}
use Rattle.saved_cluster.specs.served_cluster.Plans.{state_of}
use Rattle.saved_cluster.specs.served_cluster.declared.cluster.Cluster.{Cluster}
use Rattle.saved_cluster.specs.Saved.{IsSaved}
use Rattle.saved_cluster.specs.declared.saved.SavedCluster.{SavedCluster}
use Rattle.m3_program.specs.Exchanges.{Exchange, Outcome, AreExchanges, turns_of, replies_text}
use Rattle.m3_program.specs.Faults.{one_for}
use Rattle.m3_program.specs.Runs.{Ran, TakesLines, lines_of, lines_text}
use Rattle.m3_program.specs.Saved.{LeaveState, StopsLeave}
use Rattle.m3_program.specs.declared.status.Status.{Status}

-- ---- how a run stands

-- The cluster of a run, and the disks that lie in their slots.
pub record Stage (D : Type 0) (G : Ghosts D) : Type 0 where
  pub saved : SavedCluster D G
  pub depot : Depot D

abbrev pub stage : {D : Type 0} {G : Ghosts D} → SavedCluster D G → Depot D → Stage D G
stage saved depot = record { saved = saved; depot = depot }

-- What a run began with: the last state that the meta disk had, the cluster that was opened by it, and the disks that lay in their slots then.
pub record Opening (D : Type 0) (G : Ghosts D) : Type 0 where
  pub start : Option MetaState
  pub cluster : Cluster D G
  pub depot : Depot D

-- that of a run that stands so at its beginning
abbrev pub opening_at : {D : Type 0} {G : Ghosts D} → Stage D G → Opening D G
opening_at now = record { start = state_of now.saved.cluster; cluster = now.saved.cluster; depot = now.depot }

-- no turns were tracked then, behind these runs, over disks that were so before the cluster's were taken
abbrev pub BeginsSo : {D : Type 0} {G : Ghosts D} → (D → DiskState) → Bool → List Record → Depot D → Opening D G → Type 0
BeginsSo state tells past lay first = TracksTurns state tells past first.start lay first.depot [] first.cluster

-- over some disks it is so, whatever these tell and whatever runs were before
pub record BeginsUntold {D : Type 0} {G : Ghosts D} (state : D → DiskState) (first : Opening D G) : Type 0 where
  pub lay : Depot D
  pub each : (past : List Record) → BeginsSo state false past lay first

-- no request was served yet, so that there are no turns to be tracked
pub record IsFresh {D : Type 0} {G : Ghosts D} (state : D → DiskState) (now : Stage D G) : Type 0 where
  pub saved : IsSaved (state_of now.saved.cluster) (state now.saved.meta)
  pub untold : BeginsUntold state (opening_at now)

-- The cluster has the state that the turns left, and so has what a stop leaves of the meta disk, which is out; and the turns are tracked, where none were at the beginning.
pub record StandsAfter {D : Type 0} {G : Ghosts D} (state : D → DiskState) (first : Opening D G) (turns : List Turn) (now : Stage D G) : Type 0 where
  pub leave : LeaveState first.start turns (state_of now.saved.cluster)
  pub saved : IsSaved (state_of now.saved.cluster) (state now.saved.meta)
  pub counted : now.depot.counted meta_slot ≡ first.depot.counted meta_slot
  pub untold : BeginsUntold state first
  pub tracks : (tells : Bool) (past : List Record) (lay : Depot D) → BeginsSo state tells past lay first → TracksTurns state tells past first.start lay now.depot turns now.saved.cluster

-- the exchanges so far, and how the run stands after them
pub record Progress {D : Type 0} {G : Ghosts D} (state : D → DiskState) (first : Opening D G) (xs : List Exchange) (now : Stage D G) : Type 0 where
  pub each : AreExchanges first.start xs
  pub stands : StandsAfter state first (turns_of xs) now

-- these turns are tracked, and one more at most, of the request that was taken and got no reply
pub record AreTracked {D : Type 0} {G : Ghosts D} (state : D → DiskState) (tells : Bool) (past : List Record) (start : Option MetaState) (lay : Depot D) (now : Stage D G) (turns : List Turn) (unanswered : Option Request) : Type 0 where
  pub more : List Turn
  pub few : length more ≤ one_for unanswered
  pub tracks : TracksTurns state tells past start lay now.depot (turns ++ more) now.saved.cluster

-- what the machines of its replicas are is known
abbrev pub KnowsMembers : {D : Type 0} {G : Ghosts D} → (D → DiskState) → Stage D G → Type 0
KnowsMembers state now = EachMember now.saved.cluster.members (λ m. AreMembersOf state m.net.replicas)

-- what lies in the slots once each replica's disk is back in its own
abbrev pub held_back : {D : Type 0} {G : Ghosts D} → Stage D G → DiskSlot → Held D
held_back now = held_after now.saved.cluster.members now.depot.held

-- these files of the meta disk have a state by which what lies in the slots stands for these runs and this one
pub record LeavesSlots {D : Type 0} (state : D → DiskState) (past : List Record) (run : Record) (back : DiskSlot → Held D) (files : Files) : Type 0 where
  pub left : Option MetaState
  pub holds : MetaHolds left files
  pub slots : AllSlotsStand state (past ++ run ∷ []) left back

-- so do all that a stop leaves of it, where the turns before were tracked over disks that tell
abbrev pub LeaveSlots : {D : Type 0} {G : Ghosts D} → (D → DiskState) → Opening D G → Stage D G → List Turn → Option Request → Type 0
LeaveSlots {D} {G} state first now turns unanswered =
    (past : List Record) (lay : Depot D) → BeginsSo state true past lay first → KnowsMembers state now
    → (files : Files) → (state now.saved.meta).images files → LeavesSlots state past (record { start = first.start; turns = turns; unanswered = unanswered }) (held_back now) files

-- So it is after these turns and the request that was taken and got no reply; what a stop leaves of the meta disk has the state that the turns left, or the one to which the request leads; what it leaves of the slots stands by that state; and whoever turned available was joined.
pub record HaveServed {D : Type 0} {G : Ghosts D} (state : D → DiskState) (first : Opening D G) (now : Stage D G) (turns : List Turn) (unanswered : Option Request) : Type 0 where
  pub leaves : StopsLeave (state now.saved.meta) first.start turns unanswered
  pub slots : LeaveSlots state first now turns unanswered
  pub counted : now.depot.counted meta_slot ≡ first.depot.counted meta_slot
  pub tracked : (tells : Bool) (past : List Record) (lay : Depot D) → BeginsSo state tells past lay first → AreTracked state tells past first.start lay now turns unanswered
  pub joined : (past : List Record) → Joined (record { past = past; present = record { start = first.start; turns = turns; unanswered = unanswered } })

-- so it is after these exchanges
abbrev pub PromisesSo : {D : Type 0} {G : Ghosts D} → (D → DiskState) → Opening D G → Stage D G → List Exchange → Option Request → Type 0
PromisesSo state first now xs unanswered = HaveServed state first now (turns_of xs) unanswered

-- ---- one line

-- one more line was answered, with this text
abbrev pub Advances : {D : Type 0} {G : Ghosts D} → (D → DiskState) → Stage D G → List ℕ → List ℕ → Stage D G → Type 0
Advances {D} {G} state old line text new =
    (first : Opening D G) (xs : List Exchange) → Progress state first xs old → (outcome : Outcome) × Progress state first (xs ++ record { line = line; outcome = outcome; text = text } ∷ []) new

-- the line is the request, if there is one
abbrev pub MayMean : List ℕ → Option Request → Type 0
MayMean line None = Unit {0}
MayMean line (Some request) = LineMeans line (Ok request)

-- the line was taken and got no reply: it wasn't served, or it is a request that was; it is one where this failed
pub record IsUnanswered {D : Type 0} {G : Ghosts D} (state : D → DiskState) (first : Opening D G) (xs : List Exchange) (line : List ℕ) (now : Stage D G) (Failed : Type 0) : Type 0 where
  pub unanswered : Option Request
  pub means : MayMean line unanswered
  pub promises : PromisesSo state first now xs unanswered
  pub was_taken : Failed → IsSome unanswered

abbrev pub Drops : {D : Type 0} {G : Ghosts D} → (D → DiskState) → Stage D G → List ℕ → Stage D G → Type 0 → Type 0
Drops {D} {G} state old line new Failed = (first : Opening D G) (xs : List Exchange) → Progress state first xs old → IsUnanswered state first xs line new Failed

-- ---- pieces of the input

abbrev pub NoNewline : List ℕ → Type 0
NoNewline line = IsIn line 10 → ⊥

-- These bytes were read, and these exchanges came of their whole lines; the last line has no end yet.
pub record StreamState {D : Type 0} {G : Ghosts D} (state : D → DiskState) (first : Opening D G) (xs : List Exchange) (taken : List ℕ) (now : Stage D G) (line : List ℕ) : Type 0 where
  pub progress : Progress state first xs now
  pub read : taken ≡ lines_text xs ++ line
  pub whole : (x : Exchange) → IsIn xs x → NoNewline x.line
  pub no_end : NoNewline line

-- The run is cut short after these exchanges, whatever is left of its input; at a request, where this failed.
pub record CutShort {D : Type 0} {G : Ghosts D} (state : D → DiskState) (first : Opening D G) (xs : List Exchange) (now : Stage D G) (taken : List ℕ) (Failed : Type 0) : Type 0 where
  pub unanswered : Option Request
  pub each : AreExchanges first.start xs
  pub reads : (left : List ℕ) → TakesLines (taken ++ left) xs unanswered
  pub promises : PromisesSo state first now xs unanswered
  pub was_taken : Failed → IsSome unanswered

-- The run ended after these exchanges, with or without the end of its input; at a request, where this failed.
pub record Halted {D : Type 0} {G : Ghosts D} (state : D → DiskState) (first : Opening D G) (xs : List Exchange) (now : Stage D G) (input taken : List ℕ) (Failed : Type 0) : Type 0 where
  pub unanswered : Option Request
  pub each : AreExchanges first.start xs
  pub of_input : TakesLines input xs unanswered
  pub of_taken : TakesLines taken xs unanswered
  pub promises : PromisesSo state first now xs unanswered
  pub was_taken : Failed → IsSome unanswered

-- The run came to the end of its input: these exchanges came of all its lines.
pub record Finished {D : Type 0} {G : Ghosts D} (state : D → DiskState) (first : Opening D G) (xs : List Exchange) (now : Stage D G) (input : List ℕ) : Type 0 where
  pub each : AreExchanges first.start xs
  pub lines_are : lines_of input ≡ map (λ x. x.line) xs
  pub promises : PromisesSo state first now xs None

-- What a run did over disks that were so when it began and are so now, before they are given back.
pub record HasServed {D : Type 0} {G : Ghosts D} (state : D → DiskState) (first : Opening D G) (now : Stage D G) (ended : Status) (input left written : List ℕ) : Type 0 where
  pub ran : Ran first.start ended input left written
  pub promises : PromisesSo state first now ran.course.exchanges ran.course.unanswered

-- reading goes on by a piece, and its lines get this text
abbrev pub TakesOn : {D : Type 0} {G : Ghosts D} → (D → DiskState) → Stage D G → List ℕ → List ℕ → List ℕ → Stage D G → List ℕ → Type 0
TakesOn {D} {G} state old line piece text new line2 =
    (first : Opening D G) (xs : List Exchange) (taken : List ℕ) → StreamState state first xs taken old line
    → (more : List Exchange) × (text ≡ replies_text more) × StreamState state first (xs ++ more) (taken ++ piece) new line2

-- it is cut short within a piece, whose lines got this text
abbrev pub Cuts : {D : Type 0} {G : Ghosts D} → (D → DiskState) → Stage D G → List ℕ → List ℕ → List ℕ → Stage D G → Type 0 → Type 0
Cuts {D} {G} state old line piece text new Failed =
    (first : Opening D G) (xs : List Exchange) (taken : List ℕ) → StreamState state first xs taken old line
    → (more : List Exchange) × (text ≡ replies_text more) × CutShort state first (xs ++ more) new (taken ++ piece) Failed

-- the input ended, and its last line, if there is one, gets this text
abbrev pub Finishes : {D : Type 0} {G : Ghosts D} → (D → DiskState) → Stage D G → List ℕ → List ℕ → Stage D G → Type 0
Finishes {D} {G} state old line text new =
    (first : Opening D G) (xs : List Exchange) (taken : List ℕ) → StreamState state first xs taken old line
    → (more : List Exchange) × (text ≡ replies_text more) × Finished state first (xs ++ more) new taken

-- the input ended, and the run with its last line, which got this text
abbrev pub HaltsLast : {D : Type 0} {G : Ghosts D} → (D → DiskState) → Stage D G → List ℕ → List ℕ → Stage D G → Type 0 → Type 0
HaltsLast {D} {G} state old line text new Failed =
    (first : Opening D G) (xs : List Exchange) (taken : List ℕ) → StreamState state first xs taken old line
    → (more : List Exchange) × (text ≡ replies_text more) × Halted state first (xs ++ more) new taken taken Failed
