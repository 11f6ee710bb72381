-- What a run leaves to the next one, by what files held when it began and hold when it ends.
use Rattle.std.specs.Prelude.{◌≡◌, ◌≢◌, ℕ, ⊤, List, [], ◌∷◌, ◌++◌, take, Option, Some, None, true}
use Rattle.m3_model.specs.Members.{IsIn}
use Rattle.m3_model.specs.declared.act.Act.{Act}
use Rattle.m3_model.specs.declared.answer.Answer.{Answer}
use Rattle.m3_model.specs.declared.point.Point.{Point}
use Rattle.m3_model.specs.declared.rules.MetaState.{MetaState}
use Rattle.m3_model.specs.declared.turn.Request.{Request}
use Rattle.m3_model.specs.declared.turn.Request.TheVariants as request
use Rattle.m3_model.specs.declared.turn.Turn.{Turn}
use Rattle.m3_outside.specs.Depots.{TellAll}
use Rattle.m3_outside.specs.DiskState.{DiskState, IsEmpty}
use Rattle.m3_outside.specs.Files.{Files}
use Rattle.m3_outside.specs.Slots.{Held, MayGive}
use Rattle.shard_files.specs.FilesHold.{FilesHold}
use Rattle.shard_files.specs.Once.{HaveSamePoints}
use Rattle.transcripts.specs.Record.{Record, line_of}
use Rattle.cluster_core.specs.Core.{Opening, AgreesWith}
use Rattle.cluster_core.specs.Legal.{Legal}
use Rattle.cluster_core.specs.Lists.{At}
use Rattle.cluster_core.specs.Replicas.{replica}
use Rattle.cluster_core.specs.declared.event.Event.{Event}
use Rattle.cluster_core.specs.declared.event.Event.TheVariants as event
use Rattle.cluster_core.specs.declared.event.StepCall.TheVariants as call
use Rattle.cluster_core.specs.declared.event.StepReply.TheVariants as reply
use Rattle.cluster_core.specs.declared.replica_state.ReplicaState.{ReplicaState}
use Rattle.replica_machine.specs.Machines.{IsHeldBy, IsMachineOf, MachineState}
use Rattle.replica_machine.specs.Openings.{AllSound, BeginsAsMade, HoldAsMade}
use Rattle.replica_machine.specs.Steps.{IsStep}
use Rattle.told_by.specs.Leaves.{IsLeftState, MayBeOpen}
use Rattle.transcripts.specs.Left.{OpeningStands}
use Rattle.told_by.specs.Told.{ToldBy}
use Rattle.life_ends.specs.Lies.{MayLie}

-- ---- files that stand for a life

-- the files hold these points and no others
pub record HoldPoints (points : List Point) (files : Files) : Type 0 where
  pub all : List Point
  pub tenure : ℕ
  pub fence : ℕ
  pub held : FilesHold all tenure fence files
  pub same : HaveSamePoints points all

-- so at each slot, of a node and a shard
abbrev pub HoldOpening : (ℕ → ℕ → Files) → Opening → Type 0
HoldOpening files opening = (n s : ℕ) → HoldPoints (opening n s) (files n s)

-- Whatever a stop leaves of each slot: the acknowledged points of the life are there, and none that wasn't sent.
abbrev pub FilesStand : {D : Type 0} → (D → DiskState) → List Record → Option MetaState → (ℕ → ℕ → Held D) → Type 0
FilesStand state past start held = (files : ℕ → ℕ → Files) → ((n s : ℕ) → MayLie state (held n s) (files n s)) → (opening : Opening) × HoldOpening files opening × OpeningStands past start opening

-- ---- a run over them

-- what a replica first begins with is what lay in its slot
abbrev pub BeginWithThese : {D : Type 0} → (D → DiskState) → (ℕ → ℕ → Held D) → List Event → Type 0
BeginWithThese state held events =
    (i n s tenure fence : ℕ) (points : List Point) → At events i (event.Step n s (call.Begin tenure) (reply.Began fence points)) → (replica n s (take i events)).begun ≡ []
    → (tried : List ℕ) × BeginsAsMade (MayLie state (held n s)) tried fence points

-- what a stop leaves of a slot: what its replica may begin with, or what lay there
pub record IsLeftOf {D : Type 0} (state : D → DiskState) (held : Held D) (r : ReplicaState) (files : Files) : Type 0 where
  pub begun : r.begun ≢ [] → IsHeldBy r files
  pub unbegun : r.begun ≡ [] → HoldAsMade (MayLie state held) r.tried files

-- ---- laws

-- A machine over the disk that its slot gave leaves so much of the slot.
abbrev pub MachineLeavesSo : {D : Type 0} → (D → DiskState) → Type 0
MachineLeavesSo {D} state =
    (held : Held D) (first : D) (r : ReplicaState) (m : MachineState D) → TellAll state → MayGive (λ d. IsEmpty (state d)) held first → AllSound (state first).images → IsMachineOf state (state first).images r m
    → (files : Files) → (state m.disk).images files → IsLeftOf state held r files

-- And its replica's first begin is with what lay there.
abbrev pub MachineBeginsSo : {D : Type 0} → (D → DiskState) → Type 0
MachineBeginsSo {D} state =
    (held : Held D) (first : D) (r : ReplicaState) (old new : MachineState D) (tenure fence : ℕ) (points : List Point) → TellAll state → MayGive (λ d. IsEmpty (state d)) held first → AllSound (state first).images
    → IsMachineOf state (state first).images r old → r.begun ≡ [] → IsStep state old (call.Begin tenure) (reply.Began fence points) new → BeginsAsMade (MayLie state held) (r.tried ++ tenure ∷ []) fence points

-- replicas first begin with what earlier runs left, which is nothing that they didn't send
pub record OpensAsLeft (past : List Record) (start : Option MetaState) (events : List Event) : Type 0 where
  pub opening : Opening
  pub agrees : AgreesWith events opening
  pub stands : OpeningStands past start opening

-- A run over files that stand for a life opens with what these hold.
abbrev pub RunOpensStanding : {D : Type 0} → (D → DiskState) → Type 0
RunOpensStanding {D} state =
    (past : List Record) (start : Option MetaState) (events : List Event) (held : ℕ → ℕ → Held D) (files : ℕ → ℕ → Files)
    → Legal true events → FilesStand state past start held → ((n s : ℕ) → MayLie state (held n s) (files n s)) → BeginWithThese state held events → OpensAsLeft past start events

-- What stops leave of the files of a told run stands for the life with it. Its last request may have got no answer.
abbrev pub RunLeavesStanding : {D : Type 0} → (D → DiskState) → Type 0
RunLeavesStanding {D} state =
    (past : List Record) (start : Option MetaState) (turns : List Turn) (unanswered : Option Request) (events more : List Event) (left : MetaState) (held now : ℕ → ℕ → Held D)
    → Legal true (events ++ more) → ToldBy start turns events → ((e : Event) → IsIn more e → MayBeOpen unanswered left.rules e) → IsLeftState start turns (events ++ more) left
    → FilesStand state past start held → BeginWithThese state held (events ++ more)
    → ((n s : ℕ) (files : Files) → MayLie state (now n s) files → IsLeftOf state (held n s) (replica n s (events ++ more)) files)
    → FilesStand state (past ++ record { start = start; turns = turns; unanswered = unanswered } ∷ []) (Some left) now

-- an event that changes nothing of what replicas hold: of the last step of a line, and of what comes behind it
abbrev pub ChangesNoContent : Event → Type 0
ChangesNoContent (event.Ask asked) = ⊤
ChangesNoContent (event.Place placement done) = ⊤
ChangesNoContent (event.Clock rules) = ⊤
ChangesNoContent (event.Step n s call.End a) = ⊤
ChangesNoContent _ = ⊥

-- So it is also by the state from before the last request's step, where the step was made and that state stands on the disk still.
abbrev pub RunLeavesStandingBefore : {D : Type 0} → (D → DiskState) → Type 0
RunLeavesStandingBefore {D} state =
    (past : List Record) (start : Option MetaState) (turns : List Turn) (unanswered : Option Request) (events more later : List Event) (left : MetaState) (held now : ℕ → ℕ → Held D)
    → Legal true ((events ++ more) ++ later) → ToldBy start turns events → ((e : Event) → IsIn more e → MayBeOpen unanswered left.rules e) → ((e : Event) → IsIn later e → ChangesNoContent e) → IsLeftState start turns (events ++ more) left
    → FilesStand state past start held → BeginWithThese state held ((events ++ more) ++ later)
    → ((n s : ℕ) (files : Files) → MayLie state (now n s) files → IsLeftOf state (held n s) (replica n s ((events ++ more) ++ later)) files)
    → FilesStand state (past ++ record { start = start; turns = turns; unanswered = unanswered } ∷ []) (Some left) now

-- A turn whose reply wasn't written may be counted as a request that got no answer.
abbrev pub UnansweredStands : Type 0
UnansweredStands =
    (past : List Record) (start : Option MetaState) (turns : List Turn) (a : Act) (b : Answer) (left : Option MetaState) (opening : Opening)
    → OpeningStands (past ++ record { start = start; turns = turns ++ line_of a b ∷ []; unanswered = None } ∷ []) left opening
    → OpeningStands (past ++ record { start = start; turns = turns; unanswered = Some (request.One a) } ∷ []) left opening
