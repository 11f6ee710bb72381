-- What calls of clients leave of the list tells of their turns.
use Rattle.std.specs.Prelude.{◌≡◌, ℕ, ℤ, ⊤, List, [], ◌∷◌, ◌++◌, Option, Some, None, Bool}
use Rattle.m3_model.specs.declared.act.Act.{Act}
use Rattle.m3_model.specs.declared.act.Act.TheVariants as act
use Rattle.m3_model.specs.declared.act.WriteLevel.{WriteLevel}
use Rattle.m3_model.specs.declared.answer.Answer.{Answer}
use Rattle.m3_model.specs.declared.answer.Answer.TheVariants as answer
use Rattle.m3_model.specs.declared.point.Point.{Point}
use Rattle.m3_model.specs.declared.reason.Reason.{Reason}
use Rattle.m3_model.specs.declared.rules.MetaState.{MetaState}
use Rattle.m3_model.specs.declared.turn.Turn.{Turn}
use Rattle.m3_outside.specs.DiskState.{DiskState}
use Rattle.m3_outside.specs.declared.disk.Disk.{Ghosts}
use Rattle.cluster_core.specs.Legal.{Legal}
use Rattle.cluster_core.specs.declared.event.Event.{Event}
use Rattle.cluster_core.specs.declared.event.Event.TheVariants as event
use Rattle.cluster_core.specs.declared.event.StepCall.{StepCall}
use Rattle.cluster_core.specs.declared.event.StepCall.TheVariants as call
use Rattle.session_net.specs.replica_exchange.declared.call_id.CallId.{CallId}
use Rattle.session_net.specs.Deliveries.{HasDelivered}
use Rattle.session_net.specs.Ready.{IsReady, IsCallable}
use Rattle.session_net.specs.Writes.{IsAcknowledged, IsUnmet, IsUnsent}
use Rattle.session_net.specs.declared.net.Net.{Net}
use Rattle.told_runs.specs.told_by.Lines.{PlainLine, WriteLine, position_after}
use Rattle.told_runs.specs.Lines.{ServesOne, delivered_on}
use Rattle.told_runs.specs.transcripts.Caused.{refusal_after}
use Rattle.told_runs.specs.transcripts.Deliveries.{LateMessage}
use Rattle.told_runs.specs.transcripts.Points.{point_of}
use Rattle.told_runs.specs.transcripts.Record.{Record, TurnPosition, inner_turns, line_of}
use Rattle.line_tracks.specs.calls.Left.{NetIsLeftBy, NetIsUsable, IsNextCall, WereDelivered}

-- A kind of line that says what its events tell.
abbrev pub Kind : Type 1
Kind = Option MetaState → List Turn → List Event → Act → Answer → List Event → Type 0

-- no replica is begun with the call, and none ended
abbrev pub IsCalmCall : StepCall → Type 0
IsCalmCall (call.Begin tenure) = ⊥
IsCalmCall call.End = ⊥
IsCalmCall _ = ⊤

-- nor with the event, which is no Place
abbrev pub IsCalm : Event → Type 0
IsCalm (event.Place place done) = ⊥
IsCalm (event.Step n s c a) = IsCalmCall c
IsCalm _ = ⊤

-- no refusal is due for the act where it stands
abbrev pub IsNotRefused : Option MetaState → List Turn → Act → Answer → Type 0
IsNotRefused start turns a b = refusal_after start (position_after turns a b) (inner_turns turns) ≡ None

-- What came to the list tells of the turn's line; and where no refusal was due, the line is served: it delivers these messages.
pub record LeavesLine {D : Type 0} {G : Ghosts D} (Line : Kind) (start : Option MetaState) (turns : List Turn) (messages : List LateMessage) (old : Net D G) (a : Act) (b : Answer) (new : Net D G) : Type 0 where
  pub more : List Event
  pub grew : new.replicas.events ≡ old.replicas.events ++ more
  pub line : Line start turns old.replicas.events a b more
  pub serves : IsNotRefused start turns a b → (tells : Bool) (was : TurnPosition → List LateMessage) (past : List Record) → WereDelivered turns was → ServesOne tells [] messages was past start turns old.replicas.events a b more
  pub delivered : (was : TurnPosition → List LateMessage) → WereDelivered turns was → WereDelivered (turns ++ line_of a b ∷ []) (delivered_on turns was (λ p. messages))

-- The same of a line that is served whatever refusal is due: where the one that is due was answered, or where there was no room.
pub record LeavesServed (Line : Kind) (start : Option MetaState) (turns : List Turn) (messages : List LateMessage) (events : List Event) (a : Act) (b : Answer) (later : List Event) : Type 0 where
  pub more : List Event
  pub grew : later ≡ events ++ more
  pub line : Line start turns events a b more
  pub serves : (tells : Bool) (was : TurnPosition → List LateMessage) (past : List Record) → WereDelivered turns was → ServesOne tells [] messages was past start turns events a b more
  pub delivered : (was : TurnPosition → List LateMessage) → WereDelivered turns was → WereDelivered (turns ++ line_of a b ∷ []) (delivered_on turns was (λ p. messages))

-- ---- writes

-- the next turn is a write of this point, made as this call where calls may be made
pub record IsWrite {D : Type 0} {G : Ghosts D} (start : Option MetaState) (turns : List Turn) (net : Net D G) (id : CallId) (a : Act) (point : Point) (level : WriteLevel) : Type 0 where
  pub version : Option ℕ
  pub left : NetIsUsable start turns version net
  pub ready : IsCallable net.state net.replicas net.bag
  pub next : IsNextCall turns id
  pub ns : List ℕ
  pub name : List ℕ
  pub t : ℕ
  pub v : ℤ
  pub act_is : a ≡ act.Write ns name t v level version
  pub of_act : point_of net.state.rules.spaces a ≡ Some point

-- one that was acknowledged tells of its line
abbrev pub AcknowledgedTells : {D : Type 0} {G : Ghosts D} → (D → DiskState) → Net D G → Type 0
AcknowledgedTells {D} {G} state old =
    (start : Option MetaState) (turns : List Turn) (new : Net D G) (id : CallId) (a : Act) (point : Point) (level : WriteLevel) (acks : List ℕ)
    → IsWrite start turns old id a point level → IsAcknowledged state old id point level acks new → LeavesLine WriteLine start turns [] old a (answer.Acks acks) new

-- so does one that too few took, where the list is legal
abbrev pub UnmetTells : {D : Type 0} {G : Ghosts D} → (D → DiskState) → Net D G → Type 0
UnmetTells {D} {G} state old =
    (tells : Bool) (start : Option MetaState) (turns : List Turn) (new : Net D G) (id : CallId) (a : Act) (point : Point) (level : WriteLevel) (shard needed got : ℕ) (reasons : List (ℕ × Reason))
    → IsWrite start turns old id a point level → Legal tells new.replicas.events → IsUnmet state old id point level shard needed got reasons new → LeavesLine WriteLine start turns [] old a (answer.Consistency got needed reasons shard) new

-- and one that wanted memory once it was sent
abbrev pub UnsentTells : {D : Type 0} {G : Ghosts D} → (D → DiskState) → Net D G → Type 0
UnsentTells {D} {G} state old =
    (start : Option MetaState) (turns : List Turn) (new : Net D G) (id : CallId) (a : Act) (point : Point) (level : WriteLevel)
    → IsWrite start turns old id a point level → IsUnsent state old id point new → LeavesLine WriteLine start turns [] old a answer.Memory new

-- ---- deliveries

-- The late writes that were delivered are late messages of the turns, and what came to the list tells of the delivery's line.
abbrev pub DeliveredTells : {D : Type 0} {G : Ghosts D} → (D → DiskState) → Net D G → Type 0
DeliveredTells {D} {G} state old =
    (tells : Bool) (start : Option MetaState) (turns : List Turn) (new : Net D G) (outcomes : List (ℕ × ℕ × Option Reason))
    → (left : NetIsLeftBy start turns old) → IsReady old.state old.replicas old.bag → Legal tells new.replicas.events → HasDelivered state old outcomes new
    → LeavesLine PlainLine start turns (left.late).messages old act.Deliver (answer.Outcomes outcomes) new

-- ---- calls that were refused before any event

-- memory was wanted, or the list had no room
abbrev pub IsGivenUp : Answer → Type 0
IsGivenUp answer.Memory = ⊤
IsGivenUp answer.Full = ⊤
IsGivenUp _ = ⊥

-- Where nothing came to the list, that tells of a line that was given up.
abbrev pub NothingTells : Type 0
NothingTells = (start : Option MetaState) (turns : List Turn) (events : List Event) (a : Act) (b : Answer) → IsGivenUp b → PlainLine start turns events a b []

-- And such a line that wanted memory is served.
abbrev pub NothingServes : Type 0
NothingServes = (tells : Bool) (was : TurnPosition → List LateMessage) (past : List Record) (start : Option MetaState) (turns : List Turn) (events : List Event) (a : Act) → WereDelivered turns was → ServesOne tells [] [] was past start turns events a answer.Memory []
