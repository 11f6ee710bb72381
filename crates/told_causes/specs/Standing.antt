-- Why replicas are closed: a node is stopped, or a fault closed the replica and its node wasn't restarted since.
use Rattle.std.specs.Prelude.{◌≡◌, ◌≤◌, ◌<◌, ◌⊎◌, ℕ, suc, ⊤, List, length, take, drop, Option, true, false, IsTrue, Bool}
use Rattle.std.specs.List.{list_any}
use Rattle.m3_model.specs.Members.{IsIn}
use Rattle.m3_model.specs.declared.act.Act.{Act}
use Rattle.m3_model.specs.declared.act.Act.TheVariants as act
use Rattle.m3_model.specs.declared.placement.Placement.{Placement}
use Rattle.m3_model.specs.declared.reason.Reason.TheVariants as reason
use Rattle.m3_model.specs.declared.rules.MetaState.{MetaState}
use Rattle.m3_model.specs.declared.turn.Turn.{Turn}
use Rattle.cluster_core.specs.Legal.{Legal}
use Rattle.cluster_core.specs.declared.event.Event.{Event}
use Rattle.cluster_core.specs.declared.event.Event.TheVariants as event
use Rattle.cluster_core.specs.declared.event.StepCall.{StepCall}
use Rattle.cluster_core.specs.declared.event.StepReply.TheVariants as reply
use Rattle.transcripts.specs.Fates.{IsStoppedAt, OfNode, is_stopped}
use Rattle.transcripts.specs.Faults.{Fault, IsClosedByFault, closes, is_restart}
use Rattle.transcripts.specs.Placements.{HadReplica}
use Rattle.transcripts.specs.Record.{TurnPosition, IsTurnPosition, inner_turns}
use Rattle.told_by.specs.Hears.{Happens, InStretch, IsNamedBy}
use Rattle.told_by.specs.Spans.{IsAlone}
use Rattle.told_by.specs.Told.{ToldBy}
use Rattle.told_causes.specs.Faults.{faults_told}

-- the act stops or restarts a node
abbrev pub IsHaltAct : Act → Type 0
IsHaltAct (act.Stop node) = ⊤
IsHaltAct (act.Restart node pick) = ⊤
IsHaltAct _ = ⊥

-- each stop and each restart is the only turn of its line
abbrev pub HaltsAlone : List Turn → Type 0
HaltsAlone turns = (q : TurnPosition) → IsTurnPosition turns q → IsHaltAct q.turn.act → IsAlone turns q

-- a fault or damage closed the slot in this line or an earlier one, and no line since restarted the node of this name
pub record IsClosedSince (faults : List Fault) (p : TurnPosition) (node shard : ℕ) (name : List ℕ) : Type 0 where
  pub fault : Fault
  pub among : IsIn faults fault
  pub of_node : fault.node ≡ node
  pub of_shard : fault.shard ≡ shard
  pub closing : IsTrue (closes fault.kind)
  pub not_later : fault.line ≤ length p.lines
  pub not_restarted : list_any (is_restart name) (inner_turns (drop (suc fault.line) p.lines)) ≡ false

-- Where a step of a turn that stops and restarts nothing is refused as closed, its node is stopped, or a fault closed the slot.
abbrev pub DownHasCause : Bool → Type 0
DownHasCause tells =
    (start : Option MetaState) (turns : List Turn) (events : List Event) → Legal tells events → (told : ToldBy start turns events) → (p : TurnPosition) → IsTurnPosition turns p → ¬ IsHaltAct p.turn.act
    → (node shard : ℕ) (name : List ℕ) → IsNamedBy events node name → (c : StepCall) → Happens (InStretch events (told.spans.from p) (told.spans.to p)) (event.Step node shard c (reply.Refused reason.Down))
    → (is_stopped (inner_turns p.lines) name ≡ true) ⊎ IsClosedSince (faults_told told.ends events (length turns)) p node shard name

-- the slot had a replica by the end of each earlier line with one of these faults of it
abbrev pub WasThere : List Fault → Option MetaState → TurnPosition → ℕ → ℕ → Type 0
WasThere faults start p node shard =
    (fault : Fault) → IsIn faults fault → fault.node ≡ node → fault.shard ≡ shard → fault.line < length p.lines → HadReplica start (inner_turns (take (suc fault.line) p.lines)) shard node

-- So where the slot had a replica then, a transcript says why it is down.
abbrev pub DownIsSaid : Type 0
DownIsSaid =
    (faults : List Fault) (start : Option MetaState) (p : TurnPosition) (place : Placement) (node shard : ℕ) (name : List ℕ) → OfNode place node (λ own. own ≡ name) → WasThere faults start p node shard
    → (is_stopped (inner_turns p.lines) name ≡ true) ⊎ IsClosedSince faults p node shard name → IsStoppedAt p place node ⊎ IsClosedByFault faults start p place shard node
