-- What upkeep and `status` leave of the list tells of their lines, and serves them; and the cluster stands afterwards.
use Rattle.std.specs.Prelude.{◌≡◌, ⊤, ℕ, List, Option, Some, None}
use Rattle.m3_model.specs.declared.act.Act.{Act}
use Rattle.m3_model.specs.declared.act.Act.TheVariants as act
use Rattle.m3_model.specs.declared.answer.Answer.{Answer}
use Rattle.m3_model.specs.declared.answer.Answer.TheVariants as answer
use Rattle.m3_model.specs.declared.answer.StatusLine.{StatusLine}
use Rattle.m3_model.specs.declared.reason.Reason.{Reason}
use Rattle.m3_model.specs.declared.rules.MetaState.{MetaState}
use Rattle.m3_model.specs.declared.rules.Rules.{Rules}
use Rattle.m3_model.specs.declared.turn.Turn.{Turn}
use Rattle.m3_outside.specs.DiskState.{DiskState}
use Rattle.m3_outside.specs.declared.disk.Disk.{Ghosts}
use Rattle.cluster_core.specs.declared.event.StepCall.{StepCall}
use Rattle.cluster_core.specs.declared.event.StepCall.TheVariants as call
use Rattle.node_calls.specs.cluster_members.declared.members.Members.{Members}
use Rattle.cluster_upkeep.specs.Upkeep.{HasSwept, HasTold}
use Rattle.line_tracks.specs.acts.Due.{IsDueNext, WhereLeft}
use Rattle.line_tracks.specs.acts.Nodes.{LeavesStanding}
use Rattle.line_tracks.specs.acts.Stands.{ClusterStands}

-- ---- sweeps

-- what the act asks each replica for, by these rules
abbrev pub sweep_call : Act → Rules → Option StepCall
sweep_call act.Tick rules = Some (call.Tick rules)
sweep_call act.Flush rules = Some (call.Flush rules)
sweep_call act.Snapshot rules = Some call.Snapshot
sweep_call _ rules = None

-- what came to the list of a sweep that was answered tells of its line
abbrev pub SweptTells : {D : Type 0} {G : Ghosts D} → (D → DiskState) → Members D G → Type 0
SweptTells {D} {G} state old =
    (start : Option MetaState) (turns : List Turn) (new : Members D G) (a : Act) (c : StepCall) (done : List (ℕ × ℕ × ℕ)) (failed : List (ℕ × ℕ × Reason)) → sweep_call a old.net.state.rules ≡ Some c
    → ClusterStands start turns old → HasSwept state c old done failed new → LeavesStanding start turns old a (answer.Swept done failed) new

-- ---- status

-- so it does of a `status`
abbrev pub StatusTells : {D : Type 0} {G : Ghosts D} → (D → DiskState) → Members D G → Type 0
StatusTells {D} {G} state old =
    (start : Option MetaState) (turns : List Turn) (new : Members D G) (now : ℕ) (lines : List StatusLine) (version : ℕ) → ClusterStands start turns old → HasTold state old now lines version new
    → LeavesStanding start turns old act.Status (answer.Status now lines version) new

-- ---- refusals

-- upkeep, or a `status`
abbrev pub IsUpkeepAct : Act → Type 0
IsUpkeepAct act.Tick = ⊤
IsUpkeepAct act.Flush = ⊤
IsUpkeepAct act.Snapshot = ⊤
IsUpkeepAct act.Status = ⊤
IsUpkeepAct _ = ⊥

-- nothing is refused of it where a placement stands
abbrev pub UpkeepIsDue : Type 0
UpkeepIsDue = WhereLeft (λ start turns place rules. (a : Act) (b : Answer) → IsUpkeepAct a → IsDueNext start turns a b None)
