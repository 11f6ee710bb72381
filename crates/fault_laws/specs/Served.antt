-- Acts that are done unless something keeps them from it, and what may.
use Rattle.std.specs.Prelude.{◌≡◌, ◌⊎◌, ⊤, List, Option, Some, Bool, true, false}
use Rattle.m3_model.specs.Members.{IsIn}
use Rattle.m3_model.specs.declared.act.Act.{Act}
use Rattle.m3_model.specs.declared.act.Act.TheVariants as act
use Rattle.m3_model.specs.declared.answer.Answer.{Answer}
use Rattle.m3_model.specs.declared.answer.Answer.TheVariants as answer
use Rattle.m3_model.specs.declared.placement.Placement.{Placement}
use Rattle.m3_model.specs.declared.rules.MetaState.{MetaState}
use Rattle.placement_acts.specs.Acts.{IsInTheWay}
use Rattle.transcripts.specs.Caused.{CausedAt, MayBeFull, refusal_after}
use Rattle.transcripts.specs.Deliveries.{LateMessage}
use Rattle.transcripts.specs.Faults.{Fault}
use Rattle.transcripts.specs.Record.{InnerTurn, IsAfter, Record, TurnPosition}

-- an act that asks no replicas for a level, and has none join
abbrev pub is_plain : Act → Bool
is_plain (act.Write ns id t v level version) = false
is_plain (act.Fetch ns id from to level version) = false
is_plain (act.Match ns wanted from to level version) = false
is_plain (act.Bootstrap node shard) = false
is_plain act.Repair = false
is_plain _ = true

-- the answer says that such an act was done
abbrev pub IsDone : Act → Answer → Type 0
IsDone (act.Init rf shards seed nodes) (answer.Placed place version) = ⊤
IsDone (act.Namespace name block past future retention) answer.Done = ⊤
IsDone (act.Now now) answer.Done = ⊤
IsDone (act.Fates list) answer.Done = ⊤
IsDone act.Deliver (answer.Outcomes outcomes) = ⊤
IsDone (act.Stop node) answer.Done = ⊤
IsDone (act.Restart node pick) answer.Done = ⊤
IsDone (act.Add node group) (answer.Placed place version) = ⊤
IsDone (act.Drain node) (answer.Placed place version) = ⊤
IsDone (act.Cancel node) (answer.Placed place version) = ⊤
IsDone (act.Remove node) (answer.Placed place version) = ⊤
IsDone (act.Replace node by group) (answer.Placed place version) = ⊤
IsDone act.Tick (answer.Swept done failed) = ⊤
IsDone act.Flush (answer.Swept done failed) = ⊤
IsDone act.Snapshot (answer.Swept done failed) = ⊤
IsDone act.Status (answer.Status now lines version) = ⊤
IsDone _ _ = ⊥

-- it was done, or a refusal is due, or something is in the way of its plan, or a fault is listed, or memory or room for events is wanted
abbrev pub IsDoneOr : Bool → List Fault → List Record → Option MetaState → TurnPosition → Act → Answer → Type 0
IsDoneOr tells faults past start p a b =
    IsDone a b
    ⊎ (((turns : List InnerTurn) × IsAfter p turns × (refusal_after start p turns ≡ Some b))
    ⊎ (((place : Option Placement) × IsInTheWay place a b) ⊎ (((fault : Fault) × IsIn faults fault) ⊎ ((b ≡ answer.Memory) ⊎ ((b ≡ answer.Full) × (tells ≡ true → MayBeFull past p))))))

-- that is so of each such act whose answer has its cause
abbrev pub PlainActsAreDone : Type 0
PlainActsAreDone =
    (tells : Bool) (faults : List Fault) (past : List Record) (start : Option MetaState) (messages : List LateMessage) (p : TurnPosition) → CausedAt tells faults past start messages p → is_plain p.turn.act ≡ true
    → IsDoneOr tells faults past start p p.turn.act p.turn.answer
