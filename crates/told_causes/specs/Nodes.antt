-- Why a restart and a bootstrap are refused: the disk of one of the node's replicas failed, or its files were found damaged.
use Rattle.std.specs.Prelude.{◌≡◌, ℕ, ⊤, List, length, Option, Bool}
use Rattle.m3_model.specs.declared.act.Act.{Act}
use Rattle.m3_model.specs.declared.act.Act.TheVariants as act
use Rattle.m3_model.specs.declared.answer.Answer.{Answer}
use Rattle.m3_model.specs.declared.answer.Answer.TheVariants as answer
use Rattle.m3_model.specs.declared.reason.Reason.TheVariants as reason
use Rattle.m3_model.specs.declared.rules.MetaState.{MetaState}
use Rattle.m3_model.specs.declared.turn.Turn.{Turn}
use Rattle.cluster_core.specs.Legal.{Legal}
use Rattle.cluster_core.specs.declared.event.Event.{Event}
use Rattle.cluster_core.specs.declared.event.StepReply.TheVariants as reply
use Rattle.transcripts.specs.Caused.{HadBefore, IsOwn}
use Rattle.transcripts.specs.Deliveries.{LateMessage}
use Rattle.transcripts.specs.Record.{TurnPosition, IsTurnPosition}
use Rattle.told_by.specs.Hears.{HasStep, IsRestartCall}
use Rattle.told_by.specs.Told.{ToldBy}
use Rattle.told_causes.specs.Boot.{ArePlacesInOrder}
use Rattle.told_causes.specs.Calls.{Within}
use Rattle.told_causes.specs.Faults.{faults_told}

-- the answer names the disk or the files of a replica of the act's node, by its shard
abbrev pub NamesReplica : Act → Answer → ℕ → Type 0
NamesReplica (act.Restart node pick) (answer.Disk name shard) s = shard ≡ s
NamesReplica (act.Bootstrap node asked) (answer.Disk name shard) s = shard ≡ s
NamesReplica (act.Bootstrap node asked) (answer.Corrupt name shard damage) s = shard ≡ s
NamesReplica _ _ s = ⊥

-- where the act is a restart, the slots of the shard whose restart fails for their disk within the turn's stretch had a replica before its line
abbrev pub AreReached : Option MetaState → (ℕ → Event → Type 0) → TurnPosition → Act → ℕ → Type 0
AreReached start Here p (act.Restart name pick) shard = (node : ℕ) → HasStep Here IsRestartCall node shard (reply.Refused reason.Disk) → HadBefore start p shard node
AreReached start Here p _ shard = ⊤

-- Where Places are in order, and a turn answers so of a slot that it reaches, a transcript says why.
abbrev pub NodeAnswersAreSaid : Bool → Type 0
NodeAnswersAreSaid tells =
    (start : Option MetaState) (turns : List Turn) (events : List Event) → Legal tells events → (told : ToldBy start turns events) → ArePlacesInOrder start turns events told → (p : TurnPosition) → IsTurnPosition turns p
    → (shard : ℕ) → NamesReplica p.turn.act p.turn.answer shard → AreReached start (Within events told.spans p) p p.turn.act shard
    → (messages : List LateMessage) → IsOwn tells (faults_told told.ends events (length turns)) start messages p p.turn.act p.turn.answer
