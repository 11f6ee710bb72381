-- Why a late message came to what it did.
use Rattle.std.specs.Prelude.{◌≡◌, ℕ, List, length, Option, Some, None, Bool}
use Rattle.m3_model.specs.declared.act.Act.TheVariants as act
use Rattle.m3_model.specs.declared.reason.Reason.{Reason}
use Rattle.m3_model.specs.declared.rules.MetaState.{MetaState}
use Rattle.m3_model.specs.declared.turn.Turn.{Turn}
use Rattle.cluster_core.specs.Legal.{Legal}
use Rattle.cluster_core.specs.declared.event.Event.{Event}
use Rattle.transcripts.specs.Deliveries.{IsDelivered, IsLateMessage, LateMessage, shard_of_message}
use Rattle.transcripts.specs.Record.{TurnPosition, IsTurnPosition}
use Rattle.told_by.specs.Hears.{HearsDelivered, HearsLate}
use Rattle.told_by.specs.Told.{ToldBy}
use Rattle.told_causes.specs.Calls.{IsExplainedAt, IsNamedOnce, IsSteadyNode, Within}
use Rattle.told_causes.specs.Faults.{faults_told}
use Rattle.told_causes.specs.Standing.{HaltsAlone}

-- What is known of a `deliver`: it is of a run that a legal list tells of, stops are alone in their lines, nodes have one name, and what it hears is explained.
pub record IsKnownDelivery (tells : Bool) (start : Option MetaState) (turns : List Turn) (events : List Event) (told : ToldBy start turns events) (p : TurnPosition) : Type 0 where
  pub legal : Legal tells events
  pub in_run : IsTurnPosition turns p
  pub delivers : p.turn.act ≡ act.Deliver
  pub halts : HaltsAlone turns
  pub named : (m : LateMessage) → IsLateMessage start p m → (shard : ℕ) → HearsLate start (Within events told.spans p) p m shard None → IsNamedOnce events m.used m.node
  pub explained : (m : LateMessage) → IsLateMessage start p m → (shard : ℕ) → shard ≡ shard_of_message start m → (why : Reason) → HearsLate start (Within events told.spans p) p m shard (Some why)
      → (steady : IsSteadyNode start turns events told p m.used shard m.node) × IsExplainedAt tells start turns events told p m.used shard m.node steady.name why

-- The outcomes that a `deliver` hears are those of the late messages, each with its cause.
abbrev pub OutcomesAreSaid : Bool → Type 0
OutcomesAreSaid tells =
    (start : Option MetaState) (turns : List Turn) (events : List Event) (told : ToldBy start turns events) (p : TurnPosition) → IsKnownDelivery tells start turns events told p
    → (outcomes : List (ℕ × ℕ × Option Reason)) → (hears : HearsDelivered start (Within events told.spans p) p outcomes) → IsDelivered tells (faults_told told.ends events (length turns)) start p hears.messages outcomes
