-- Why upkeep is refused by replicas.
use Rattle.std.specs.Prelude.{◌≡◌, ⊤, ℕ, List, length, Option, Bool, true}
use Rattle.m3_model.specs.Members.{IsIn}
use Rattle.m3_model.specs.declared.act.Act.{Act}
use Rattle.m3_model.specs.declared.act.Act.TheVariants as act
use Rattle.m3_model.specs.declared.placement.Placement.{Placement}
use Rattle.m3_model.specs.declared.reason.Reason.{Reason}
use Rattle.m3_model.specs.declared.rules.MetaState.{MetaState}
use Rattle.m3_model.specs.declared.turn.Turn.{Turn}
use Rattle.placement_core.specs.Shards.{nodes_of, shard_at}
use Rattle.cluster_core.specs.Legal.{Legal}
use Rattle.cluster_core.specs.declared.event.Event.{Event}
use Rattle.transcripts.specs.Record.{TurnPosition, IsTurnPosition}
use Rattle.transcripts.specs.Sweeps.{MayNotKeepUp}
use Rattle.told_by.specs.Hears.{HearsReason, IsSweepCall}
use Rattle.told_by.specs.Told.{ToldBy}
use Rattle.told_causes.specs.Boot.{IsKnownMember}
use Rattle.told_causes.specs.Calls.{IsSteadyNode, Within}
use Rattle.told_causes.specs.Faults.{faults_told}

-- the act goes over all replicas
abbrev pub IsSweepAct : Act → Type 0
IsSweepAct act.Tick = ⊤
IsSweepAct act.Flush = ⊤
IsSweepAct act.Snapshot = ⊤
IsSweepAct _ = ⊥

-- What is known of a sweep over a placement: it is of a run that a legal list tells of, nodes have one name, and where the disks tell what they hold each member is
-- a known one.
pub record IsKnownSweep (tells : Bool) (start : Option MetaState) (turns : List Turn) (events : List Event) (told : ToldBy start turns events) (p : TurnPosition) (place : Placement) : Type 0 where
  pub legal : Legal tells events
  pub in_run : IsTurnPosition turns p
  pub sweeps : IsSweepAct p.turn.act
  pub explained : (shard node : ℕ) → IsIn (nodes_of (shard_at place shard)) node → (steady : IsSteadyNode start turns events told p place shard node) × (tells ≡ true → IsKnownMember start turns events told p shard node steady.name)

-- Each reason that such a sweep hears has its cause.
abbrev pub SweepsAreSaid : Bool → Type 0
SweepsAreSaid tells =
    (start : Option MetaState) (turns : List Turn) (events : List Event) (told : ToldBy start turns events) (p : TurnPosition) (place : Placement) → IsKnownSweep tells start turns events told p place
    → (shard node : ℕ) → IsIn (nodes_of (shard_at place shard)) node → (why : Reason) → HearsReason (Within events told.spans p) (IsSweepCall p.turn.act) node shard why
    → MayNotKeepUp tells (faults_told told.ends events (length turns)) start p place shard node why
