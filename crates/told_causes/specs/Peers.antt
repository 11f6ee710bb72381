-- Why former replicas didn't stream whole.
use Rattle.std.specs.Prelude.{◌≡◌, ℕ, List, length, Option, Bool, true}
use Rattle.m3_model.specs.Members.{IsIn}
use Rattle.m3_model.specs.declared.placement.Placement.{Placement}
use Rattle.m3_model.specs.declared.reason.Reason.{Reason}
use Rattle.m3_model.specs.declared.reason.Reason.TheVariants as reason
use Rattle.m3_model.specs.declared.rules.MetaState.{MetaState}
use Rattle.m3_model.specs.declared.turn.Turn.{Turn}
use Rattle.placement_core.specs.Shards.{nodes_of, shard_at}
use Rattle.cluster_core.specs.Legal.{Legal}
use Rattle.cluster_core.specs.declared.event.Event.{Event}
use Rattle.cluster_core.specs.declared.event.StepReply.TheVariants as reply
use Rattle.transcripts.specs.Peers.{IsUnownedForMove, MayBreak}
use Rattle.transcripts.specs.Record.{TurnPosition, IsTurnPosition}
use Rattle.told_by.specs.Hears.{HasStep, HearsReason, IsStreamCall}
use Rattle.told_by.specs.Told.{ToldBy}
use Rattle.told_causes.specs.Boot.{IsBootAct, IsKnownMember}
use Rattle.told_causes.specs.Calls.{IsSteadyNode, Within}
use Rattle.told_causes.specs.Faults.{faults_told}

-- What is known of a bootstrap that streams for a move of the shard which began at the version, over a placement: it is of a run that a legal list tells of, nodes have one name,
-- where the disks tell what they hold each member is a known one, and one that doesn't own the shard is so for the move.
pub record IsKnownStream (tells : Bool) (start : Option MetaState) (turns : List Turn) (events : List Event) (told : ToldBy start turns events) (p : TurnPosition) (place : Placement) (shard version : ℕ) : Type 0 where
  pub legal : Legal tells events
  pub in_run : IsTurnPosition turns p
  pub boots : IsBootAct p.turn.act
  pub explained : (node : ℕ) → IsIn (nodes_of (shard_at place shard)) node → (steady : IsSteadyNode start turns events told p place shard node) × (tells ≡ true → IsKnownMember start turns events told p shard node steady.name)
  pub unowned : (node : ℕ) → IsIn (nodes_of (shard_at place shard)) node → HasStep (Within events told.spans p) (IsStreamCall version) node shard (reply.Refused reason.NotOwned) → IsUnownedForMove tells start p place shard node

-- Each reason that such a bootstrap hears of a former replica has its cause.
abbrev pub PeersAreSaid : Bool → Type 0
PeersAreSaid tells =
    (start : Option MetaState) (turns : List Turn) (events : List Event) (told : ToldBy start turns events) (p : TurnPosition) (place : Placement) (shard version : ℕ) → IsKnownStream tells start turns events told p place shard version
    → (node : ℕ) → IsIn (nodes_of (shard_at place shard)) node → (why : Reason) → HearsReason (Within events told.spans p) (IsStreamCall version) node shard why
    → MayBreak tells (faults_told told.ends events (length turns)) start p place shard node why
