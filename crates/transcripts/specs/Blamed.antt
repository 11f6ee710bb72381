-- Replicas that only a fault explains, where the disks tell what they hold: those that a bootstrap passes over, and how a `status` says that they stand.
use Rattle.std.specs.Prelude.{◌≡◌, ◌≤◌, ◌⊎◌, ℕ, ⊤, List, Option, Some}
use Rattle.m3_model.specs.Members.{IsIn}
use Rattle.m3_model.specs.declared.act.Act.{Act}
use Rattle.m3_model.specs.declared.act.Act.TheVariants as act
use Rattle.m3_model.specs.declared.answer.Answer.{Answer}
use Rattle.m3_model.specs.declared.answer.Answer.TheVariants as answer
use Rattle.m3_model.specs.declared.answer.StatusLine.{StatusLine}
use Rattle.m3_model.specs.declared.placement.Placement.{Placement}
use Rattle.m3_model.specs.declared.replica.Standing.{Standing}
use Rattle.m3_model.specs.declared.replica.Standing.TheVariants as standing
use Rattle.m3_model.specs.declared.rules.MetaState.{MetaState}
use Rattle.transcripts.specs.Caused.{MayBeFull}
use Rattle.transcripts.specs.Fates.{IsRunningAt, IsStoppedAt}
use Rattle.transcripts.specs.Faults.{Fault, IsClosedByFault}
use Rattle.transcripts.specs.Peers.{IsJoinedBy}
use Rattle.transcripts.specs.Placements.{MayStand, placement_at}
use Rattle.transcripts.specs.Record.{Life, Record, TurnPosition, IsTurnPosition}
use Rattle.transcripts.specs.Waiting.{WaitsForBoot}

-- A bootstrap that left this placement passed over each replica that it covers and that joins its shard still, with a tenure that it had when the line began: a
-- fault closed it.
abbrev pub PassesOver : List Fault → Option MetaState → TurnPosition → List ℕ → Option ℕ → Placement → Type 0
PassesOver faults start p name asked place =
    (before : Placement) → placement_at start p ≡ Some before → (shard : ℕ) (joins : IsJoinedBy place name asked shard) → joins.joining.tenure ≤ before.version → IsClosedByFault faults start p place shard joins.node

-- How a `status` may say that a replica stands: down where its node is stopped, a fault closed it or the list of events may be full, at boot where it waits for a
-- bootstrap, and open where its node runs.
abbrev pub MayStandAs : List Fault → List Record → Option MetaState → TurnPosition → Placement → ℕ → ℕ → Standing → Type 0
MayStandAs faults past start p place shard node standing.Down = IsStoppedAt p place node ⊎ (IsClosedByFault faults start p place shard node ⊎ MayBeFull past p)
MayStandAs faults past start p place shard node standing.Boot = WaitsForBoot start p place shard node
MayStandAs faults past start p place shard node standing.Open = IsRunningAt p place node

-- each line of a `status` says so of its replica
pub record StandAsSaid (faults : List Fault) (past : List Record) (start : Option MetaState) (p : TurnPosition) (lines : List StatusLine) : Type 0 where
  pub place : Placement
  pub stands : MayStand start p place
  pub each : (line : StatusLine) → IsIn lines line → MayStandAs faults past start p place line.shard line.node line.standing

-- what an answer of an act blames on faults was closed by them
abbrev pub BlamesBy : List Fault → List Record → Option MetaState → TurnPosition → Act → Answer → Type 0
BlamesBy faults past start p (act.Bootstrap name asked) (answer.Available available place version) = PassesOver faults start p name asked place
BlamesBy faults past start p act.Status (answer.Status now lines version) = StandAsSaid faults past start p lines
BlamesBy faults past start p _ _ = ⊤

-- so it is of each answer of the present run
abbrev pub Blamed : Life → List Fault → Type 0
Blamed life faults = (p : TurnPosition) → IsTurnPosition life.present.turns p → BlamesBy faults life.past life.present.start p p.turn.act p.turn.answer
