-- Why a replica may refuse a message.
use Rattle.std.specs.Prelude.{◌≡◌, ◌≢◌, ℕ, List, Option, Some, Bool, true, false, ◌⊎◌, ⊤}
use Rattle.m3_model.specs.Rules.{InWindow, IsPast, IsFuture}
use Rattle.m3_model.specs.declared.act.Act.{Act}
use Rattle.m3_model.specs.declared.act.Act.TheVariants as act
use Rattle.m3_model.specs.declared.placement.Placement.{Placement}
use Rattle.m3_model.specs.declared.point.Point.{Point}
use Rattle.m3_model.specs.declared.reason.Damage.{Damage}
use Rattle.m3_model.specs.declared.reason.Damage.TheVariants as damaged
use Rattle.m3_model.specs.declared.reason.Reason.{Reason}
use Rattle.m3_model.specs.declared.reason.Reason.TheVariants as reason
use Rattle.m3_model.specs.declared.rules.MetaState.{MetaState}
use Rattle.m3_model.specs.declared.rules.Rules.{Rules}
use Rattle.transcripts.specs.Fates.{IsCutAt, IsStoppedAt}
use Rattle.transcripts.specs.Faults.{Fault, HasFailed, IsDamaged, IsClosedByFault}
use Rattle.transcripts.specs.Moves.{IsFencedAbove, IsUnowned}
use Rattle.transcripts.specs.Points.{point_of}
use Rattle.transcripts.specs.Record.{TurnPosition}
use Rattle.transcripts.specs.Rules.{rules_at}
use Rattle.transcripts.specs.Waiting.{WaitsForBoot}

-- two digests show damage where they differ; that bytes aren't in their grammar is said of the files
abbrev pub IsShown : Damage → Type 0
IsShown (damaged.Digest file kept found) = kept ≢ found
IsShown (damaged.Form file at) = ⊤

-- Why the replica of a node for a shard may refuse whatever it is asked: the node is stopped, or a fault closed the replica; it waits for a bootstrap; the node
-- doesn't own the shard at the version; a move of the shard fenced it above the version; its disk failed, or its files were found damaged, in this line; or
-- memory is wanted, which may come at any position. Where disks don't tell what they hold, nothing is said of a bootstrap's end and of fences, which the files decide.
abbrev pub MayFail : Bool → List Fault → Option MetaState → TurnPosition → Placement → ℕ → ℕ → Reason → Type 0
MayFail tells faults start p place shard node reason.Down = IsStoppedAt p place node ⊎ IsClosedByFault faults start p place shard node
MayFail tells faults start p place shard node reason.Boot = tells ≡ true → WaitsForBoot start p place shard node
MayFail tells faults start p place shard node reason.NotOwned = IsUnowned tells start p place shard node
MayFail tells faults start p place shard node (reason.Stale fence) = tells ≡ true → IsFencedAbove start p place shard fence
MayFail tells faults start p place shard node reason.Disk = HasFailed faults p shard node
MayFail tells faults start p place shard node (reason.Corrupt damage) = IsDamaged faults p shard node × IsShown damage
MayFail tells faults start p place shard node reason.Memory = ⊤
MayFail tells faults start p place shard node _ = ⊥

-- the point of the act is one that is taken at this moment
pub record TakesPoint (rules : Rules) (a : Act) : Type 0 where
  pub point : Point
  pub of_act : point_of rules.spaces a ≡ Some point
  pub in_window : InWindow rules point

-- a replica may do as a call asks: a write's point is one that is taken at this moment
abbrev pub MayServe : Rules → Act → Type 0
MayServe rules (act.Write ns id t v level version) = TakesPoint rules (act.Write ns id t v level version)
MayServe rules _ = ⊤

-- a write's point lies too far below the moment, or too far above it
pub record IsOutside (Outside : Rules → Point → Type 0) (rules : Rules) (a : Act) : Type 0 where
  pub point : Point
  pub of_act : point_of rules.spaces a ≡ Some point
  pub outside : Outside rules point

-- why it may refuse a call: its messages aren't delivered, the point isn't in the window, or the replica refuses whatever it is asked
abbrev pub MayRefuse : Bool → List Fault → Option MetaState → TurnPosition → Placement → ℕ → ℕ → Reason → Type 0
MayRefuse tells faults start p place shard node reason.Cut = IsCutAt p place node
MayRefuse tells faults start p place shard node reason.Past = IsOutside IsPast (rules_at start p) p.turn.act
MayRefuse tells faults start p place shard node reason.Future = IsOutside IsFuture (rules_at start p) p.turn.act
MayRefuse tells faults start p place shard node why = MayFail tells faults start p place shard node why
