-- The nodes that an acknowledgement names.
use Rattle.transcripts.specs.Placements.{seed_at}
use Rattle.std.specs.Prelude.{◌≡◌, ℕ, List, length, Option, Some}
use Rattle.m3_model.specs.Hash.{shard_of}
use Rattle.m3_model.specs.Members.{IsIn}
use Rattle.transcripts.specs.Calls.{Call, call_of}
use Rattle.transcripts.specs.Placements.{MayUse, IsCounted}
use Rattle.transcripts.specs.Points.{point_of}
use Rattle.transcripts.specs.Record.{TurnPosition}
use Rattle.transcripts.specs.Rules.{rules_at}
use Rattle.m3_model.specs.declared.placement.Placement.{Placement}
use Rattle.m3_model.specs.declared.point.Point.{Point}
use Rattle.m3_model.specs.declared.rules.MetaState.{MetaState}
use Rattle.cluster_core.specs.Lists.{IsDistinct}

-- different nodes that count for the shard of the write's identifier, in a placement that it may use
pub record AreAckersCounted (start : Option MetaState) (p : TurnPosition) (nodes : List ℕ) : Type 0 where
  pub call : Call
  pub of_act : call_of p.turn.act ≡ Some call
  pub point : Point
  pub of_point : point_of (rules_at start p).spaces p.turn.act ≡ Some point
  pub place : Placement
  pub may_use : MayUse start p call.version place
  pub distinct : IsDistinct nodes
  pub counted : (node : ℕ) → IsIn nodes node → IsCounted place (shard_of point.id (seed_at start p) (length place.shards)) node
