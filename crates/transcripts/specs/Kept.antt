-- The headline for reads: nothing that was acknowledged is missing, nothing is made up, and the answer is in order.
use Rattle.std.specs.Prelude.{◌≡◌, List, Option, Some, IsTrue}
use Rattle.m3_model.specs.Members.{IsIn}
use Rattle.m3_model.specs.Levels.{is_strong}
use Rattle.transcripts.specs.Record.{Record, Life, TurnPosition, IsTurnPosition}
use Rattle.transcripts.specs.Rules.{rules_at}
use Rattle.transcripts.specs.Points.{sent_at, acked_at}
use Rattle.m3_model.specs.Reads.{Read, Found, read_of, found_of, space_picked, points_in, IsSought, Covers, IsOrdered}
use Rattle.m3_model.specs.declared.point.Point.{Point}
use Rattle.m3_model.specs.declared.rules.Rules.{Rules}
use Rattle.m3_model.specs.declared.rules.MetaState.{MetaState}

-- what a read found, beside the points that were acknowledged and those that were sent
pub record KeepsPoints (rules : Rules) (acked sent : List Point) (read : Read) (found : Found) : Type 0 where
  pub acknowledged : IsTrue (is_strong read.level found.short) → (point : Point) → IsIn acked point → IsSought rules read point → Covers (points_in (space_picked read.pick) found.series) point
  pub nothing_else : (point : Point) → IsIn (points_in (space_picked read.pick) found.series) point → IsIn sent point × IsSought rules read point
  pub ordered : IsOrdered found.series

-- an answered read has a namespace, and keeps the points that it asks for
pub record KeepsRead (past : List Record) (start : Option MetaState) (p : TurnPosition) (found : Found) : Type 0 where
  pub read : Read
  pub asked : read_of (rules_at start p).spaces p.turn.act ≡ Some read
  pub keeps : KeepsPoints (rules_at start p) (acked_at past start p) (sent_at past start p) read found

abbrev pub KeptAt : List Record → Option MetaState → TurnPosition → Type 0
KeptAt past start p = (found : Found) → found_of p.turn.answer ≡ Some found → KeepsRead past start p found

-- each answered read of the present run holds each point that was acknowledged before, or a higher value, and nothing unwritten
abbrev pub Kept : Life → Type 0
Kept life = (p : TurnPosition) → IsTurnPosition life.present.turns p → KeptAt life.past life.present.start p
