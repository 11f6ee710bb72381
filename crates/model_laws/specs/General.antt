-- What Kept says of any life, in the words of one read and of the writes beside it.
use Rattle.std.specs.Prelude.{◌≡◌, ℕ, ◌≤◌, List, length, Option, Some, IsTrue, ◌⊎◌}
use Rattle.std.specs.List.{flat_map}
use Rattle.m3_model.specs.Members.{IsIn}
use Rattle.m3_model.specs.Levels.{majority, is_strong}
use Rattle.transcripts.specs.Record.{InnerTurn, Life, TurnPosition, IsTurnPosition, IsBefore, acts_of}
use Rattle.m3_model.specs.Rules.{namespace_position}
use Rattle.transcripts.specs.Rules.{rules_at}
use Rattle.transcripts.specs.Points.{sent_at, acked_at, rf_at}
use Rattle.m3_model.specs.Reads.{Read, Found, read_of, found_of, space_picked, points_in, IsSought, Covers}
use Rattle.m3_model.specs.declared.point.Point.{Point}
use Rattle.m3_model.specs.declared.rules.Space.{Space}
use Rattle.m3_model.specs.declared.act.Act.{Act}
use Rattle.m3_model.specs.declared.act.Act.TheVariants as act
use Rattle.m3_model.specs.declared.act.WriteLevel.{WriteLevel}
use Rattle.m3_model.specs.declared.answer.Answer.TheVariants as answer

-- A read of the present run with what it found.
pub record AnsweredRead (life : Life) : Type 0 where
  pub position : TurnPosition
  pub in_run : IsTurnPosition life.present.turns position
  pub read : Read
  pub asked : read_of (rules_at life.present.start position).spaces position.turn.act ≡ Some read
  pub found : Found
  pub answered : found_of position.turn.answer ≡ Some found

-- the points that a read found
abbrev pub points_found : {life : Life} → AnsweredRead life → List Point
points_found r = points_in (space_picked r.read.pick) r.found.series

-- at least a majority answered the read
abbrev pub IsStrong : {life : Life} → AnsweredRead life → Type 0
IsStrong r = IsTrue (is_strong r.read.level r.found.short)

-- the read asks for the point, which is still kept
abbrev pub Seeks : {life : Life} → AnsweredRead life → Point → Type 0
Seeks {life} r point = IsSought (rules_at life.present.start r.position) r.read point

-- a strong read has each acknowledged point that it asks for, or a higher value in its place
abbrev pub FindsAcknowledged : Life → Type 0
FindsAcknowledged life =
    (r : AnsweredRead life) → IsStrong r → (point : Point) → IsIn (acked_at life.past life.present.start r.position) point → Seeks r point → Covers (points_found r) point

-- a read has only points that were sent
abbrev pub FindsOnlySent : Life → Type 0
FindsOnlySent life = (r : AnsweredRead life) → (point : Point) → IsIn (points_found r) point → IsIn (sent_at life.past life.present.start r.position) point

-- the act writes this point into a namespace that is there
pub record Writes (spaces : List Space) (a : Act) (point : Point) : Type 0 where
  pub ns : List ℕ
  pub level : WriteLevel
  pub version : Option ℕ
  pub act_is : a ≡ act.Write ns point.id point.t point.v level version
  pub space_is : namespace_position ns spaces ≡ Some point.ns

-- an earlier write of the point that at least a majority of the replicas took
pub record EarlierWrite (life : Life) (p : TurnPosition) (point : Point) : Type 0 where
  pub turn : InnerTurn
  pub before : IsBefore life.past turn p
  pub writes : Writes (rules_at life.present.start p).spaces turn.act point
  pub taken : List ℕ
  pub answered : turn.answer ≡ answer.Acks taken
  pub by_majority : majority (rf_at life.present.start p) ≤ length taken

-- a strong read has the point of each such write that it asks for, or a higher value in its place
abbrev pub FindsEarlierWrites : Life → Type 0
FindsEarlierWrites life = (r : AnsweredRead life) → IsStrong r → (point : Point) → EarlierWrite life r.position point → Seeks r point → Covers (points_found r) point

-- a write of the point that is no later than the position: its turn is before or beside it
pub record TurnWrites (life : Life) (p : TurnPosition) (point : Point) : Type 0 where
  pub turn : InnerTurn
  pub not_later : IsBefore life.past turn p ⊎ IsIn p.beside turn
  pub writes : Writes (rules_at life.present.start p).spaces turn.act point

-- a write of the point that an earlier run took and didn't answer
pub record LeftUnanswered (life : Life) (p : TurnPosition) (point : Point) : Type 0 where
  pub a : Act
  pub taken : IsIn (flat_map (λ run. acts_of run.unanswered) life.past) a
  pub writes : Writes (rules_at life.present.start p).spaces a point

-- a read has only points that a write has
abbrev pub FindsOnlyWritten : Life → Type 0
FindsOnlyWritten life = (r : AnsweredRead life) → (point : Point) → IsIn (points_found r) point → TurnWrites life r.position point ⊎ LeftUnanswered life r.position point
