-- What a read asks for, and the points in its answer.
use Rattle.std.specs.Prelude.{◌≡◌, ℕ, ◌≤◌, ◌<◌, ℤ, ◌≤ℤ◌, List, map, length, Option, Some, None, option_map, Bool}
use Rattle.std.specs.List.{flat_map}
use Rattle.m3_model.specs.Ascends.{Ascends}
use Rattle.m3_model.specs.Members.{IsIn}
use Rattle.m3_model.specs.Tags.{IsBelow, HasTags, MatcherHolds}
use Rattle.m3_model.specs.Rules.{namespace_position, IsLive}
use Rattle.m3_model.specs.declared.point.Point.{Point}
use Rattle.m3_model.specs.declared.point.Series.{Series}
use Rattle.m3_model.specs.declared.point.Matcher.{Matcher}
use Rattle.m3_model.specs.declared.point.Pick.{Pick}
use Rattle.m3_model.specs.declared.point.Pick.TheVariants as pick
use Rattle.m3_model.specs.declared.rules.Space.{Space}
use Rattle.m3_model.specs.declared.rules.Rules.{Rules}
use Rattle.m3_model.specs.declared.act.Act.{Act}
use Rattle.m3_model.specs.declared.act.Act.TheVariants as act
use Rattle.m3_model.specs.declared.act.ReadLevel.{ReadLevel}
use Rattle.m3_model.specs.declared.answer.Answer.{Answer}
use Rattle.m3_model.specs.declared.answer.Answer.TheVariants as answer

-- A read: which series, which times, how many replicas.
pub record Read : Type 0 where
  pub pick : Pick
  pub from : ℕ
  pub to : ℕ
  pub level : ReadLevel

-- the read that a fetch or a match of a namespace that is there asks for
abbrev pub read_of : List Space → Act → Option Read
read_of spaces (act.Fetch ns id from to level version) =
    option_map (λ k. record { pick = pick.One k id; from = from; to = to; level = level }) (namespace_position ns spaces)
read_of spaces (act.Match ns wanted from to level version) =
    option_map (λ k. record { pick = pick.Match k wanted; from = from; to = to; level = level }) (namespace_position ns spaces)
read_of spaces _ = None

-- What a read found.
pub record Found : Type 0 where
  pub series : List Series
  pub short : Bool

abbrev pub found_of : Answer → Option Found
found_of (answer.Found series short) = Some (record { series = series; short = short })
found_of _ = None

-- the namespace that a pick names
abbrev pub space_picked : Pick → ℕ
space_picked (pick.One ns id) = ns
space_picked (pick.Match ns wanted) = ns

-- the point is of a series that was picked
abbrev pub Matches : Pick → Point → Type 0
Matches (pick.One ns id) point = (point.ns ≡ ns) × (point.id ≡ id)
Matches (pick.Match ns wanted) point =
    (point.ns ≡ ns) × ((tags : List (List ℕ × List ℕ)) → HasTags point.id tags → (m : Matcher) → IsIn wanted m → MatcherHolds tags m)

-- the range has its lower end and not its upper one
abbrev pub InRange : ℕ → ℕ → Point → Type 0
InRange from to point = (from ≤ point.t) × (point.t < to)

-- a point that a read asks for and that is still kept
pub record IsSought (rules : Rules) (read : Read) (point : Point) : Type 0 where
  pub matches : Matches read.pick point
  pub in_range : InRange read.from read.to point
  pub live : IsLive rules point

-- the points of an answer
abbrev pub points_in : ℕ → List Series → List Point
points_in ns series = flat_map (λ s. map (λ x. record { ns = ns; id = s.id; t = x.0; v = x.1 }) s.points) series

-- the point's key is there with a value not below the point's
pub record Covers (points : List Point) (point : Point) : Type 0 where
  pub value : ℤ
  pub at_least : point.v ≤ℤ value
  pub stands : IsIn points (record point { v = value })

-- identifiers and times ascend strictly, and no series is empty
pub record IsOrdered (series : List Series) : Type 0 where
  pub ids : Ascends (λ a b. IsBelow a.id b.id) series
  pub times : (s : Series) → IsIn series s → Ascends (λ a b. a.0 < b.0) s.points
  pub none_empty : (s : Series) → IsIn series s → 0 < length s.points
