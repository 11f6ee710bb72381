-- Which points of series a read asks for.
use Rattle.std.specs.Prelude.{◌≡◌, ℕ, ℤ, ◌+◌, ◌<◌, ◌≤◌, nat_le, nat_lt, Bool, ◌&&◌, List, [], ◌∷◌, Option, Some, None, filter}
use Rattle.m3_model.specs.Ascends.{Ascends}
use Rattle.m3_model.specs.Members.{IsIn}
use Rattle.m3_model.specs.Reads.{InRange, Matches, points_in, space_picked}
use Rattle.m3_model.specs.Tags.{IsBelow}
use Rattle.m3_model.specs.declared.limits.TheConstants.{TIME_END}
use Rattle.m3_model.specs.declared.point.Pick.{Pick}
use Rattle.m3_model.specs.declared.point.Pick.TheVariants as pick
use Rattle.m3_model.specs.declared.point.Point.{Point}
use Rattle.m3_model.specs.declared.point.Series.{Series}
use Rattle.held_points.specs.Matched.{IsMatched}
use Rattle.fileset_check.specs.volume_bytes.declared.heads.Head.{Head}

-- the pick asks for this identifier
abbrev pub IsPicked : Pick → List ℕ → Type 0
IsPicked (pick.One ns asked) id = asked ≡ id
IsPicked (pick.Match ns wanted) id = IsMatched wanted id

-- identifiers and times ascend strictly; a series may be empty
pub record AreAscending (series : List Series) : Type 0 where
  pub ids : Ascends (λ a b. IsBelow a.id b.id) series
  pub times : (s : Series) → IsIn series s → Ascends (λ a b. a.0 < b.0) s.points

-- the range has its lower end and not its upper one
abbrev pub is_between : ℕ → ℕ → ℕ × ℤ → Bool
is_between from to x = nat_le from x.0 && nat_lt x.0 to

-- the series with these pairs, if there are any
abbrev pub filled : List ℕ → List (ℕ × ℤ) → Option Series
filled id [] = None
filled id (x ∷ xs) = Some (record { id = id; points = x ∷ xs })

-- the series with its pairs in the range, if it has any there
abbrev pub cut_series : ℕ → ℕ → Series → Option Series
cut_series from to s = filled s.id (filter (is_between from to) s.points)

-- the points of the series are those that are asked for, of the ones that were found
pub record IsSelectionOf (found : List Series) (pick : Pick) (from to : ℕ) (series : List Series) : Type 0 where
  pub nothing_else : (p : Point) → IsIn (points_in (space_picked pick) series) p → IsIn (points_in (space_picked pick) found) p × Matches pick p × InRange from to p
  pub whole : (p : Point) → IsIn (points_in (space_picked pick) found) p → Matches pick p → InRange from to p → IsIn (points_in (space_picked pick) series) p

-- a volume of this head has no point of the namespace in the range
abbrev pub HasNoneIn : Head → ℕ → ℕ → ℕ → Type 0
HasNoneIn head ns from to = (t : ℕ) → head.ns ≡ ns → head.start ≤ t → t < head.start + head.size → t < TIME_END → from ≤ t → t < to → ⊥
