-- What a replica answers a read with.
use Rattle.std.specs.Prelude.{◌≡◌, ℕ, List, Some}
use Rattle.std.specs.FinMap.{get}
use Rattle.m3_model.specs.Members.{IsIn}
use Rattle.m3_model.specs.Contents.{Contents, key_of}
use Rattle.m3_model.specs.Reads.{Matches, InRange, IsOrdered, points_in, space_picked}
use Rattle.m3_model.specs.declared.point.Point.{Point}
use Rattle.m3_model.specs.declared.point.Pick.{Pick}
use Rattle.m3_model.specs.declared.point.Series.{Series}

-- the content has this very point
abbrev pub HasPoint : Contents → Point → Type 0
HasPoint c p = get c (key_of p) ≡ Some p.v

-- the content has the point, and it is one that was asked for
pub record IsWanted (c : Contents) (pick : Pick) (from to : ℕ) (p : Point) : Type 0 where
  pub stands : HasPoint c p
  pub matches : Matches pick p
  pub in_range : InRange from to p

-- the series hold exactly the points of the content that match the pick and lie in the range, in order
pub record IsAnswer (c : Contents) (pick : Pick) (from to : ℕ) (series : List Series) : Type 0 where
  pub ordered : IsOrdered series
  pub nothing_else : (p : Point) → IsIn (points_in (space_picked pick) series) p → IsWanted c pick from to p
  pub whole : (p : Point) → IsWanted c pick from to p → IsIn (points_in (space_picked pick) series) p
