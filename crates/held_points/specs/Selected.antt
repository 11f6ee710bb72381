-- The points of some series of a namespace.
use Rattle.std.specs.Prelude.{◌≡◌, ℕ, List}
use Rattle.m3_model.specs.Members.{IsIn}
use Rattle.m3_model.specs.Contents.{Contents}
use Rattle.m3_model.specs.Reads.{InRange, IsOrdered, points_in}
use Rattle.m3_model.specs.Answers.{HasPoint}
use Rattle.m3_model.specs.declared.point.Point.{Point}
use Rattle.m3_model.specs.declared.point.Series.{Series}

-- a point of the content, of this namespace and in the range, whose identifier has P
pub record IsSelected (c : Contents) (ns : ℕ) (P : List ℕ → Type 0) (from to : ℕ) (p : Point) : Type 0 where
  pub stands : HasPoint c p
  pub in_space : p.ns ≡ ns
  pub named : P p.id
  pub in_range : InRange from to p

-- the series hold exactly those points, in order
pub record IsSelection (c : Contents) (ns : ℕ) (P : List ℕ → Type 0) (from to : ℕ) (series : List Series) : Type 0 where
  pub ordered : IsOrdered series
  pub nothing_else : (p : Point) → IsIn (points_in ns series) p → IsSelected c ns P from to p
  pub whole : (p : Point) → IsSelected c ns P from to p → IsIn (points_in ns series) p
