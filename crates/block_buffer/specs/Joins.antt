-- Joining the points of a series.
use Rattle.std.specs.Prelude.{◌≡◌, ℕ, List, ◌++◌, map, fold}
use Rattle.m3_model.specs.declared.point.Point.{Point}
use Rattle.m3_model.specs.declared.point.Series.{Series}
use Rattle.m3_model.specs.Contents.{Contents, raised}

-- the content joined with each of the points
abbrev pub joined : Contents → List Point → Contents
joined c points = fold raised c points

-- the points of a series of the namespace
abbrev pub points_of_series : ℕ → Series → List Point
points_of_series ns s = map (λ x. record { ns = ns; id = s.id; t = x.0; v = x.1 }) s.points

-- some first ones of the points were joined
pub record IsJoinedInPart (old : Contents) (points : List Point) (new : Contents) : Type 0 where
  pub front : List Point
  pub back : List Point
  pub parts : points ≡ front ++ back
  pub joins : new ≡ joined old front
