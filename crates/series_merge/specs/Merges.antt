-- What a merge of two lists of series gives.
use Rattle.std.specs.Prelude.{◌≡◌, ℕ, List, ◌++◌}
use Rattle.m3_model.specs.Contents.{content_of}
use Rattle.m3_model.specs.Reads.{IsOrdered, points_in}
use Rattle.m3_model.specs.declared.point.Series.{Series}

-- the series are in order, and in each namespace they stand for the join of the points of both lists
pub record IsMergeOf (one other series : List Series) : Type 0 where
  pub ordered : IsOrdered series
  pub content : (ns : ℕ) → content_of (points_in ns series) ≡ content_of (points_in ns one ++ points_in ns other)
