-- What the look-up of the answers that a fetch joins tells, one node after the other.
use Rattle.std.specs.Prelude.{◌++◌, ℕ, List}
use Rattle.std.specs.List.{All, flat_map}
use Rattle.m3_model.specs.Members.{IsIn}
use Rattle.m3_model.specs.Reads.{points_in, Covers}
use Rattle.m3_model.specs.declared.point.Point.{Point}
use Rattle.m3_model.specs.declared.point.Series.{Series}
use Rattle.cluster_core.specs.Legal.{EachAnswered}
use Rattle.cluster_core.specs.declared.event.Event.{Event}

-- the points have just the joined ones, and no higher value of a key
pub record JoinsTo (joined points : List Point) : Type 0 where
  pub nothing_else : All (IsIn points) joined
  pub all_there : All (Covers joined) points

-- the points so far with those of one answer of each node have just the joined ones
pub record CanJoin (since : List Event) (fetch : Event) (ns : ℕ) (nodes : List ℕ) (so_far joined : List Point) : Type 0 where
  pub answers : List (List Series)
  pub answered : EachAnswered since fetch nodes answers
  pub joins : JoinsTo joined (so_far ++ flat_map (points_in ns) answers)
