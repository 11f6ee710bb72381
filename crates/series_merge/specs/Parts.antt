-- A merge of two lists that has come part of the way.
use Rattle.std.specs.Prelude.{◌≡◌, List, ◌++◌, fold}
use Rattle.m3_model.specs.Ascends.{Ascends}
use Rattle.m3_model.specs.Contents.{Contents, raised}
use Rattle.m3_model.specs.Members.{IsIn}
use Rattle.m3_model.specs.declared.point.Point.{Point}

-- two lists of points change each content alike
abbrev pub JoinAlike : List Point → List Point → Type 0
JoinAlike ps qs = (c : Contents) → fold raised c ps ≡ fold raised c qs

-- What is done and what is left of two lists. What is done stands before the rest of either, all of it is fit, and together they stand for the points
-- of both lists; `points` says for which points elements stand.
pub record IsPart {X I : Type 0} (Before : X → X → Type 0) (Fit : X → Type 0) (points : I → List X → List Point) (one other done left_one left_other : List X) : Type 0 where
  pub one_ascends : Ascends Before (done ++ left_one)
  pub other_ascends : Ascends Before (done ++ left_other)
  pub done_fit : (x : X) → IsIn done x → Fit x
  pub one_fit : (x : X) → IsIn left_one x → Fit x
  pub other_fit : (x : X) → IsIn left_other x → Fit x
  pub alike : (i : I) → JoinAlike (points i ((done ++ left_one) ++ left_other)) (points i (one ++ other))
