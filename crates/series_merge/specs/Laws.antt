-- A law over what is merged.
use Rattle.std.specs.Prelude.{◌↔◌, ℕ, List}
use Rattle.m3_model.specs.Answers.{HasPoint}
use Rattle.m3_model.specs.Contents.{content_of}
use Rattle.m3_model.specs.Members.{IsIn}
use Rattle.m3_model.specs.Reads.{IsOrdered, points_in}
use Rattle.m3_model.specs.declared.point.Point.{Point}
use Rattle.m3_model.specs.declared.point.Series.{Series}

-- an ordered list of series stands for exactly its points
abbrev pub StandsForItsPoints : Type 0
StandsForItsPoints = (ns : ℕ) (series : List Series) → IsOrdered series → (p : Point) → HasPoint (content_of (points_in ns series)) p ↔ IsIn (points_in ns series) p
