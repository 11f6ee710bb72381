-- Two lists of series, merged series by series.
use Rattle.std.specs.Prelude.{◌≡◌, ◌<◌, List, [], ◌∷◌, length, Option, Some, None}
use Rattle.std.specs.Ordering.{nat_cmp}
use Rattle.std.specs.Cmp.Lexicographic.{slice_cmp}
use Rattle.std.specs.declared.cmp.Ordering.{Ordering}
use Rattle.std.specs.declared.cmp.Ordering.TheVariants.{Less, Greater}
use Rattle.m3_model.specs.Ascends.{Ascends}
use Rattle.m3_model.specs.Reads.{points_in}
use Rattle.m3_model.specs.Tags.{IsBelow}
use Rattle.m3_model.specs.declared.point.Series.{Series}
use Rattle.series_merge.specs.Parts.{IsPart}
use Rattle.series_merge.specs.Pairs.{IsEarlier, IsMergeOfPairs}

abbrev pub IsBefore : Series → Series → Type 0
IsBefore a b = IsBelow a.id b.id

-- its times ascend strictly, and it isn't empty
pub record IsRun (s : Series) : Type 0 where
  pub ascends : Ascends IsEarlier s.points
  pub some : 0 < length s.points

-- it has the identifier of the one series, and the pairs of both
pub record IsJoinedSeries (x y z : Series) : Type 0 where
  pub named : z.id ≡ x.id
  pub pairs : Ascends IsEarlier x.points → Ascends IsEarlier y.points → IsMergeOfPairs x.points y.points z.points

-- of which list the next series is: `Less` of the one, `Greater` of the other, `Equal` of both
abbrev pub which_next : List Series → List Series → Option Ordering
which_next [] [] = None
which_next (x ∷ xs) [] = Some Less
which_next [] (y ∷ ys) = Some Greater
which_next (x ∷ xs) (y ∷ ys) = Some (slice_cmp nat_cmp x.id y.id)

-- a merge of series that has come part of the way
abbrev pub IsPartOfMerge : List Series → List Series → List Series → List Series → List Series → Type 0
IsPartOfMerge one other done left_one left_other = IsPart IsBefore IsRun points_in one other done left_one left_other
