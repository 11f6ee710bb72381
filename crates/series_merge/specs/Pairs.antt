-- The pairs of time and value of one identifier, merged.
use Rattle.std.specs.Prelude.{◌≡◌, ℕ, ◌+◌, ◌<◌, ◌≤◌, ℤ, pos, List, ◌++◌, map, length, slice_index_or, Some, ⊤}
use Rattle.std.specs.Ordering.{nat_cmp, match_ordering}
use Rattle.m3_model.specs.Ascends.{Ascends}
use Rattle.m3_model.specs.Contents.{higher}
use Rattle.m3_model.specs.declared.point.Point.{Point}
use Rattle.series_merge.specs.Parts.{IsPart, JoinAlike}
use Rattle.series_merge.specs.declared.pairs.First.{First}

abbrev pub IsEarlier : ℕ × ℤ → ℕ × ℤ → Type 0
IsEarlier a b = a.0 < b.0

-- the points of pairs of an identifier, which stands beside its namespace
abbrev pub points_at : ℕ × List ℕ → List (ℕ × ℤ) → List Point
points_at key pairs = map (λ x. record { ns = key.0; id = key.1; t = x.0; v = x.1 }) pairs

-- the pairs are in order, and stand for the join of the points of both lists
pub record IsMergeOfPairs (one other pairs : List (ℕ × ℤ)) : Type 0 where
  pub ascend : Ascends IsEarlier pairs
  pub alike : (key : ℕ × List ℕ) → JoinAlike (points_at key pairs) (points_at key (one ++ other))

-- the earlier of two pairs, and of two at one time the higher
abbrev pub first_pair : ℕ × ℤ → ℕ × ℤ → First
first_pair a b = match_ordering (nat_cmp a.0 b.0)
    (record { pair = a; of_one = 1; of_other = 0 })
    (record { pair = (a.0, higher (Some a.1) b.1); of_one = 1; of_other = 1 })
    (record { pair = b; of_one = 0; of_other = 1 })

-- it is the first of the pairs at these positions
pub record IsNext (one other : List (ℕ × ℤ)) (i j : ℕ) (first : First) : Type 0 where
  pub in_one : i < length one
  pub in_other : j < length other
  pub first_is : first ≡ first_pair (slice_index_or one i (0, pos 0)) (slice_index_or other j (0, pos 0))
  pub of_one : first.of_one ≤ 1
  pub of_other : first.of_other ≤ 1
  pub goes_on : 0 < first.of_one + first.of_other

-- a merge of pairs that has come part of the way
abbrev pub IsPartOfPairs : List (ℕ × ℤ) → List (ℕ × ℤ) → List (ℕ × ℤ) → List (ℕ × ℤ) → List (ℕ × ℤ) → Type 0
IsPartOfPairs one other done left_one left_other = IsPart IsEarlier (λ _. ⊤) points_at one other done left_one left_other
