-- What a range of a buffer answers.
use Rattle.std.specs.Prelude.{◌≡◌, ℕ, ℤ, List, [], ◌∷◌, Some, cond, nat_eq}
use Rattle.std.specs.List.{filter_map}
use Rattle.std.specs.FinMap as map
use Rattle.m3_model.specs.declared.point.Point.{Point}
use Rattle.m3_model.specs.declared.point.Series.{Series}
use Rattle.m3_model.specs.declared.point.Pick.{Pick}
use Rattle.m3_model.specs.declared.point.Pick.TheVariants as pick
use Rattle.m3_model.specs.Members.{IsIn}
use Rattle.m3_model.specs.Contents.{Contents, key_of}
use Rattle.m3_model.specs.Reads.{InRange, IsOrdered, points_in, space_picked}
use Rattle.series_slots.specs.declared.series_key.SeriesKey.{SeriesKey}
use Rattle.series_slots.specs.Slots.{Slots, valued_in}

-- the content has this very point
abbrev pub ContentHas : Contents → Point → Type 0
ContentHas c p = map.get c (key_of p) ≡ Some p.v

-- the point is of the series, or of the namespace, that the pick names; its matchers don't count
abbrev pub IsNamedBy : Pick → Point → Type 0
IsNamedBy (pick.One ns id) p = (p.ns ≡ ns) × (p.id ≡ id)
IsNamedBy (pick.Match ns wanted) p = p.ns ≡ ns

-- The series hold exactly the points of the content that the pick names and that lie in the range, in order.
pub record IsRangeOf (c : Contents) (pick : Pick) (from to : ℕ) (series : List Series) : Type 0 where
  pub ordered : IsOrdered series
  pub nothing_else : (p : Point) → IsIn (points_in (space_picked pick) series) p → ContentHas c p × IsNamedBy pick p × InRange from to p
  pub whole : (p : Point) → ContentHas c p → IsNamedBy pick p → InRange from to p → IsIn (points_in (space_picked pick) series) p

-- the series with these pairs, if there are any
abbrev pub some_series : List ℕ → List (ℕ × ℤ) → List Series
some_series id [] = []
some_series id (p ∷ ps) = record { id = id; points = p ∷ ps } ∷ []

-- the series of a namespace's slots in a range
abbrev pub series_in : ℕ → ℕ → ℕ → SeriesKey × Slots → List Series
series_in ns from to e = cond (nat_eq e.0.ns ns) (some_series e.0.id (filter_map (valued_in from to) (map.entries e.1))) []
