-- The points of rows above a key.
use Rattle.std.specs.Prelude.{◌≡◌, ℕ, ℤ, ◌<◌, ◌≤◌, List, ◌++◌, map, Option}
use Rattle.m3_model.specs.Contents.{key_of}
use Rattle.m3_model.specs.Members.{IsIn}
use Rattle.m3_model.specs.Reads.{points_in}
use Rattle.m3_model.specs.Tags.{IsBelow}
use Rattle.m3_model.specs.declared.point.Key.{Key}
use Rattle.m3_model.specs.declared.point.Point.{Point}
use Rattle.m3_model.specs.declared.point.Series.{Series}
use Rattle.first_points.specs.Firsts.{IsPast}

-- the points of pairs of an identifier
abbrev pub points_at : ℕ → List ℕ → List (ℕ × ℤ) → List Point
points_at ns id pairs = map (λ x. record { ns = ns; id = id; t = x.0; v = x.1 }) pairs

-- The rows' points end with these: the pairs of one identifier, and then those of further rows. Just these are above the key.
pub record EndsPast (ns : ℕ) (rows : List Series) (after : Option Key) (id : List ℕ) (pairs : List (ℕ × ℤ)) (later : List Series) : Type 0 where
  pub front : List Point
  pub parts : points_in ns rows ≡ front ++ (points_at ns id pairs ++ points_in ns later)
  pub not_past : (p : Point) → IsIn front p → IsPast after (key_of p) → ⊥
  pub past : (p : Point) → IsIn (points_at ns id pairs ++ points_in ns later) p → IsPast after (key_of p)

-- of pairs by time those later than the time
pub record AreLater (t : ℕ) (pairs later : List (ℕ × ℤ)) : Type 0 where
  pub early : List (ℕ × ℤ)
  pub parts : pairs ≡ early ++ later
  pub not_later : (x : ℕ × ℤ) → IsIn early x → x.0 ≤ t
  pub all_later : (x : ℕ × ℤ) → IsIn later x → t < x.0

-- of rows by identifier those from the first one on whose identifier isn't below this one
pub record AreFrom (id : List ℕ) (rows later : List Series) : Type 0 where
  pub early : List Series
  pub parts : rows ≡ early ++ later
  pub below : (s : Series) → IsIn early s → IsBelow s.id id
  pub not_below : (s : Series) → IsIn later s → IsBelow s.id id → ⊥
