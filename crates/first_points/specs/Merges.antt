-- Two lists of first points, merged to those of the join of two contents.
use Rattle.std.specs.Prelude.{◌≡◌, ℕ, ℤ, ◌+◌, ◌≤◌, ◌<◌, List, [], ◌∷◌, length, Option, Some, None}
use Rattle.std.specs.FinMap.{get}
use Rattle.std.specs.declared.cmp.Ordering.{Ordering}
use Rattle.std.specs.declared.cmp.Ordering.TheVariants.{Less, Greater}
use Rattle.m3_model.specs.Contents.{Contents, higher, key_of}
use Rattle.m3_model.specs.Keys.{key_cmp}
use Rattle.m3_model.specs.declared.point.Key.{Key}
use Rattle.m3_model.specs.declared.point.Point.{Point}
use Rattle.first_points.specs.Firsts.{AreInTurn, HasNonePast, last_key}

-- the higher of two values, of which either may be absent
abbrev pub higher_of : Option ℤ → Option ℤ → Option ℤ
higher_of o None = o
higher_of o (Some v) = Some (higher o v)

-- at each key the higher value of two contents stands in the third
abbrev pub IsJoinOf : Contents → Contents → Contents → Type 0
IsJoinOf c d both = (k : Key) → get both k ≡ higher_of (get c k) (get d k)

-- of which list the next point is: `Less` of the one, `Greater` of the other, `Equal` of both
abbrev pub which_next : List Point → List Point → Option Ordering
which_next [] [] = None
which_next (x ∷ xs) [] = Some Less
which_next [] (y ∷ ys) = Some Greater
which_next (x ∷ xs) (y ∷ ys) = Some (key_cmp (key_of x) (key_of y))

-- of two points at one key the higher
abbrev pub higher_point : Point → Point → Point
higher_point x y = record x { v = higher (Some x.v) y.v }

-- what is left of the first points of a content above a key, when so many of the limit are done
pub record IsLeft (c : Contents) (last : Option Key) (limit done : ℕ) (points : List Point) : Type 0 where
  pub in_turn : AreInTurn c last points
  pub all : done + length points < limit → HasNonePast c (last_key last points)

-- a merge that has come part of the way
pub record IsPartOfFirsts (c d both : Contents) (after : Option Key) (limit : ℕ) (done one other : List Point) : Type 0 where
  pub in_turn : AreInTurn both after done
  pub few : length done ≤ limit
  pub of_one : IsLeft c (last_key after done) limit (length done) one
  pub of_other : IsLeft d (last_key after done) limit (length done) other
