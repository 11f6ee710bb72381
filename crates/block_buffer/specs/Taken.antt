-- Points that leave a buffer.
use Rattle.std.specs.Prelude.{◌≡◌, ℕ, ℤ, ◌++◌, List, Option, Some, None, Bool, false, not, if◌then◌else◌, fold, int_lt, MatchOption}
use Rattle.std.specs.FinMap as finite
use Rattle.m3_model.specs.declared.point.Key.{Key}
use Rattle.m3_model.specs.declared.point.Point.{Point}
use Rattle.m3_model.specs.Contents.{Contents, key_of}
use Rattle.series_slots.specs.declared.series_key.SeriesKey.{SeriesKey}
use Rattle.series_slots.specs.SeriesKeys.{series_of, key_at}
use Rattle.block_buffer.specs.declared.taken.Taken.{Taken}

-- a point of the series stands in the content
pub record HasSeries (c : Contents) (s : SeriesKey) : Type 0 where
  pub t : ℕ
  pub v : ℤ
  pub stands : finite.get c (key_at s t) ≡ Some v

-- The point at a key with P left, and nothing else changed. Its series is told where it has no point any more, and only there.
pub record IsTaken (old new : Contents) (P : Key → Type 0) (x : Taken) : Type 0 where
  pub key : Key
  pub holds : P key
  pub time : key.t ≡ x.t
  pub stands : finite.get old key ≡ Some x.v
  pub left : new ≡ finite.remove old key
  pub gone : MatchOption x.gone (HasSeries new (series_of key)) (λ s. (s ≡ series_of key) × (HasSeries new s → ⊥))

-- no point at a key with P stands in the content
abbrev pub HasNone : Contents → (Key → Type 0) → Type 0
HasNone c P = (k : Key) (v : ℤ) → finite.get c k ≡ Some v → P k → ⊥

-- a point with this identifier stands in the content, in whatever namespace
pub record HasId (c : Contents) (id : List ℕ) : Type 0 where
  pub key : Key
  pub v : ℤ
  pub stands : finite.get c key ≡ Some v
  pub named : key.id ≡ id

-- the value stands, and isn't above this one
abbrev pub is_settled : Option ℤ → ℤ → Bool
is_settled None v = false
is_settled (Some w) v = not (int_lt v w)

-- the content without the point at the key of this one, if its value isn't above this one's
abbrev pub settled_at : Contents → Point → Contents
settled_at c p = if is_settled (finite.get c (key_of p)) p.v then finite.remove c (key_of p) else c

-- the same with each of the points
abbrev pub settled_with : Contents → List Point → Contents
settled_with c points = fold settled_at c points

-- some first ones of the points were settled
pub record IsSettledInPart (old : Contents) (points : List Point) (new : Contents) : Type 0 where
  pub front : List Point
  pub back : List Point
  pub parts : points ≡ front ++ back
  pub settles : new ≡ settled_with old front
