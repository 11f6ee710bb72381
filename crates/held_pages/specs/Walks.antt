-- Walks over points in the order of their keys.
use Rattle.std.specs.Prelude.{◌≡◌, ◌≤◌, ◌<◌, ◌↔◌, ◌⊎◌, ℕ, ℤ, List, length, Option, Some}
use Rattle.std.specs.FinMap.{get}
use Rattle.std.specs.declared.cmp.Ordering.TheVariants.{Less}
use Rattle.m3_model.specs.Answers.{HasPoint}
use Rattle.m3_model.specs.Contents.{Contents, key_of}
use Rattle.m3_model.specs.Keys.{key_cmp}
use Rattle.m3_model.specs.declared.limits.TheConstants.{TIME_END}
use Rattle.m3_model.specs.declared.point.Key.{Key}
use Rattle.m3_model.specs.declared.point.Point.{Point}
use Rattle.series_slots.specs.declared.series_key.SeriesKey.{SeriesKey}
use Rattle.series_slots.specs.SeriesKeys.{series_cmp, series_of}
use Rattle.first_points.specs.Firsts.{IsPast, AreInTurn, last_key}

-- the time of each point is before the end of all
abbrev pub EndsInTime : Contents → Type 0
EndsInTime c = (k : Key) (v : ℤ) → get c k ≡ Some v → k.t < TIME_END

-- of the times before the end of all just those later than the one are from the other on
abbrev pub IsTimeAfter : ℕ → ℕ → Type 0
IsTimeAfter t low = (u : ℕ) → u < TIME_END → (low ≤ u) ↔ (t < u)

-- the key is of the series and its time is from the one given on, or it is of a series after that
abbrev pub IsFrom : SeriesKey → ℕ → Key → Type 0
IsFrom s low k = ((series_of k ≡ s) × (low ≤ k.t)) ⊎ (series_cmp s (series_of k) ≡ Less)

-- no point of the content stands from there on
abbrev pub HasNoneOn : Contents → SeriesKey → ℕ → Type 0
HasNoneOn c s low = (k : Key) (v : ℤ) → get c k ≡ Some v → IsFrom s low k → ⊥

-- the point is the first one that stands from there on
pub record IsFirstOn (c : Contents) (s : SeriesKey) (low : ℕ) (p : Point) : Type 0 where
  pub stands : HasPoint c p
  pub from : IsFrom s low (key_of p)
  pub first : (k : Key) (v : ℤ) → get c k ≡ Some v → IsFrom s low k → key_cmp k (key_of p) ≡ Less → ⊥

-- just the points above the key stand from there on
abbrev pub IsCursor : Contents → Option Key → SeriesKey → ℕ → Type 0
IsCursor c last s low = (k : Key) (v : ℤ) → get c k ≡ Some v → IsPast last k ↔ IsFrom s low k

-- a walk above a key that has come part of the way: what it has taken, and where it goes on
pub record IsPartWalked (c : Contents) (last : Option Key) (limit : ℕ) (points : List Point) (s : SeriesKey) (low : ℕ) : Type 0 where
  pub in_turn : AreInTurn c last points
  pub few : length points ≤ limit
  pub at : IsCursor c (last_key last points) s low
