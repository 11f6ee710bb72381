-- The first point of a series from a time on.
use Rattle.std.specs.Prelude.{◌≡◌, ℕ, ℤ, ◌≤◌, ◌<◌, Some, None}
use Rattle.std.specs.FinMap.{get}
use Rattle.m3_model.specs.Contents.{Contents}
use Rattle.series_slots.specs.declared.series_key.SeriesKey.{SeriesKey}
use Rattle.series_slots.specs.SeriesKeys.{key_at}

-- no point of the series stands from the time on
abbrev pub HasNoneFrom : Contents → SeriesKey → ℕ → Type 0
HasNoneFrom c s low = (q : ℕ) → low ≤ q → get c (key_at s q) ≡ None

-- the first point of the series from `low` on stands at the time, with this value
pub record IsFirstOf (c : Contents) (s : SeriesKey) (low t : ℕ) (v : ℤ) : Type 0 where
  pub from : low ≤ t
  pub stands : get c (key_at s t) ≡ Some v
  pub first : (q : ℕ) → low ≤ q → q < t → get c (key_at s q) ≡ None
