-- The first point of the series that come after one, and the series in their order.
use Rattle.std.specs.Prelude.{◌≡◌, ℕ, ℤ, Some, Bool, true, IsSome}
use Rattle.std.specs.FinMap as map
use Rattle.std.specs.declared.cmp.Ordering.TheVariants.{Less}
use Rattle.m3_model.specs.Contents.{Contents}
use Rattle.m3_model.specs.Keys.{key_cmp}
use Rattle.m3_model.specs.declared.point.Key.{Key}
use Rattle.series_slots.specs.declared.series_key.SeriesKey.{SeriesKey}
use Rattle.series_slots.specs.SeriesKeys.{series_cmp, series_of, key_at}
use Rattle.series_slots.specs.SeriesEntries.{SeriesEntries, slots_of}

-- no point of the content is of a series after this one
abbrev pub HasNoneAbove : Contents → SeriesKey → Type 0
HasNoneAbove c after = (k : Key) (w : ℤ) → map.get c k ≡ Some w → series_cmp after (series_of k) ≡ Less → ⊥

-- of the points of the content that are of a series after this one, the first is of the series and the time, and has the value
pub record IsFirstAbove (c : Contents) (after s : SeriesKey) (t : ℕ) (v : ℤ) : Type 0 where
  pub above : series_cmp after s ≡ Less
  pub stands : map.get c (key_at s t) ≡ Some v
  pub first : (k : Key) (w : ℤ) → map.get c k ≡ Some w → series_cmp after (series_of k) ≡ Less → key_cmp k (key_at s t) ≡ Less → ⊥

-- the set has each of the series
abbrev pub AreListed : (SeriesKey → Bool) → SeriesEntries → Type 0
AreListed has es = (s : SeriesKey) → IsSome (map.get (slots_of es) s) → has s ≡ true
