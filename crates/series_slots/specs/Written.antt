-- What became of series at their positions.
use Rattle.std.specs.Prelude.{◌≡◌, ℕ, [], ◌∷◌, ◌++◌, Some, length, swap_remove}
use Rattle.std.specs.FinMap as map
use Rattle.indexmap.specs.IndexMap.{set_value_at}
use Rattle.series_slots.specs.declared.series_key.SeriesKey.{SeriesKey}
use Rattle.series_slots.specs.Slots.{Slots}
use Rattle.series_slots.specs.SeriesEntries.{SeriesEntries, slots_of}

-- the series at the position had these slots and has those now, and nothing else changed
pub record IsWritten (old new : SeriesEntries) (position : ℕ) (s : SeriesKey) (before after : Slots) : Type 0 where
  pub found : map.get (slots_of old) s ≡ Some before
  pub placed : new ≡ set_value_at old position after
  pub mapped : slots_of new ≡ map.insert (slots_of old) s after

-- the series came without slots, at the last position
pub record IsAdded (old new : SeriesEntries) (s : SeriesKey) (position : ℕ) : Type 0 where
  pub last : position ≡ length old
  pub placed : new ≡ old ++ (s, map.empty) ∷ []
  pub mapped : slots_of new ≡ map.insert (slots_of old) s map.empty

-- the series with these slots left, and the last one took its place
pub record IsRemoved (old new : SeriesEntries) (position : ℕ) (s : SeriesKey) (slots : Slots) : Type 0 where
  pub found : map.get (slots_of old) s ≡ Some slots
  pub placed : new ≡ swap_remove old position (s, slots)
  pub mapped : slots_of new ≡ map.remove (slots_of old) s
