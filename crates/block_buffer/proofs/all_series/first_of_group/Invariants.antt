use Rattle.std.proofs.Common.{◌≡◌, ℕ, ◌<◌, ◌≤◌, Some}
use Rattle.std.specs.Prelude.{IsSome, slice_get}
use Rattle.std.specs.FinMap as finite
use Rattle.series_slots.specs.declared.series_key.SeriesKey.{SeriesKey}
use Rattle.series_slots.specs.Slots.{Slots}
use Rattle.block_buffer.proofs.all_series.first_of_group.Given as goal

abbrev pub invariant-loop-position : goal.invariant-loop-position
invariant-loop-position l = (p t : ℕ) (e : SeriesKey × Slots) → l.first ≤ p → p < l.position → slice_get l.placed p ≡ Some e → e.0.ns ≡ l.ns → IsSome (finite.get e.1 t) → l.least ≤ t
