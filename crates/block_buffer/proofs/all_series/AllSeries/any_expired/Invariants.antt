use Rattle.std.proofs.Common.{◌≡◌, ◌<◌, None, true}
use Rattle.m3_model.specs.declared.point.Key.{Key}
use Rattle.series_slots.specs.Points.{value_of}
use Rattle.series_slots.specs.SeriesEntries.{slots_of}
use Rattle.block_buffer.specs.Held.{has_expired}
use Rattle.block_buffer.proofs.all_series.AllSeries.any_expired.Given as goal

abbrev pub invariant-loop-space : goal.invariant-loop-space
invariant-loop-space l = record {
  same : l.self ≡ l.initial.self;
  none : (k : Key) → k.ns < l.space → has_expired l.rules k ≡ true → value_of (slots_of l.initial.self) k ≡ None;
}
