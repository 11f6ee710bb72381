use Rattle.std.proofs.Common.{sym, subst}
use Rattle.std.specs.Prelude.{IsSome}
use Rattle.series_slots.specs.SeriesKeys.{series_of}
use Rattle.series_slots.specs.Points.{slot_at}
use Rattle.series_slots.specs.SeriesEntries.{SeriesEntries, slots_of}
use Rattle.block_buffer.proofs.FirstLemmas.{slot_position}
use Rattle.block_buffer.proofs.all_series.AllSeries.spaces.Goals as goal

pub returns-clause-below : goal.returns-clause-below
returns-clause-below c k h =
    let at = slot_position c.self.inside.placed k (subst (λ (ps : SeriesEntries). IsSome (slot_at (slots_of ps) k)) (sym c.self.view_is) h) in
    c.self.invariant.1 at.position (series_of k, at.slots) at.entry
