use Rattle.std.proofs.Common.{◌≡◌, Some, ap, sym, subst, ◌∙◌}
use Rattle.std.specs.Prelude.{slice_get}
use Rattle.series_slots.specs.SeriesKeys.{key_at}
use Rattle.series_slots.specs.Points.{slot_at}
use Rattle.series_slots.specs.SeriesEntries.{SeriesEntries, slots_of}
use Rattle.block_buffer.proofs.SetLemmas.{slot_found}
use Rattle.block_buffer.proofs.ContentLemmas.{stands_if}
use Rattle.block_buffer.proofs.all_series.AllSeries.slot.Goals as goal

pub returns-clause-slot : goal.returns-clause-slot
returns-clause-slot c s at =
    let es : SeriesEntries = c.self.inside.placed in
    let there : slice_get es c.args.position ≡ Some (s, at.slots) = subst (λ (ps : SeriesEntries). slice_get ps c.args.position ≡ Some (s, at.slots)) (sym c.self.view_is) at.entry in
    c.slot_at.ensures.slot s at.slots there ∙ sym (slot_found (slots_of es) s at.slots c.args.t (c.slot_at.ensures.found s at.slots there))
    ∙ ap (λ (ps : SeriesEntries). slot_at (slots_of ps) (key_at s c.args.t)) c.self.view_is

pub returns-clause-stands : goal.returns-clause-stands
returns-clause-stands c s at =
    let es : SeriesEntries = c.self.inside.placed in
    let there : slice_get es c.args.position ≡ Some (s, at.slots) = subst (λ (ps : SeriesEntries). slice_get ps c.args.position ≡ Some (s, at.slots)) (sym c.self.view_is) at.entry in
    stands_if c.args.self.now c.args.position c.args.t s at.slots c.slot_at.result at.entry (c.slot_at.ensures.slot s at.slots there)
