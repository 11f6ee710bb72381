use Rattle.std.proofs.Common.{◌≡◌, Some, None, ap, sym, subst, ◌∙◌}
use Rattle.std.specs.Prelude.{slice_get}
use Rattle.std.specs.FinMap as finite
use Rattle.series_slots.specs.declared.series_key.SeriesKey.{SeriesKey}
use Rattle.series_slots.specs.SeriesKeys.{key_at}
use Rattle.series_slots.specs.Slots.{Slots}
use Rattle.series_slots.specs.SeriesEntries.{SeriesEntries}
use Rattle.block_buffer.specs.AllSeries.{TimesFit, SpacesBelow, AreNoted, IsSlotSet}
use Rattle.block_buffer.proofs.SetLemmas.{take_slot}
use Rattle.block_buffer.proofs.EntryLemmas.{times_removed, spaces_set, set_here}
use Rattle.block_buffer.proofs.SpotLemmas.{noted_removed}
use Rattle.block_buffer.proofs.all_series.AllSeries.take_slot.Goals as goal

pub invariant_of-self : goal.invariant_of-self
invariant_of-self c =
    let es : SeriesEntries = c.self.inside.placed in
    let s : SeriesKey = c.requires.0 in
    let v : Slots = c.requires.1.slots in
    let there : slice_get es c.args.position ≡ Some (s, v) = subst (λ (ps : SeriesEntries). slice_get ps c.args.position ≡ Some (s, v)) (sym c.self.view_is) c.requires.1.entry in
    let done = c.take.ensures s v there in (
      subst TimesFit (sym done.placed) (times_removed es c.args.position s v c.args.t there c.self.invariant.0),
      subst (SpacesBelow c.self.inside.spaces) (sym done.placed) (spaces_set c.self.inside.spaces es c.args.position s v _ there c.self.invariant.1),
      c.self.invariant.2,
      subst (AreNoted c.self.inside.firsts.spaces.items) (sym done.placed) (noted_removed c.self.inside.firsts.spaces.items es c.args.position s v c.args.t there c.self.invariant.3),
    )

pub returns-clause-taken : goal.returns-clause-taken
returns-clause-taken c s at =
    let es : SeriesEntries = c.self.inside.placed in
    let there : slice_get es c.args.position ≡ Some (s, at.slots) = subst (λ (ps : SeriesEntries). slice_get ps c.args.position ≡ Some (s, at.slots)) (sym c.self.view_is) at.entry in
    subst (λ (ps : SeriesEntries). IsSlotSet ps c.take.new.self (key_at s c.args.t) None) c.self.view_is
    (take_slot es c.take.new.self c.args.position s at.slots c.args.t (c.take.ensures s at.slots there))

pub returns-clause-there : goal.returns-clause-there
returns-clause-there c s at =
    let es : SeriesEntries = c.self.inside.placed in
    let there : slice_get es c.args.position ≡ Some (s, at.slots) = subst (λ (ps : SeriesEntries). slice_get ps c.args.position ≡ Some (s, at.slots)) (sym c.self.view_is) at.entry in
    let w : Slots = finite.remove at.slots c.args.t in
    record { slots = w; entry = ap (λ (ps : SeriesEntries). slice_get ps c.args.position) (c.take.ensures s at.slots there).placed ∙ set_here es c.args.position s at.slots w there }
