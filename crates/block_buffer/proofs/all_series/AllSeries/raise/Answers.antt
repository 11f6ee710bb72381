use Rattle.std.proofs.Common.{◌≡◌, ◌<◌, ◌^◌, Some, cond, ap, ap₂, sym, subst, ◌∙◌, rules, w64}
use Rattle.std.specs.Prelude.{Option, ℤ, FitsSigned, slice_get}
use Rattle.std.specs.Ordering.{eq_by_cmp}
use Rattle.std.proofs.lemmas.Int.{to_z-of_z}
use Rattle.m3_model.specs.Contents.{higher, is_higher}
use Rattle.m3_model.specs.Keys.{key_cmp}
use Rattle.series_slots.specs.declared.series_key.SeriesKey.{SeriesKey}
use Rattle.series_slots.specs.SeriesKeys.{key_at}
use Rattle.series_slots.specs.Slots.{Slots, settled, value_at}
use Rattle.series_slots.specs.Points.{slot_at, value_of}
use Rattle.series_slots.specs.SeriesEntries.{SeriesEntries, slots_of}
use Rattle.block_buffer.specs.AllSeries.{TimesFit, SpacesBelow, AreNoted}
use Rattle.block_buffer.proofs.SetLemmas.{put_slot, slot_found}
use Rattle.block_buffer.proofs.EntryLemmas.{times_inserted, spaces_set}
use Rattle.block_buffer.proofs.SpotLemmas.{noted_raised}
use Rattle.block_buffer.proofs.all_series.AllSeries.raise.Goals as goal

pub invariant_of-self : goal.invariant_of-self
invariant_of-self c =
    let es : SeriesEntries = c.self.inside.placed in
    let s : SeriesKey = c.requires.0 in
    let v : Slots = c.requires.1.slots in
    let there : slice_get es c.args.position ≡ Some (s, v) = subst (λ (ps : SeriesEntries). slice_get ps c.args.position ≡ Some (s, v)) (sym c.self.view_is) c.requires.1.entry in
    let short : c.args.t < 2 ^ 64 = search rules in
    let done = c.raise.ensures.raised s v there in (
      subst TimesFit (sym done.placed) (times_inserted es c.args.position s v c.args.t _ there short c.self.invariant.0),
      subst (SpacesBelow c.self.inside.spaces) (sym done.placed) (spaces_set c.self.inside.spaces es c.args.position s v _ there c.self.invariant.1),
      c.self.invariant.2,
      subst (AreNoted c.self.inside.firsts.spaces.items) (sym done.placed) (noted_raised c.self.inside.firsts.spaces.items es c.args.position s v c.args.t _ there c.requires.1.slot c.self.invariant.3),
    )

pub returns-clause-raised : goal.returns-clause-raised
returns-clause-raised c s at k =
    let es : SeriesEntries = c.self.inside.placed in
    let there : slice_get es c.args.position ≡ Some (s, at.slots) = subst (λ (ps : SeriesEntries). slice_get ps c.args.position ≡ Some (s, at.slots)) (sym c.self.view_is) at.entry in
    let done = c.raise.ensures.raised s at.slots there in
    let fits : FitsSigned w64 c.args.v = search rules in
    let here : value_at at.slots c.args.t ≡ value_of (slots_of es) (key_at s c.args.t) = sym (ap settled (slot_found (slots_of es) s at.slots c.args.t done.found)) in
    subst (λ (ps : SeriesEntries). slot_at (slots_of c.raise.new.self) k ≡ cond (eq_by_cmp key_cmp k (key_at s c.args.t)) (Some (Some (higher (value_of (slots_of ps) (key_at s c.args.t)) c.args.v))) (slot_at (slots_of ps) k)) c.self.view_is
    (put_slot es c.raise.new.self c.args.position s at.slots c.args.t _ done k
    ∙ ap₂ (λ (o : Option ℤ) (z : ℤ). cond (eq_by_cmp key_cmp k (key_at s c.args.t)) (Some (Some (higher o z))) (slot_at (slots_of es) k)) here (to_z-of_z w64 c.args.v fits))

pub returns-clause-changed : goal.returns-clause-changed
returns-clause-changed c s at =
    let es : SeriesEntries = c.self.inside.placed in
    let there : slice_get es c.args.position ≡ Some (s, at.slots) = subst (λ (ps : SeriesEntries). slice_get ps c.args.position ≡ Some (s, at.slots)) (sym c.self.view_is) at.entry in
    let done = c.raise.ensures.raised s at.slots there in
    let fits : FitsSigned w64 c.args.v = search rules in
    let here : value_at at.slots c.args.t ≡ value_of (slots_of es) (key_at s c.args.t) = sym (ap settled (slot_found (slots_of es) s at.slots c.args.t done.found)) in
    c.raise.ensures.changed s at.slots there ∙ ap₂ is_higher here (to_z-of_z w64 c.args.v fits)
    ∙ ap (λ (ps : SeriesEntries). is_higher (value_of (slots_of ps) (key_at s c.args.t)) c.args.v) c.self.view_is
