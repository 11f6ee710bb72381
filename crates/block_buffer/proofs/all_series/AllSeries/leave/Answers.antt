use Rattle.std.proofs.Common.{◌≡◌, Bool, true, false, length, Some, refl, ap, sym, subst, ◌∙◌}
use Rattle.std.specs.Prelude.{Option, IsSome, MatchOption, slice_get}
use Rattle.std.specs.FinMap.{entries}
use Rattle.series_slots.specs.declared.series_key.SeriesKey.{SeriesKey}
use Rattle.series_slots.specs.SeriesKeys.{key_at}
use Rattle.series_slots.specs.Slots.{Slots}
use Rattle.series_slots.specs.Points.{slot_at}
use Rattle.series_slots.specs.SeriesEntries.{SeriesEntries, slots_of}
use Rattle.block_buffer.specs.AllSeries.{TimesFit, SpacesBelow, AreNoted, HasNoSlots, HasSlots}
use Rattle.block_buffer.proofs.SetLemmas.{slot_found, some_slot, left_same, left_empty}
use Rattle.block_buffer.proofs.EntryLemmas.{times_left, spaces_left}
use Rattle.std.proofs.lemmas.Option.{slice_get_within}
use Rattle.block_buffer.proofs.SpotLemmas.{noted_left}
use Rattle.block_buffer.proofs.all_series.AllSeries.leave.Goals as goal

off_on : (b : Bool) → b ≡ false → b ≡ true → ⊥
off_on true h e = cc
off_on false h e = cc

pub returns-then-not-is_vacant-clause-left : goal.returns-then-not-is_vacant-clause-left
returns-then-not-is_vacant-clause-left c s at =
    let es : SeriesEntries = c.self.inside.placed in
    let there : slice_get es c.args.position ≡ Some (s, at.slots) = subst (λ (ps : SeriesEntries). slice_get ps c.args.position ≡ Some (s, at.slots)) (sym c.self.view_is) at.entry in
    let t = some_slot at.slots (λ none. off_on c.is_vacant.result c.if-not-is_vacant.true ((c.is_vacant.ensures.vacant s at.slots there).1 none)) in
    record {
      at = at;
      t = t.0;
      some = subst (λ (ps : SeriesEntries). IsSome (slot_at (slots_of ps) (key_at s t.0))) c.self.view_is
          (subst IsSome (sym (slot_found (slots_of es) s at.slots t.0 (c.is_vacant.ensures.found s at.slots there))) t.1);
    }

pub note_last-requires : goal.note_last-requires
note_last-requires c =
    let es : SeriesEntries = c.self.inside.placed in
    let s : SeriesKey = c.requires.0 in
    let v : Slots = c.requires.1.slots in
    let there : slice_get es c.args.position ≡ Some (s, v) = subst (λ (ps : SeriesEntries). slice_get ps c.args.position ≡ Some (s, v)) (sym c.self.view_is) c.requires.1.entry in
    slice_get_within es c.args.position (s, v) there

pub invariant_of-self : goal.invariant_of-self
invariant_of-self c =
    let es : SeriesEntries = c.self.inside.placed in
    let s : SeriesKey = c.requires.0 in
    let v : Slots = c.requires.1.slots in
    let there : slice_get es c.args.position ≡ Some (s, v) = subst (λ (ps : SeriesEntries). slice_get ps c.args.position ≡ Some (s, v)) (sym c.self.view_is) c.requires.1.entry in
    let done = c.remove.ensures.removed s v there in (
      subst TimesFit (sym done.placed) (times_left es c.args.position s v there c.self.invariant.0),
      subst (SpacesBelow c.self.inside.spaces) (sym done.placed) (spaces_left c.self.inside.spaces es c.args.position s v there c.self.invariant.1),
      c.self.invariant.2,
      subst (AreNoted c.note_last.new.firsts.spaces.items) (sym done.placed)
          (noted_left c.self.inside.firsts.spaces.items c.note_last.new.firsts.spaces.items es c.args.position (s, v) there c.note_last.ensures.lower c.note_last.ensures.noted c.self.invariant.0 c.self.invariant.3),
    )

pub returns-clause-kept : goal.returns-clause-kept
returns-clause-kept c k =
    let es : SeriesEntries = c.self.inside.placed in
    let s : SeriesKey = c.requires.0 in
    let v : Slots = c.requires.1.slots in
    let there : slice_get es c.args.position ≡ Some (s, v) = subst (λ (ps : SeriesEntries). slice_get ps c.args.position ≡ Some (s, v)) (sym c.self.view_is) c.requires.1.entry in
    let none : length (entries v) ≡ 0 = (c.is_vacant.ensures.vacant s v there).0 c.if-not-is_vacant.false in
    left_same es c.remove.new.self c.args.position s v none (c.remove.ensures.removed s v there) k ∙ ap (λ (ps : SeriesEntries). slot_at (slots_of ps) k) c.self.view_is

pub returns-clause-left : goal.returns-clause-left
returns-clause-left c s at =
    let es : SeriesEntries = c.self.inside.placed in
    let there : slice_get es c.args.position ≡ Some (s, at.slots) = subst (λ (ps : SeriesEntries). slice_get ps c.args.position ≡ Some (s, at.slots)) (sym c.self.view_is) at.entry in
    let none : length (entries at.slots) ≡ 0 = (c.is_vacant.ensures.vacant s at.slots there).0 c.if-not-is_vacant.false in
    subst (λ (o : Option SeriesKey). MatchOption o (HasSlots c.remove.new.self c.args.position s) (λ gone. (gone ≡ s) × HasNoSlots c.remove.new.self s)) (sym (c.remove.ensures.key s at.slots there))
    (refl, left_empty es c.remove.new.self c.args.position s at.slots none (c.remove.ensures.removed s at.slots there))
