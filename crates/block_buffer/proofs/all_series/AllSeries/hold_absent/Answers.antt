use Rattle.std.proofs.Common.{◌≡◌, ℕ, ◌<◌, ◌≤◌, ◌^◌, Some, None, ap, sym, subst, ◌∙◌, rules, arith}
use Rattle.std.specs.Prelude.{slice_get}
use Rattle.std.specs.FinMap as finite
use Rattle.series_slots.specs.declared.series_key.SeriesKey.{SeriesKey}
use Rattle.series_slots.specs.SeriesKeys.{key_at}
use Rattle.series_slots.specs.Slots.{Slots}
use Rattle.series_slots.specs.SeriesEntries.{SeriesEntries}
use Rattle.block_buffer.specs.AllSeries.{TimesFit, SpacesBelow, AreNoted, IsSlotSet}
use Rattle.block_buffer.specs.Bounds.{bound_at}
use Rattle.block_buffer.specs.Spots.{group_of}
use Rattle.block_buffer.proofs.SetLemmas.{put_slot}
use Rattle.block_buffer.proofs.EntryLemmas.{times_inserted, spaces_set, set_here, some_inserted}
use Rattle.block_buffer.proofs.SpotLemmas.{noted_lower, noted_inserted}
use Rattle.block_buffer.proofs.all_series.AllSeries.hold_absent.Goals as goal

pub space_at-ns-requires : goal.space_at-ns-requires
space_at-ns-requires c = (c.requires.0, record { slots = c.requires.1; entry = subst (λ (ps : SeriesEntries). slice_get ps c.args.position ≡ Some (c.requires.0, c.requires.1)) (sym c.self.view_is) c.requires.2 })

pub invariant_of-self : goal.invariant_of-self
invariant_of-self c = (
  c.self.invariant.0,
  c.self.invariant.1,
  c.self.invariant.2,
  noted_lower c.self.inside.firsts.spaces.items c.room.new.self.spaces.items c.self.inside.placed c.room.ensures.lower c.self.invariant.3,
)

pub hold-requires : goal.hold-requires
hold-requires c = (c.requires.0, record { slots = c.requires.1; entry = subst (λ (ps : SeriesEntries). slice_get ps c.args.position ≡ Some (c.requires.0, c.requires.1)) (sym c.self.view_is) c.requires.2 })

pub invariant_of-self-in_err-hold : goal.invariant_of-self-in_err-hold
invariant_of-self-in_err-hold c =
    let same = sym c.in_err-hold.ensures.err in (
      subst TimesFit same c.self.invariant.0,
      subst (SpacesBelow c.self.inside.spaces) same c.self.invariant.1,
      c.self.invariant.2,
      subst (AreNoted c.room.new.self.spaces.items) same (noted_lower c.self.inside.firsts.spaces.items c.room.new.self.spaces.items c.self.inside.placed c.room.ensures.lower c.self.invariant.3),
    )

pub invariant_of-self-2 : goal.invariant_of-self-2
invariant_of-self-2 c =
    let es : SeriesEntries = c.self.inside.placed in
    let s : SeriesKey = c.requires.0 in
    let v : Slots = c.requires.1 in
    let there : slice_get es c.args.position ≡ Some (s, v) = subst (λ (ps : SeriesEntries). slice_get ps c.args.position ≡ Some (s, v)) (sym c.self.view_is) c.requires.2 in
    let short : c.args.t < 2 ^ 64 = search rules in
    let done = c.in_ok-hold.ensures.ok s v there in
    let space : c.space_at-ns.result ≡ s.ns = c.space_at-ns.ensures s (record { slots = v; entry = there }) in
    let noted : bound_at c.lower.new.self.spaces.items s.ns (group_of c.args.position) ≤ c.args.t =
    subst (λ (n : ℕ). bound_at c.lower.new.self.spaces.items n (group_of c.args.position) ≤ c.args.t) space (c.lower.ensures.noted (group_of c.args.position) (omega arith) c.in_ok-room.ensures.room) in (
      subst TimesFit (sym done.placed) (times_inserted es c.args.position s v c.args.t None there short c.self.invariant.0),
      subst (SpacesBelow c.self.inside.spaces) (sym done.placed) (spaces_set c.self.inside.spaces es c.args.position s v _ there c.self.invariant.1),
      c.self.invariant.2,
      subst (AreNoted c.lower.new.self.spaces.items) (sym done.placed)
          (noted_inserted c.room.new.self.spaces.items c.lower.new.self.spaces.items es c.args.position s v c.args.t None there c.lower.ensures.lower noted
          (noted_lower c.self.inside.firsts.spaces.items c.room.new.self.spaces.items es c.room.ensures.lower c.self.invariant.3)),
    )

pub returns-clause-ok : goal.returns-clause-ok
returns-clause-ok c s at =
    let es : SeriesEntries = c.self.inside.placed in
    let there : slice_get es c.args.position ≡ Some (s, at.slots) = subst (λ (ps : SeriesEntries). slice_get ps c.args.position ≡ Some (s, at.slots)) (sym c.self.view_is) at.entry in
    subst (λ (ps : SeriesEntries). IsSlotSet ps c.hold.new.self (key_at s c.args.t) (Some None)) c.self.view_is
    (put_slot es c.hold.new.self c.args.position s at.slots c.args.t None (c.in_ok-hold.ensures.ok s at.slots there))

pub returns-clause-stands : goal.returns-clause-stands
returns-clause-stands c s at =
    let es : SeriesEntries = c.self.inside.placed in
    let there : slice_get es c.args.position ≡ Some (s, at.slots) = subst (λ (ps : SeriesEntries). slice_get ps c.args.position ≡ Some (s, at.slots)) (sym c.self.view_is) at.entry in
    let w : Slots = finite.insert at.slots c.args.t None in
    record {
      slots = w;
      entry = ap (λ (ps : SeriesEntries). slice_get ps c.args.position) (c.in_ok-hold.ensures.ok s at.slots there).placed ∙ set_here es c.args.position s at.slots w there;
      slot = some_inserted at.slots c.args.t None;
    }
