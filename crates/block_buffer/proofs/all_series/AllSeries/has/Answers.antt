use Rattle.std.proofs.Common.{◌≡◌, Bool, true, false, not, refl, ap, sym, subst, ◌∙◌}
use Rattle.std.specs.Prelude.{IsSome}
use Rattle.series_slots.specs.SeriesKeys.{key_at}
use Rattle.series_slots.specs.Points.{slot_at}
use Rattle.series_slots.specs.SeriesEntries.{SeriesEntries, slots_of}
use Rattle.block_buffer.proofs.SetLemmas.{slot_found, some_slot, no_slot}
use Rattle.block_buffer.proofs.all_series.AllSeries.has.Goals as goal

not_both : (b : Bool) → not b ≡ true → b ≡ true → ⊥
not_both true h e = cc
not_both false h e = cc

on_of : (b : Bool) → not b ≡ false → b ≡ true
on_of true h = refl
on_of false h = cc

pub returns-in-Some-clause-some : goal.returns-in-Some-clause-some
returns-in-Some-clause-some c h =
    let at = c.in-Some.ensures.there in
    let t = some_slot at.slots (λ none. not_both c.is_vacant.result h ((c.is_vacant.ensures.vacant c.args.series.now at.slots at.entry).1 none)) in (
      t.0,
      subst (λ (ps : SeriesEntries). IsSome (slot_at (slots_of ps) (key_at c.args.series.now t.0))) c.self.view_is
          (subst IsSome (sym (slot_found (slots_of c.self.inside.placed) c.args.series.now at.slots t.0 (c.is_vacant.ensures.found c.args.series.now at.slots at.entry))) t.1),
    )

pub returns-in-Some-clause-none : goal.returns-in-Some-clause-none
returns-in-Some-clause-none c h t =
    let at = c.in-Some.ensures.there in
    let none = (c.is_vacant.ensures.vacant c.args.series.now at.slots at.entry).0 (on_of c.is_vacant.result h) in
    ap (λ (ps : SeriesEntries). slot_at (slots_of ps) (key_at c.args.series.now t)) (sym c.self.view_is)
    ∙ slot_found (slots_of c.self.inside.placed) c.args.series.now at.slots t (c.is_vacant.ensures.found c.args.series.now at.slots at.entry) ∙ no_slot at.slots t none
