use Rattle.std.proofs.Common.{◌≡◌, Some, ap₂, sym, subst, ◌∙◌, rules, w64}
use Rattle.std.specs.Prelude.{ℤ, FitsSigned, slice_get}
use Rattle.std.specs.FinMap as finite
use Rattle.std.proofs.lemmas.Int.{to_z-of_z}
use Rattle.m3_model.specs.Contents.{higher, is_higher}
use Rattle.series_slots.specs.Slots.{Slots, value_at}
use Rattle.series_slots.specs.SeriesEntries.{SeriesEntries}
use Rattle.indexmap.proofs.CallerLemmas.{keys-with_value_at}
use Rattle.series_slots.proofs.OrderLemmas.{same_listed}
use Rattle.series_slots.proofs.SeriesLemmas.{value_placed, written, still_distinct}
use Rattle.series_slots.proofs.indexed.IndexedSeries.raise.Goals as goal

pub invariant_of-self : goal.invariant_of-self
invariant_of-self c = (
  still_distinct c.self.inside.map c.args.position c.raise.new.self c.self.invariant.0,
  same_listed _ c.self.inside.map.entries _ c.self.invariant.1 (keys-with_value_at c.self.inside.map c.args.position c.raise.new.self),
)

pub returns-clause-raised : goal.returns-clause-raised
returns-clause-raised c s slots at =
    let es : SeriesEntries = c.self.inside.map.entries in
    let there : slice_get es c.args.position ≡ Some (s, slots) = subst (λ (ps : SeriesEntries). slice_get ps c.args.position ≡ Some (s, slots)) (sym c.self.view_is) at in
    let lent : c.index_mut.result.now ≡ slots = value_placed es c.args.position s slots c.index_mut.result.now there c.index_mut.ensures.value in
    let fits : FitsSigned w64 c.args.v = search rules in
    rw (← c.self.view_is) (written c.self.inside.map c.args.position s slots c.raise.new.self _ c.self.invariant.0 there
    (c.raise.ensures.raised ∙ ap₂ (λ (v : Slots) (z : ℤ). finite.insert v c.args.t (Some (higher (value_at v c.args.t) z))) lent (to_z-of_z w64 c.args.v fits)))

pub returns-clause-changed : goal.returns-clause-changed
returns-clause-changed c s slots at =
    let es : SeriesEntries = c.self.inside.map.entries in
    let there : slice_get es c.args.position ≡ Some (s, slots) = subst (λ (ps : SeriesEntries). slice_get ps c.args.position ≡ Some (s, slots)) (sym c.self.view_is) at in
    let lent : c.index_mut.result.now ≡ slots = value_placed es c.args.position s slots c.index_mut.result.now there c.index_mut.ensures.value in
    let fits : FitsSigned w64 c.args.v = search rules in
    c.raise.ensures.changed ∙ ap₂ (λ (v : Slots) (z : ℤ). is_higher (value_at v c.args.t) z) lent (to_z-of_z w64 c.args.v fits)
