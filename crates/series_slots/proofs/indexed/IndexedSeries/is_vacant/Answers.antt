use Rattle.std.proofs.Common.{◌≡◌, Some, sym, subst, length}
use Rattle.std.specs.Prelude.{slice_get, ◌↔◌, IsTrue}
use Rattle.std.specs.FinMap as finite
use Rattle.series_slots.specs.Slots.{Slots}
use Rattle.series_slots.specs.SeriesEntries.{SeriesEntries, slots_of}
use Rattle.series_slots.proofs.SeriesLemmas.{value_placed, found_in}
use Rattle.series_slots.proofs.indexed.IndexedSeries.is_vacant.Goals as goal

pub returns-clause-vacant : goal.returns-clause-vacant
returns-clause-vacant c s slots at =
    let es : SeriesEntries = c.self.inside.map.entries in
    let there : slice_get es c.args.position ≡ Some (s, slots) = subst (λ (ps : SeriesEntries). slice_get ps c.args.position ≡ Some (s, slots)) (sym c.self.view_is) at in
    subst (λ (v : Slots). IsTrue c.is_empty.result ↔ (length (finite.entries v) ≡ 0)) (value_placed es c.args.position s slots c.index.result.now there c.index.ensures) c.is_empty.ensures

pub returns-clause-found : goal.returns-clause-found
returns-clause-found c s slots at =
    let es : SeriesEntries = c.self.inside.map.entries in
    let there : slice_get es c.args.position ≡ Some (s, slots) = subst (λ (ps : SeriesEntries). slice_get ps c.args.position ≡ Some (s, slots)) (sym c.self.view_is) at in
    subst (λ (ps : SeriesEntries). finite.get (slots_of ps) s ≡ Some slots) c.self.view_is (found_in es c.args.position s slots c.self.invariant.0 there)
