use Rattle.std.proofs.Common.{◌≡◌, Some, sym, subst}
use Rattle.std.specs.Prelude.{slice_get}
use Rattle.std.proofs.lemmas.Option.{IfSome_then}
use Rattle.series_slots.specs.Slots.{Slots}
use Rattle.series_slots.specs.SeriesEntries.{SeriesEntries}
use Rattle.series_slots.specs.Firsts.{IsBareFrom, IsFirstFrom, HasNoneLater, IsFirstAt}
use Rattle.series_slots.proofs.SeriesLemmas.{value_placed, found_in}
use Rattle.series_slots.proofs.FirstLemmas.{none_later, first_of}
use Rattle.series_slots.proofs.indexed.IndexedSeries.first_from.Goals as goal

pub returns-clause-none : goal.returns-clause-none
returns-clause-none c e s at =
    let es : SeriesEntries = c.self.inside.map.entries in
    let there : slice_get es c.args.position ≡ Some (s, at.slots) = subst (λ (ps : SeriesEntries). slice_get ps c.args.position ≡ Some (s, at.slots)) (sym c.self.view_is) at.entry in
    let same = value_placed es c.args.position s at.slots c.index.result.now there c.index.ensures in
    subst (λ (ps : SeriesEntries). HasNoneLater ps s c.args.low) c.self.view_is
    (none_later es s at.slots c.args.low (found_in es c.args.position s at.slots c.self.invariant.0 there) (subst (λ (v : Slots). IsBareFrom v c.args.low) same (c.first_from.ensures.none e)))

pub returns-clause-some : goal.returns-clause-some
returns-clause-some c = IfSome_then c.first_from.result c.first_from.ensures.some (λ x h s at.
    let es : SeriesEntries = c.self.inside.map.entries in
    let there : slice_get es c.args.position ≡ Some (s, at.slots) = subst (λ (ps : SeriesEntries). slice_get ps c.args.position ≡ Some (s, at.slots)) (sym c.self.view_is) at.entry in
    let same = value_placed es c.args.position s at.slots c.index.result.now there c.index.ensures in
    subst (λ (ps : SeriesEntries). IsFirstAt ps c.args.position s c.args.low x.0 x.1) c.self.view_is
    (first_of es c.args.position s at.slots c.args.low x.0 x.1 there (found_in es c.args.position s at.slots c.self.invariant.0 there) (subst (λ (v : Slots). IsFirstFrom v c.args.low x.0 x.1) same h)))
