use Rattle.std.proofs.Common.{◌≡◌, Some, sym, subst}
use Rattle.std.specs.Prelude.{slice_get}
use Rattle.std.proofs.lemmas.Option.{IfSome_then}
use Rattle.series_slots.specs.Slots.{Slots}
use Rattle.series_slots.specs.SeriesEntries.{SeriesEntries}
use Rattle.series_slots.specs.Firsts.{HasNoTime, IsFirstTime}
use Rattle.series_slots.proofs.SeriesLemmas.{value_placed}
use Rattle.series_slots.proofs.indexed.IndexedSeries.first_time.Goals as goal

pub returns-clause-none : goal.returns-clause-none
returns-clause-none c e s slots at =
    let es : SeriesEntries = c.self.inside.map.entries in
    let there : slice_get es c.args.position ≡ Some (s, slots) = subst (λ (ps : SeriesEntries). slice_get ps c.args.position ≡ Some (s, slots)) (sym c.self.view_is) at in
    subst HasNoTime (value_placed es c.args.position s slots c.index.result.now there c.index.ensures) (c.first.ensures.none e)

pub returns-clause-some : goal.returns-clause-some
returns-clause-some c = IfSome_then c.first.result c.first.ensures.some (λ t h s slots at.
    let es : SeriesEntries = c.self.inside.map.entries in
    let there : slice_get es c.args.position ≡ Some (s, slots) = subst (λ (ps : SeriesEntries). slice_get ps c.args.position ≡ Some (s, slots)) (sym c.self.view_is) at in
    subst (λ (v : Slots). IsFirstTime v t) (value_placed es c.args.position s slots c.index.result.now there c.index.ensures) h)
