use Rattle.std.proofs.Common.{◌≡◌, Some, None, ap, sym, subst, ◌∙◌}
use Rattle.std.specs.Prelude.{slice_get, swap_remove}
use Rattle.indexmap.specs.IndexMap.{Updates}
use Rattle.series_slots.specs.declared.series_key.SeriesKey.{SeriesKey}
use Rattle.series_slots.specs.SeriesKeys.{series_cmp, series_cmp_total, series_eq}
use Rattle.series_slots.specs.Slots.{Slots}
use Rattle.series_slots.specs.SeriesEntries.{SeriesEntries}
use Rattle.series_slots.specs.Written.{IsRemoved}
use Rattle.series_slots.proofs.HashLemmas.{lost}
use Rattle.series_slots.proofs.PointLemmas.{series_cmp-IsAntisymmetric, inside_some}
use Rattle.series_slots.proofs.OrderLemmas.{left_listed}
use Rattle.series_slots.proofs.SeriesLemmas.{series_tie, found_in}
use Rattle.series_slots.proofs.indexed.IndexedSeries.remove.Goals as goal

pub returns-clause-removed : goal.returns-clause-removed
returns-clause-removed c s slots at =
    let es : SeriesEntries = c.self.inside.map.entries in
    let there : slice_get es c.args.position ≡ Some (s, slots) = subst (λ (ps : SeriesEntries). slice_get ps c.args.position ≡ Some (s, slots)) (sym c.self.view_is) at in
    let same : ◌≡◌ {A = SeriesKey × Slots} (c.in_ok-series.series, c.in_ok-series.buffer) (s, slots) = inside_some _ _ (c.in_ok-series.ensures.entry ∙ there) in
    let updates : Updates series_eq c.self.inside.map c.swap_remove_index.new.self s None =
    subst (λ (p : SeriesKey × Slots). Updates series_eq c.self.inside.map c.swap_remove_index.new.self p.0 None) same c.in_ok-series.ensures.updates in
    subst (λ (ps : SeriesEntries). IsRemoved ps c.swap_remove_index.new.self.entries c.args.position s slots) c.self.view_is (record {
      found = found_in es c.args.position s slots c.self.invariant.0 there;
      placed = c.in_ok-series.ensures.entries ∙ ap (swap_remove es c.args.position) same;
      mapped = lost series_cmp series_cmp_total series_eq series_tie series_cmp-IsAntisymmetric es c.swap_remove_index.new.self.entries s updates.0;
    })

pub invariant_of-self-2 : goal.invariant_of-self-2
invariant_of-self-2 c =
    let s : SeriesKey = c.in_ok-series.series in
    let mapped = lost series_cmp series_cmp_total series_eq series_tie series_cmp-IsAntisymmetric c.self.inside.map.entries c.swap_remove_index.new.self.entries s c.in_ok-series.ensures.updates.0 in
    (c.swap_remove_index.ensures.unique, left_listed _ _ c.self.inside.map.entries c.swap_remove_index.new.self.entries s c.self.invariant.1 c.remove.ensures.updates.0 mapped)
