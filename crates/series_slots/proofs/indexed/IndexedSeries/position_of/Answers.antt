use Rattle.std.proofs.Common.{◌≡◌, Some, ap, sym, ◌∙◌}
use Rattle.std.specs.Prelude.{slice_get}
use Rattle.std.specs.FinMap as finite
use Rattle.series_slots.specs.declared.series_key.SeriesKey.{SeriesKey}
use Rattle.series_slots.specs.Slots.{Slots}
use Rattle.series_slots.specs.SeriesEntries.{SeriesEntries, slots_of}
use Rattle.series_slots.proofs.SeriesLemmas.{placed_at, sought_is}
use Rattle.series_slots.proofs.indexed.IndexedSeries.position_of.Goals as goal

pub returns-clause-there : goal.returns-clause-there
returns-clause-there c =
    let slots : Slots = c.in_ok-position.field-0-2.now in
    let same : c.in_ok-position.field-0-1.now ≡ c.args.series.now = sought_is c.self.inside.map.entries c.args.series.now c.in_ok-position.field-0-1.now (sym c.in_ok-position.ensures.key) in
    record {
      slots = slots;
      entry = ap (λ (es : SeriesEntries). slice_get es c.in_ok-position.position) (sym c.self.view_is) ∙ c.in_ok-position.ensures.entry ∙ ap (λ (k : SeriesKey). Some (k, slots)) same;
    }

pub returns-in_err-position-clause-absent : goal.returns-in_err-position-clause-absent
returns-in_err-position-clause-absent c none =
    ap (λ (es : SeriesEntries). finite.get (slots_of es) c.args.series.now) (sym c.self.view_is) ∙ placed_at c.self.inside.map.entries c.args.series.now ∙ sym c.in_err-position.ensures.value
