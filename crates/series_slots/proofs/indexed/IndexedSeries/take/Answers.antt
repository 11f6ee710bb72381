use Rattle.std.proofs.Common.{◌≡◌, Some, ap, sym, subst, ◌∙◌}
use Rattle.std.specs.Prelude.{slice_get}
use Rattle.std.specs.FinMap as finite
use Rattle.series_slots.specs.Slots.{Slots}
use Rattle.series_slots.specs.SeriesEntries.{SeriesEntries}
use Rattle.indexmap.proofs.CallerLemmas.{keys-with_value_at}
use Rattle.series_slots.proofs.OrderLemmas.{same_listed}
use Rattle.series_slots.proofs.SeriesLemmas.{value_placed, written, still_distinct}
use Rattle.series_slots.proofs.indexed.IndexedSeries.take.Goals as goal

pub invariant_of-self : goal.invariant_of-self
invariant_of-self c = (
  still_distinct c.self.inside.map c.args.position c.take.new.self c.self.invariant.0,
  same_listed _ c.self.inside.map.entries _ c.self.invariant.1 (keys-with_value_at c.self.inside.map c.args.position c.take.new.self),
)

pub returns : goal.returns
returns c s slots at =
    let es : SeriesEntries = c.self.inside.map.entries in
    let there : slice_get es c.args.position ≡ Some (s, slots) = subst (λ (ps : SeriesEntries). slice_get ps c.args.position ≡ Some (s, slots)) (sym c.self.view_is) at in
    let lent : c.index_mut.result.now ≡ slots = value_placed es c.args.position s slots c.index_mut.result.now there c.index_mut.ensures.value in
    rw (← c.self.view_is) (written c.self.inside.map c.args.position s slots c.take.new.self _ c.self.invariant.0 there (c.take.ensures ∙ ap (λ (v : Slots). finite.remove v c.args.t) lent))
