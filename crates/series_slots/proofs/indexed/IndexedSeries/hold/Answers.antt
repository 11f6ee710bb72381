use Rattle.std.proofs.Common.{◌≡◌, Some, None, ap, sym, subst, ◌∙◌}
use Rattle.std.specs.Prelude.{slice_get}
use Rattle.std.specs.FinMap as finite
use Rattle.std.proofs.lemmas.Result.{on_ok_weaker, on_err_weaker}
use Rattle.indexmap.specs.IndexMap.{set_value_at}
use Rattle.series_slots.specs.Slots.{Slots}
use Rattle.series_slots.specs.SeriesEntries.{SeriesEntries}
use Rattle.indexmap.proofs.CallerLemmas.{keys-with_value_at}
use Rattle.series_slots.proofs.OrderLemmas.{same_listed}
use Rattle.series_slots.proofs.SeriesLemmas.{value_placed, written, still_distinct, unwritten}
use Rattle.series_slots.proofs.indexed.IndexedSeries.hold.Goals as goal

pub invariant_of-self : goal.invariant_of-self
invariant_of-self c = (
  still_distinct c.self.inside.map c.args.position c.hold.new.self c.self.invariant.0,
  same_listed _ c.self.inside.map.entries _ c.self.invariant.1 (keys-with_value_at c.self.inside.map c.args.position c.hold.new.self),
)

pub returns-clause-ok : goal.returns-clause-ok
returns-clause-ok c s slots at =
    let es : SeriesEntries = c.self.inside.map.entries in
    let there : slice_get es c.args.position ≡ Some (s, slots) = subst (λ (ps : SeriesEntries). slice_get ps c.args.position ≡ Some (s, slots)) (sym c.self.view_is) at in
    let lent : c.index_mut.result.now ≡ slots = value_placed es c.args.position s slots c.index_mut.result.now there c.index_mut.ensures.value in
    rw (← c.self.view_is) (on_ok_weaker c.hold.result (λ h. written c.self.inside.map c.args.position s slots c.hold.new.self _ c.self.invariant.0 there (h ∙ ap (λ (v : Slots). finite.insert v c.args.t None) lent)) c.hold.ensures.ok)

pub returns-clause-err : goal.returns-clause-err
returns-clause-err c =
    let es : SeriesEntries = c.self.inside.map.entries in
    rw (← c.self.view_is) (on_err_weaker c.hold.result (λ h. ap (set_value_at es c.args.position) h ∙ unwritten es c.args.position c.index_mut.result.now c.index_mut.ensures.value) c.hold.ensures.err)
