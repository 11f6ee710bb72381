use Rattle.std.proofs.Common.{◌++◌, List, ap, sym, ◌∙◌}
use Rattle.std.specs.List.{flat_map}
use Rattle.m3_model.specs.declared.point.Series.{Series}
use Rattle.series_slots.specs.Ranges.{series_in}
use Rattle.series_slots.specs.SeriesEntries.{SeriesEntries, IsAt}
use Rattle.std.specs.Prelude.{slice_get}
use Rattle.series_slots.specs.declared.series_key.SeriesKey.{SeriesKey}
use Rattle.std.proofs.Common.{subst}
use Rattle.block_buffer.proofs.EntryLemmas.{entry_at}
use Rattle.block_buffer.proofs.GroupLemmas.{end_within}
use Rattle.block_buffer.proofs.RangeLemmas.{one_more, first_taken, group_taken}
use Rattle.block_buffer.proofs.all_series.AllSeries.push_group.Goals as goal

pub loop-position-init : goal.loop-position-init
loop-position-init c was =
    was ∙ ap (flat_map (series_in c.args.ns c.args.from c.args.to)) (sym (first_taken c.args.self.now c.args.group c.positions_of-first.result.0 c.positions_of-first.ensures.first c.positions_of-first.ensures.fits))

pub push_range_at-requires : goal.push_range_at-requires
push_range_at-requires c =
    let at = entry_at c.args.self.now c.loop-position.position (end_within c.args.group c.positions_of-first.result.1 _ c.loop-position.position c.positions_of-first.ensures.end c.loop-position-test.true) in
    subst (λ (es : SeriesEntries). (s : SeriesKey) × IsAt es c.loop-position.position s) (sym c.self.view_is) (at.0, record { slots = at.1; entry = at.2 })

pub loop-position-preserved : goal.loop-position-preserved
loop-position-preserved c was =
    let at = entry_at c.args.self.now c.loop-position.position (end_within c.args.group c.positions_of-first.result.1 _ c.loop-position.position c.positions_of-first.ensures.end c.loop-position-test.true) in
    let there = ap (λ (es : SeriesEntries). slice_get es c.loop-position.position) c.self.view_is ∙ at.2 in
    c.in_ok-push_range_at.ensures.ok at.0 at.1 there ∙ ap (λ (xs : List Series). xs ++ series_in c.args.ns c.args.from c.args.to (at.0, at.1)) (c.loop-position.invariant was)
    ∙ sym (one_more (series_in c.args.ns c.args.from c.args.to) c.args.self.now c.loop-position.position (at.0, at.1) at.2)

pub returns : goal.returns
returns c was =
    c.loop-position.invariant was
    ∙ ap (flat_map (series_in c.args.ns c.args.from c.args.to))
    (group_taken c.args.self.now c.args.group c.positions_of-first.result.0 c.positions_of-first.result.1 c.loop-position.position c.positions_of-first.ensures.first c.positions_of-first.ensures.end c.positions_of-first.ensures.fits c.loop-position-test.false
    c.loop-position.auto.position-end)
