use Rattle.std.proofs.Common.{◌≡◌, ◌+◌, ◌≤◌, sym, subst, ◌∙◌, arith}
use Rattle.std.specs.List.{flat_map}
use Rattle.m3_model.specs.declared.point.Pick.TheVariants as pick
use Rattle.series_slots.specs.Points.{points_of}
use Rattle.series_slots.specs.Ranges.{IsRangeOf, series_in}
use Rattle.series_slots.specs.SeriesEntries.{SeriesEntries, slots_of}
use Rattle.block_buffer.proofs.RangeLemmas.{late_groups, late_rest}
use Rattle.block_buffer.proofs.all_series.AllSeries.range_of_space.Goals as goal

pub loop-group-preserved : goal.loop-group-preserved
loop-group-preserved c =
    let end : c.args.to ≤ c.args.to + 1 = omega arith in
    c.in_ok-push_group.ensures
    (c.loop-group.invariant
    ∙ sym (late_groups c.args.self.now c.args.ns c.args.from c.args.to c.args.to c.loop-group.next c.in-Some.group end c.in-Some.ensures.some.0 c.in-Some.ensures.some.1))

pub returns : goal.returns
returns c wanted =
    let end : c.args.to ≤ c.args.to + 1 = omega arith in
    let whole =
    c.loop-group.invariant ∙ sym (late_rest c.args.self.now c.args.ns c.args.from c.args.to c.args.to c.loop-group.next end (c.next_group.ensures.none c.in_default.is)) in
    subst (λ (es : SeriesEntries). IsRangeOf (points_of (slots_of es)) (pick.Match c.args.ns wanted) c.args.from c.args.to c.in_order.result) c.self.view_is
    (c.in_order.ensures c.args.ns c.args.from c.args.to (subst (λ (es : SeriesEntries). c.loop-group.found.items ≡ flat_map (series_in c.args.ns c.args.from c.args.to) es) (sym c.self.view_is) whole) wanted)
