use Rattle.std.proofs.Common.{◌++◌, ◌∙◌, ap, sym, map}
use Rattle.placement_core.proofs.ListLemmas.{at_index}
use Rattle.event_facts.proofs.TestLemmas.{points_more}
use Rattle.event_facts.proofs.points.points_in.Goals as goal

pub loop-one-preserved : goal.loop-one-preserved
loop-one-preserved c =
    let ns = c.args.ns in
    let one = c.one-item.result in
    let at = at_index c.args.series.now c.loop-one.one-index one c.loop-one-test.true c.one-item.is in
    c.in_ok-add_points.ensures ∙ ap (λ points. points ++ map (λ x. record { ns = ns; id = one.id; t = x.0; v = x.1 }) one.points) c.loop-one.invariant
    ∙ sym (points_more ns c.args.series.now c.loop-one.one-index one at)
