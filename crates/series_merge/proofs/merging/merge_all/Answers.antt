use Rattle.std.proofs.Common.{sym, subst}
use Rattle.series_merge.specs.Merges.{IsMergeOf}
use Rattle.series_merge.proofs.RunLemmas.{merge_ends}
use Rattle.series_merge.proofs.merging.merge_all.Goals as goal

pub steps-preserved : goal.steps-preserved
steps-preserved c = c.in_ok-step.ensures.part c.args.one c.args.other c.steps.invariant

pub returns : goal.returns
returns c =
    let left = c.in_ok-step.ensures.ends c.if-branch.false in
    let now = c.step.new.self in
    subst (IsMergeOf c.args.one c.args.other) (sym c.from_vec-3.ensures)
    (merge_ends c.args.one c.args.other now.done.items now.one.items now.other.items (c.in_ok-step.ensures.part c.args.one c.args.other c.steps.invariant) left.0 left.1)
