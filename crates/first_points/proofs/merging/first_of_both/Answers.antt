use Rattle.std.proofs.Common.{◌≡◌, sym, subst, ap, ◌∙◌, List}
use Rattle.m3_model.specs.declared.point.Point.{Point}
use Rattle.first_points.specs.Firsts.{AreFirst}
use Rattle.first_points.specs.Merges.{IsPartOfFirsts}
use Rattle.first_points.proofs.merging.first_of_both.Goals as goal

pub steps-preserved : goal.steps-preserved
steps-preserved k c d both after join one other = k.in_ok-step.ensures.part c d both after join (k.steps.invariant c d both after join one other)

pub returns : goal.returns
returns k c d both after join one other =
    subst (AreFirst both after k.args.limit) (sym k.from_vec-3.ensures) (k.in_ok-step.ensures.ends k.if-branch.false c d both after join (k.steps.invariant c d both after join one other))
