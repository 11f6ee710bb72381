use Rattle.std.proofs.Common.{sym, subst}
use Rattle.std.specs.Option.{option_copied}
use Rattle.first_points.specs.Firsts.{AreFirst}
use Rattle.held_pages.proofs.walk.first_held.Goals as goal

pub steps-init : goal.steps-init
steps-init c ends = c.in_ok-walk.ensures c.args.held.now.points c.args.limit ends

pub steps-preserved : goal.steps-preserved
steps-preserved c ends = c.in_ok-step.ensures.part ends (option_copied c.args.last) (c.steps.invariant ends)

pub returns : goal.returns
returns c ends =
    subst (AreFirst c.args.held.now.points (option_copied c.args.last) c.args.limit) (sym c.from_vec.ensures) (c.in_ok-step.ensures.ends c.if-branch.false (option_copied c.args.last) (c.steps.invariant ends))
