use Rattle.std.proofs.Common.{List, ap, ◌∙◌, sym}
use Rattle.m3_model.specs.declared.point.Point.{Point}
use Rattle.page_cut.specs.Pages.{in_order}
use Rattle.page_cut.proofs.PastLemmas.{ascend_from_next, next_from_ascend}
use Rattle.page_cut.proofs.pages.ascend.Goals as goal

pub returns : goal.returns
returns c =
    let is = c.in_order.ensures ∙ ap in_order c.as_slice.ensures in
    ((λ yes. ascend_from_next c.args.points.now (sym is ∙ yes)), (λ up. is ∙ next_from_ascend c.args.points.now up))
