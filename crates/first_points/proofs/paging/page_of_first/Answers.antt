use Rattle.std.proofs.Common.{◌≡◌, ◌∙◌, ap, sym, subst, refl, arith}
use Rattle.std.proofs.lemmas.Result.{IfOk-weaker}
use Rattle.m3_model.specs.declared.point.Page.{Page}
use Rattle.page_cut.proofs.PastLemmas.{past_none}
use Rattle.page_cut.specs.Pages.{page_from, page_of}
use Rattle.first_points.specs.Firsts.{IsPageOf}
use Rattle.first_points.proofs.PageLemmas.{page_of as page_is}
use Rattle.first_points.proofs.paging.page_of_first.Goals as goal

pub returns : goal.returns
returns k c after h =
    let points = k.args.points.now in
    let found = page_is 64 c after points (omega arith) h in
    IfOk-weaker k.cut.result _ (IsPageOf c after) (λ page is. subst (IsPageOf c after) (sym (is ∙ ap (page_from 64) (past_none points))) (record { first = found.0; next = found.1 })) k.cut.ensures
