use Rattle.std.proofs.Common.{◌≡◌, ap, sym, subst}
use Rattle.std.specs.Option.{option_copied}
use Rattle.m3_model.specs.declared.point.Page.{Page}
use Rattle.first_points.specs.Firsts.{AreFirst}
use Rattle.first_points.proofs.PastLemmas.{first_of_page}
use Rattle.first_points.proofs.listed.first_of_points.Goals as goal

pub returns : goal.returns
returns k c same =
    let after = option_copied k.args.after in
    subst (λ (p : Page). AreFirst c after k.args.limit p.points) (sym k.in_ok-page.ensures) (first_of_page k.args.limit c after k.args.points.now k.requires.ascend same)
