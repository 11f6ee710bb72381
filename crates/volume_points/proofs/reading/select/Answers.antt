use Rattle.std.proofs.Common.{◌≡◌, sym, subst}
use Rattle.std.proofs.lemmas.Result.{IfOk-weaker}
use Rattle.m3_model.specs.Reads.{IsOrdered}
use Rattle.std.specs.List.{filter_map}
use Rattle.volume_points.specs.Picked.{IsSelectionOf, cut_series}
use Rattle.volume_points.proofs.PickedLemmas.{cut_part, parts_ordered, selected}
use Rattle.volume_points.proofs.reading.select.Goals as goal

pub returns-clause-ordered : goal.returns-clause-ordered
returns-clause-ordered c = λ h.
    let f = cut_series c.args.from c.args.to in
    IfOk-weaker c.cut.result (λ series. series ≡ filter_map f c.picked.result) IsOrdered
    (λ series is. subst IsOrdered (sym is) (parts_ordered f (cut_part c.args.from c.args.to) c.picked.result (c.picked.ensures.ascending h))) c.cut.ensures

pub returns-clause-selection : goal.returns-clause-selection
returns-clause-selection c =
    let f = cut_series c.args.from c.args.to in
    IfOk-weaker c.cut.result (λ series. series ≡ filter_map f c.picked.result) (IsSelectionOf c.args.found c.args.pick.now c.args.from c.args.to)
    (λ series is. subst (IsSelectionOf c.args.found c.args.pick.now c.args.from c.args.to) (sym is) (selected c.args.found c.picked.result c.args.pick.now c.args.from c.args.to c.picked.ensures.exact)) c.cut.ensures
