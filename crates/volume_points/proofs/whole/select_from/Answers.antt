use Rattle.std.proofs.Common.{◌≡◌, ◌∙◌, List, [], ◌∷◌, ◌++◌, take, ap, sym, subst, false, true}
use Rattle.m3_model.specs.Reads.{IsOrdered}
use Rattle.m3_model.specs.declared.point.Series.{Series}
use Rattle.volume_points.specs.Picked.{IsPicked, IsSelectionOf}
use Rattle.volume_points.proofs.ChosenLemmas.{AreChosen, chosen_more, chosen_none, chosen_ordered, chosen_selected, chosen_still, next_rows}
use Rattle.volume_points.proofs.whole.select_from.Goals as goal
use Rattle.volume_points.proofs.whole.select_from.Goals.{then-is_picked+in_ok-part+in_ok-add, else-is_picked}

pub loop-series-init : goal.loop-series-init
loop-series-init c = subst (λ (l : List Series). AreChosen c.args.pick.now c.args.from c.args.to [] l) (sym c.new-kept.ensures.items) (chosen_none c.args.pick.now c.args.from c.args.to)

pub loop-series-preserved : goal.loop-series-preserved
loop-series-preserved c =
    let pick = c.args.pick.now in
    let from = c.args.from in
    let to = c.args.to in
    let rows = c.args.rows.now in
    let i = c.loop-series.series-index in
    let s = c.series-item.result in
    let kept = c.loop-series.kept.items in
    let next = next_rows rows i s c.loop-series-test.true c.series-item.is in
    subst (λ (l : List Series). AreChosen pick from to l c.if-is_picked.kept.items) next
    (elim c.if-is_picked.branch [
      | then-is_picked+in_ok-part+in_ok-add w ↦
          let asked = subst (IsPicked pick) c.as_str.ensures (c.is_picked.ensures.0 w.if-is_picked.true) in
          chosen_more pick from to (take i rows) kept s c.loop-series.invariant c.if-is_picked.kept.items w.in_ok-part.part w.in_ok-part.ensures (ap (λ v. v.items) w.kept-is ∙ w.in_ok-add.ensures) asked
      | else-is_picked w ↦
          subst (λ (l : List Series). AreChosen pick from to (take i rows ++ s ∷ []) l) (sym (ap (λ v. v.items) w.kept-is))
          (chosen_still pick from to (take i rows) kept s c.loop-series.invariant
          (λ asked. let is = c.is_picked.ensures.1 (subst (IsPicked pick) (sym c.as_str.ensures) asked) in let bad : false ≡ true = sym w.if-is_picked.false ∙ is in cc))
    ])

pub returns-clause-ordered : goal.returns-clause-ordered
returns-clause-ordered c = λ h.
    subst IsOrdered (sym c.from_vec.ensures) (chosen_ordered c.args.pick.now c.args.from c.args.to c.args.rows.now c.loop-series.series-index c.loop-series.kept.items c.loop-series-test.false c.loop-series.invariant h)

pub returns-clause-selection : goal.returns-clause-selection
returns-clause-selection c =
    subst (IsSelectionOf c.args.rows.now c.args.pick.now c.args.from c.args.to) (sym c.from_vec.ensures)
    (chosen_selected c.args.pick.now c.args.from c.args.to c.args.rows.now c.loop-series.series-index c.loop-series.kept.items c.loop-series-test.false c.loop-series.invariant)
