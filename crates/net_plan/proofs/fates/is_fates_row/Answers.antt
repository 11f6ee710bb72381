use Rattle.std.proofs.Common.{◌≡◌, ◌≢◌, true, false, sym, ap, ◌∙◌, subst, rules}
use denote.Enum.Bare.{sameb, same_true}
use Rattle.m3_model.specs.contracts.act.Fate.{the_type}
use Rattle.m3_model.specs.declared.act.Fate.{Fate}
use Rattle.m3_model.specs.declared.act.Fate.TheVariants.{Deliver}
use Rattle.net_plan.specs.Fates.{key_of, IsFatesRow}
use Rattle.net_plan.proofs.ItemLemmas.{has_item_of, later_row, more_row, delivered_item, repeated_item}
use Rattle.net_plan.proofs.fates.is_fates_row.Goals as goal
use Rattle.net_plan.proofs.fates.is_fates_row.Goals.{then-eq-via-then-eq, then-eq-via-else-eq+then-has_item_of}

pub returns-then-eq : goal.returns-then-eq
returns-then-eq c =
    let item = c.in-Some.item.now in
    let later = c.in-Some.later.now in
    elim c.then-eq.branch [
      | then-eq-via-then-eq w ↦ (
        (λ no. cc),
        (λ row.
            let is : item.3 ≡ Deliver = same_true the_type (search rules) _ _ (sym w.if-eq.ensures) in
            absurd (delivered_item item later is (subst IsFatesRow c.in-Some.ensures.cases.0 (c.loop-item.invariant.1 row)))),
      )
      | then-eq-via-else-eq+then-has_item_of w ↦ (
        (λ no. cc),
        (λ row.
            let has : has_item_of (key_of item) later ≡ true = ap (λ key. has_item_of key later) (sym w.key_of.ensures) ∙ sym w.if-has_item_of.ensures in
            absurd (repeated_item item later has (subst IsFatesRow c.in-Some.ensures.cases.0 (c.loop-item.invariant.1 row)))),
      )
    ]

pub loop-item-preserved : goal.loop-item-preserved
loop-item-preserved c =
    let item = c.in-Some.item.now in
    let later = c.in-Some.later.now in
    let other : item.3 ≢ Deliver = λ is. let clash : false ≡ true = c.if-eq.ensures ∙ ap (λ (fate : Fate). sameb the_type fate Deliver) is in cc in
    let alone : has_item_of (key_of item) later ≡ false = ap (λ key. has_item_of key later) (sym c.key_of.ensures) ∙ sym c.if-has_item_of.ensures in (
      (λ row. c.loop-item.invariant.0 (subst IsFatesRow (sym c.in-Some.ensures.cases.0) (more_row item later other alone row))),
      (λ row. later_row item later (subst IsFatesRow c.in-Some.ensures.cases.0 (c.loop-item.invariant.1 row))),
    )
