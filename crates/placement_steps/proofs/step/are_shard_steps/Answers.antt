use Rattle.std.proofs.Common.{◌≡◌, ◌⊎◌, ◌+◌, ◌∙◌, ap, sym, subst, inl, inr, refl, true, false, arith, length, is_some, Some}
use Rattle.std.proofs.lemmas.Option.{slice_get_within}
use Rattle.placement_core.specs.Steps.{IsShardStep}
use Rattle.placement_core.proofs.DoneLemmas.{cursor_moves}
use Rattle.placement_core.proofs.ListLemmas.{at_index}
use Rattle.placement_core.proofs.StepLemmas.{steps_more, no_true}
use Rattle.placement_steps.proofs.step.are_shard_steps.Goals as goal
use Rattle.placement_steps.proofs.step.are_shard_steps.Goals.{then-is_some, else-is_some}

pub returns : goal.returns
returns c = (λ t s a b at_old at_next. c.loop-number.invariant.1 s a b (omega (arith, slice_get_within c.args.old.now s a at_old, c.loop-number-test.false)) at_old at_next, λ all. refl)

pub loop-number-preserved : goal.loop-number-preserved
loop-number-preserved c =
    let number = c.loop-number.number in
    let Way = ((is_some c.joining_of-joining.result ≡ true) × (c.if-is_some.at ≡ c.loop-number.at + 1)) ⊎ ((is_some c.joining_of-joining.result ≡ false) × (c.if-is_some.at ≡ c.loop-number.at)) in
    let way : Way = elim c.if-is_some.branch as (λ _. Way) [ then-is_some w ↦ inl (sym c.is_some.ensures ∙ w.if-is_some.true, w.at-is) | else-is_some w ↦ inr (sym c.is_some.ensures ∙ w.if-is_some.false, w.at-is) ] in
    let moved = cursor_moves c.args.done.now c.loop-number.at c.if-is_some.at number (length c.args.old.now) c.joining_of-joining.result c.loop-number.invariant.0 c.joining_of-joining.ensures.found c.joining_of-joining.ensures.other way in
    let at_old = at_index c.args.old.now number c.index-old-number.result c.loop-number-test.true c.index-old-number.is ∙ ap Some (sym c.as_slice.ensures) in
    let at_next = at_index c.args.next.now number c.index-next-number.result (omega (arith, c.loop-number-test.true, c.requires.count)) c.index-next-number.is ∙ ap Some (sym c.as_slice-is.ensures) in
    let step = c.is_shard_step.ensures.0 c.if-not-is_shard_step.false in
    (moved.0, steps_more c.args.version c.args.old.now c.args.next.now c.args.done.now number c.as_slice.result.now c.as_slice-is.result.now c.joining_of-joining.result at_old at_next moved.1 step c.loop-number.invariant.1)

pub returns-then-not-is_shard_step : goal.returns-then-not-is_shard_step
returns-then-not-is_shard_step c =
    let number = c.loop-number.number in
    let Way = ((is_some c.joining_of-joining.result ≡ true) × (c.if-is_some.at ≡ c.loop-number.at + 1)) ⊎ ((is_some c.joining_of-joining.result ≡ false) × (c.if-is_some.at ≡ c.loop-number.at)) in
    let way : Way = elim c.if-is_some.branch as (λ _. Way) [ then-is_some w ↦ inl (sym c.is_some.ensures ∙ w.if-is_some.true, w.at-is) | else-is_some w ↦ inr (sym c.is_some.ensures ∙ w.if-is_some.false, w.at-is) ] in
    let moved = cursor_moves c.args.done.now c.loop-number.at c.if-is_some.at number (length c.args.old.now) c.joining_of-joining.result c.loop-number.invariant.0 c.joining_of-joining.ensures.found c.joining_of-joining.ensures.other way in
    let at_old = at_index c.args.old.now number c.index-old-number.result c.loop-number-test.true c.index-old-number.is ∙ ap Some (sym c.as_slice.ensures) in
    let at_next = at_index c.args.next.now number c.index-next-number.result (omega (arith, c.loop-number-test.true, c.requires.count)) c.index-next-number.is ∙ ap Some (sym c.as_slice-is.ensures) in (
      λ t. absurd (no_true false refl t),
      λ all. absurd (no_true c.is_shard_step.result c.if-not-is_shard_step.true (c.is_shard_step.ensures.1 (subst (IsShardStep c.args.version c.as_slice.result.now c.as_slice-is.result.now) moved.1 (all number c.as_slice.result.now c.as_slice-is.result.now at_old at_next)))),
    )
