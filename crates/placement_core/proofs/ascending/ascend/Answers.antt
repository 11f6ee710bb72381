use Rattle.std.proofs.Common.{◌+◌, refl, false, sym, subst, All}
use Rattle.std.proofs.lemmas.List.{take_rest}
use Rattle.placement_core.proofs.ListLemmas.{at_index}
use Rattle.placement_core.proofs.StepLemmas.{no_true}
use Rattle.placement_core.proofs.AscendLemmas.{ascends_next}
use Rattle.placement_core.proofs.ascending.ascend.Goals as goal

pub returns-then-not-is_first : goal.returns-then-not-is_first
returns-then-not-is_first g c =
    let items = c.args.items.now in
    let position = c.loop-position.position in
    let first = c.index-items-position.result in
    let next = ascends_next g.O.Order.before items position first (at_index items position first c.loop-position-test.true c.index-items-position.is) in
    (λ t. absurd (no_true false refl t), λ h. absurd (no_true c.is_first.result c.if-not-is_first.true (c.is_first.ensures.1 (subst (All (g.O.Order.before first)) (sym (take_rest items (position + 1))) (next.0 (c.loop-position.invariant.0 h)).0))))

pub loop-position-preserved : goal.loop-position-preserved
loop-position-preserved g c =
    let items = c.args.items.now in
    let position = c.loop-position.position in
    let first = c.index-items-position.result in
    let next = ascends_next g.O.Order.before items position first (at_index items position first c.loop-position-test.true c.index-items-position.is) in
    (λ h. (next.0 (c.loop-position.invariant.0 h)).1, λ h. c.loop-position.invariant.1 (next.1 (subst (All (g.O.Order.before first)) (take_rest items (position + 1)) (c.is_first.ensures.0 c.if-not-is_first.false), h)))
