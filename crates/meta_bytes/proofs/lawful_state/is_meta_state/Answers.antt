use Rattle.placement_core.proofs.StepLemmas.{no_true}
use Rattle.meta_bytes.proofs.RuleLemmas.{state_decided}
use Rattle.meta_bytes.proofs.lawful_state.is_meta_state.Goals as goal

pub returns-then-has_moment : goal.returns-then-has_moment
returns-then-has_moment c =
    let is = state_decided c.args.state.now in
    (λ t. is.0 (c.has_moment.ensures.0 c.if-has_moment.true, c.has_parts.ensures.0 t), λ h. c.has_parts.ensures.1 (is.1 h).1)

pub returns-else-has_moment : goal.returns-else-has_moment
returns-else-has_moment c =
    let is = state_decided c.args.state.now in
    (λ t. absurd (no_true c.has_moment.result c.if-has_moment.false t), λ h. absurd (no_true c.has_moment.result c.if-has_moment.false (c.has_moment.ensures.1 (is.1 h).0)))
