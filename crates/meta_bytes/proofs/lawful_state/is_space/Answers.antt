use Rattle.std.proofs.Common.{sym, ap, ◌∙◌, ◌≡◌, true}
use Rattle.m3_model.specs.Names.{is_name}
use Rattle.placement_core.proofs.StepLemmas.{no_true}
use Rattle.meta_bytes.proofs.RuleLemmas.{space_decided}
use Rattle.meta_bytes.proofs.lawful_state.is_space.Goals as goal

pub returns-then-is_name : goal.returns-then-is_name
returns-then-is_name c =
    let is = space_decided c.args.space.now in
    let named : is_name c.args.space.now.name ≡ true = sym (c.is_name.ensures ∙ ap is_name c.as_str.ensures) ∙ c.if-is_name.true in
    (λ t. is.0 (named, c.has_durations.ensures.0 t), λ h. c.has_durations.ensures.1 (is.1 h).1)

pub returns-else-is_name : goal.returns-else-is_name
returns-else-is_name c =
    let is = space_decided c.args.space.now in
    let named = c.is_name.ensures ∙ ap is_name c.as_str.ensures in
    (λ t. absurd (no_true c.is_name.result c.if-is_name.false t), λ h. absurd (no_true c.is_name.result c.if-is_name.false (named ∙ (is.1 h).0)))
