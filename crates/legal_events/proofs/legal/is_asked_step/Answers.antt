use Rattle.std.proofs.Common.{◌↔◌, true, IsTrue}
use Rattle.std.proofs.lemmas.Result.{IfOk-weaker}
use Rattle.cluster_core.specs.Rows.{LawfulStep}
use Rattle.lawful_steps.specs.NoSums.{GivesNoSums}
use Rattle.legal_events.specs.Sumless.{IsAskedStep}
use Rattle.legal_events.proofs.LegalLemmas.{step_decided}
use Rattle.legal_events.proofs.legal.is_asked_step.Goals as goal

pub returns-in_ok-state-in-Step : goal.returns-in_ok-state-in-Step
returns-in_ok-state-in-Step c =
    let s = c.in-Step in
    let past = c.args.past.now in
    let e = c.args.event.now in
    let r = c.in_ok-state-in-Step.state in
    let is = step_decided past e s.node s.shard s.call s.reply r s.is c.in_ok-state-in-Step.ensures (c.step_was_asked.ensures.0 c.if-not-step_was_asked.false) in
    IfOk-weaker c.is_lawful_step.result (λ b. IsTrue b ↔ (LawfulStep true past s.node s.shard r s.call s.reply × GivesNoSums s.reply)) (λ b. IsTrue b ↔ IsAskedStep past e)
    (λ b h. (λ t. is.0 (h.0 t), λ k. h.1 (is.1 k))) c.is_lawful_step.ensures
