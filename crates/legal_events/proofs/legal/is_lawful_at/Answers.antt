use Rattle.std.proofs.Common.{◌↔◌, true, IsTrue, arith}
use Rattle.std.proofs.lemmas.Result.{IfOk-weaker}
use Rattle.cluster_core.specs.Legal.{Lawful, LawfulAt}
use Rattle.legal_events.specs.Sumless.{HasNoSums}
use Rattle.legal_events.proofs.LegalLemmas.{lawful_later}
use Rattle.legal_events.proofs.legal.is_lawful_at.Goals as goal

pub returns-in_default : goal.returns-in_default
returns-in_default c =
    let past = c.args.past.now in
    let e = c.args.event.now in
    let is = lawful_later true c.args.position past e (omega arith) in
    IfOk-weaker c.is_lawful_event.result (λ b. IsTrue b ↔ (Lawful true past e × HasNoSums e)) (λ b. IsTrue b ↔ (LawfulAt true c.args.position past e × HasNoSums e))
    (λ b h. (λ t. let l = h.0 t in (is.1 l.0, l.1), λ k. h.1 (is.0 k.0, k.1))) c.is_lawful_event.ensures
