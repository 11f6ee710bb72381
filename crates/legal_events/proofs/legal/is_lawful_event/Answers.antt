use Rattle.std.proofs.Common.{◌↔◌, ℕ, List, subst, true, IsTrue}
use Rattle.std.specs.Prelude.{IfOk}
use Rattle.m3_model.specs.declared.point.Series.{Series}
use Rattle.std.proofs.lemmas.Result.{IfOk-weaker}
use Rattle.cluster_core.specs.Legal.{IsFetched, Lawful}
use Rattle.legal_events.specs.Sumless.{IsAskedStep, HasNoSums}
use Rattle.legal_events.proofs.LegalLemmas.{step_lawful, fetch_lawful}
use Rattle.legal_events.proofs.legal.is_lawful_event.Goals as goal

pub returns-in-Step : goal.returns-in-Step
returns-in-Step c =
    let s = c.in-Step in
    let past = c.args.past.now in
    let e = c.args.event.now in
    let is = step_lawful past e s.node s.shard s.call s.reply s.is in
    IfOk-weaker c.is_asked_step.result (λ b. IsTrue b ↔ IsAskedStep past e) (λ b. IsTrue b ↔ (Lawful true past e × HasNoSums e))
    (λ b h. (λ t. is.0 (h.0 t), λ k. h.1 (is.1 k))) c.is_asked_step.ensures

pub returns-in-FetchDone : goal.returns-in-FetchDone
returns-in-FetchDone c =
    let f = c.in-FetchDone in
    let past = c.args.past.now in
    let e = c.args.event.now in
    let r = c.is_fetched.result in
    let nodes = subst (λ (ns : List ℕ). IfOk r (λ b. IsTrue b ↔ IsFetched past f.start ns c.as_slice-in-FetchDone-2.result.now)) c.as_slice-in-FetchDone.ensures c.is_fetched.ensures in
    let told = subst (λ (answer : List Series). IfOk r (λ b. IsTrue b ↔ IsFetched past f.start f.nodes answer)) c.as_slice-in-FetchDone-2.ensures nodes in
    let is = fetch_lawful past e f.start f.nodes f.series f.is in
    IfOk-weaker r (λ b. IsTrue b ↔ IsFetched past f.start f.nodes f.series) (λ b. IsTrue b ↔ (Lawful true past e × HasNoSums e))
    (λ b h. (λ t. is.0 (h.0 t), λ k. h.1 (is.1 k))) told
