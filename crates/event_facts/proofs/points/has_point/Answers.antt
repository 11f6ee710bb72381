use Rattle.std.proofs.Common.{◌≡◌, ◌↔◌, rules, Any, IsTrue}
use Rattle.event_facts.proofs.TestLemmas.{any_in}
use Rattle.event_facts.proofs.points.has_point.Goals as goal

pub returns : goal.returns
returns c =
    let told : IsTrue c.any.result ↔ Any (λ p. p ≡ c.args.point.now) c.args.points.now = search rules in
    let is = any_in c.args.points.now c.args.point.now in
    (λ t. is.0 (told.0 t), λ h. told.1 (is.1 h))
