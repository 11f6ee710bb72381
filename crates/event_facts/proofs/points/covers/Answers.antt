use Rattle.std.proofs.Common.{◌↔◌, [], ◌∷◌, rules, Any, IsTrue}
use Rattle.m3_model.specs.Reads.{Covers}
use Rattle.event_facts.proofs.TestLemmas.{covers_any}
use Rattle.event_facts.proofs.points.covers.Goals as goal

pub returns : goal.returns
returns c =
    let told : IsTrue c.any.result ↔ Any (λ p. Covers (p ∷ []) c.args.point.now) c.args.points.now = search rules in
    let is = covers_any c.args.points.now c.args.point.now in
    (λ t. is.0 (told.0 t), λ h. told.1 (is.1 h))
