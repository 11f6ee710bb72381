use Rattle.std.proofs.Common.{◌↔◌, ◌<◌, length, rules, All, IsTrue}
use Rattle.m3_model.specs.Ascends.{Ascends}
use Rattle.event_facts.proofs.TestLemmas.{ordered_decided}
use Rattle.event_facts.proofs.ascending.is_ordered.Goals as goal

pub returns-then-ascend : goal.returns-then-ascend
returns-then-ascend c =
    let told : IsTrue c.all.result ↔ All (λ s. Ascends (λ a b. a.0 < b.0) s.points × (0 < length s.points)) c.args.series.now = search rules in
    let is = ordered_decided c.args.series.now (c.ascend.ensures.0 c.if-ascend.true) in
    (λ t. is.0 (told.0 t), λ h. told.1 (is.1 h))
