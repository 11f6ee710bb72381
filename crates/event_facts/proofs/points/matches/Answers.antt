use Rattle.std.proofs.Common.{◌≡◌, ◌↔◌, rules, subst, sym, All, IsTrue}
use Rattle.m3_model.specs.Reads.{Matches}
use Rattle.cluster_core.specs.Answers.{HoldsOf}
use Rattle.m3_model.specs.declared.point.Pick.{Pick}
use Rattle.m3_model.specs.declared.point.Pick.TheVariants as pick
use Rattle.event_facts.proofs.TestLemmas.{matchers_decided}
use Rattle.event_facts.proofs.points.matches.Goals as goal

pub returns-then-point-ns-2 : goal.returns-then-point-ns-2
returns-then-point-ns-2 c =
    let point = c.args.point.now in
    let told : IsTrue c.all.result ↔ All (HoldsOf point.id) c.in-Match.wanted = search rules in
    let is = matchers_decided point.id c.in-Match.wanted in
    let asks : c.args.pick.now ≡ pick.Match c.in-Match.ns c.in-Match.wanted = c.in-Match.is in (
      λ t. subst (λ (k : Pick). Matches k point) (sym asks) (c.if-point-ns-2.true, is.0 (told.0 t)),
      λ h. told.1 (is.1 (subst (λ (k : Pick). Matches k point) asks h).1),
    )
