use Rattle.std.proofs.Common.{[], ◌∷◌, ◌++◌, sym, ap, ◌∙◌}
use Rattle.std.specs.Prelude.{Some, None}
use Rattle.session_net.specs.Outcomes.{refusing}
use Rattle.session_net.proofs.ToldLemmas.{refusing_push, append_none}
use Rattle.session_net.proofs.tally.Tally.add.Goals as goal

pub returns-in-None-clause-reasons : goal.returns-in-None-clause-reasons
returns-in-None-clause-reasons c told before =
    before ∙ sym (ap (λ o. refusing (told ++ (c.args.node, o) ∷ [])) c.in-None.is ∙ refusing_push told (c.args.node, None) ∙ append_none (refusing told))

pub returns-in-Some-clause-reasons : goal.returns-in-Some-clause-reasons
returns-in-Some-clause-reasons c told before =
    c.push_reserved-in-Some.ensures.items ∙ ap (λ xs. xs ++ (c.args.node, c.in-Some.why) ∷ []) before
    ∙ sym (ap (λ o. refusing (told ++ (c.args.node, o) ∷ [])) c.in-Some.is ∙ refusing_push told (c.args.node, Some c.in-Some.why))
