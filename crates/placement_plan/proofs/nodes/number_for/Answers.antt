use Rattle.std.proofs.Common.{inl}
use Rattle.placement_core.proofs.OrderLemmas.{at_in}
use Rattle.placement_plan.proofs.nodes.number_for.Goals as goal

pub returns-in-Some-clause-ok : goal.returns-in-Some-clause-ok
returns-in-Some-clause-ok c =
    let named = c.in-Some.ensures.found in
    (inl named, λ new. absurd (new named.instance (at_in c.args.instances.now c.in-Some.node named.instance named.stands) named.named))
