use Rattle.std.proofs.Common.{ap, ◌∙◌, nat_eq}
use Rattle.std.specs.Cmp.Lexicographic.{pointwise}
use Rattle.placement_core.proofs.ListLemmas.{at_index}
use Rattle.placement_plan.proofs.NodeLemmas.{lists_at}
use Rattle.placement_plan.proofs.nodes.listed_node.Goals as goal

pub returns-then-eq-clause-found : goal.returns-then-eq-clause-found
returns-then-eq-clause-found c =
    let i = c.index-instances-number.result in
    let instances = c.args.instances.now in
    lists_at instances c.args.name.now c.loop-number.number i c.eq.result (at_index instances c.loop-number.number i c.loop-number-test.true c.index-instances-number.is) c.if-instance.true
    (c.eq.ensures ∙ ap (pointwise nat_eq c.args.name.now) c.as_str.ensures) c.if-eq.true
