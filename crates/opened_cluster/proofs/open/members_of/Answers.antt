use Rattle.std.proofs.Common.{ap, arith, false, length, subst, sym, ◌∙◌}
use Rattle.std.proofs.lemmas.List.{length-replicate}
use Rattle.opened_cluster.proofs.FieldLemmas.{few_shards, sized, slots_few}
use Rattle.opened_cluster.proofs.open.members_of.Goals as goal

pub invariant_of-result-clause-sizes : goal.invariant_of-result-clause-sizes
invariant_of-result-clause-sizes g c = sized c.args.state c.requires.state

pub invariant_of-result-clause-few_nodes : goal.invariant_of-result-clause-few_nodes
invariant_of-result-clause-few_nodes g c = c.requires.state.place.limits.few_nodes

pub invariant_of-result-clause-few_slots : goal.invariant_of-result-clause-few_slots
invariant_of-result-clause-few_slots g c = slots_few c.args.state.place c.args.plan.slots.items c.requires.state.place c.requires.plan.slots

pub invariant_of-result-clause-one_each : goal.invariant_of-result-clause-one_each
invariant_of-result-clause-one_each g c = ap length c.requires.plan.stopped ∙ length-replicate (length c.args.state.place.instances) false
