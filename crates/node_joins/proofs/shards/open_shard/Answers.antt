use Rattle.std.proofs.Common.{sym, ◌∙◌}
use Rattle.node_joins.proofs.ShardLemmas.{assignment_at, assignment_is, not_asked, not_there, tenure_given, tried_there}
use Rattle.node_joins.proofs.shards.open_shard.Goals as goal
use Rattle.placement_core.specs.Shards.{shard_at}

pub returns-then-not-is_covering-clause-tried : goal.returns-then-not-is_covering-clause-tried
returns-then-not-is_covering-clause-tried g c = not_asked g.D.Disk.state c.args.node c.args.asked c.args.place.now c.args.shard c.args.replicas.now (sym c.is_covering.ensures ∙ c.if-not-is_covering.true)

pub open_one-requires-clause-among : goal.open_one-requires-clause-among
open_one-requires-clause-among g c =
    (assignment_is c.args.node (shard_at c.args.place.now c.args.shard) c.in-Some.own
    (assignment_at c.args.place.now c.args.node c.args.shard c.as_slice.result.now c.index-as_slice-shard.result c.as_slice-2.result.now _ c.assignment_in.result c.as_slice.ensures c.requires.below c.index-as_slice-shard.is c.as_slice-2.ensures c.assignment_in.ensures ∙ c.in-Some.is)).0

pub open_one-requires-clause-tenure : goal.open_one-requires-clause-tenure
open_one-requires-clause-tenure g c =
    let own =
    assignment_is c.args.node (shard_at c.args.place.now c.args.shard) c.in-Some.own
    (assignment_at c.args.place.now c.args.node c.args.shard c.as_slice.result.now c.index-as_slice-shard.result c.as_slice-2.result.now _ c.assignment_in.result c.as_slice.ensures c.requires.below c.index-as_slice-shard.is c.as_slice-2.ensures c.assignment_in.ensures ∙ c.in-Some.is) in
    tenure_given c.args.place.now c.args.node c.args.shard c.in-Some.own (c.args.replicas.now).events c.requires.placed c.requires.below own.0 own.1

pub returns-in-Some-clause-tried : goal.returns-in-Some-clause-tried
returns-in-Some-clause-tried g c =
    tried_there g.D.Disk.state c.args.node c.args.asked c.args.place.now c.args.shard c.in-Some.own c.args.replicas.now c.open_one.new.replicas c.open_one.result (sym c.is_covering.ensures ∙ c.if-not-is_covering.false)
    (assignment_at c.args.place.now c.args.node c.args.shard c.as_slice.result.now c.index-as_slice-shard.result c.as_slice-2.result.now _ c.assignment_in.result c.as_slice.ensures c.requires.below c.index-as_slice-shard.is c.as_slice-2.ensures c.assignment_in.ensures ∙ c.in-Some.is)
    c.open_one.ensures.tried

pub returns-in-None-clause-tried : goal.returns-in-None-clause-tried
returns-in-None-clause-tried g c =
    not_there g.D.Disk.state c.args.node c.args.asked c.args.place.now c.args.shard c.args.replicas.now (sym c.is_covering.ensures ∙ c.if-not-is_covering.false)
    (assignment_at c.args.place.now c.args.node c.args.shard c.as_slice.result.now c.index-as_slice-shard.result c.as_slice-2.result.now _ c.assignment_in.result c.as_slice.ensures c.requires.below c.index-as_slice-shard.is c.as_slice-2.ensures c.assignment_in.ensures ∙ c.in-None.is)
