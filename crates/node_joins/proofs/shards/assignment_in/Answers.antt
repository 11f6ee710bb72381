use Rattle.std.proofs.Common.{sym}
use Rattle.node_joins.proofs.ShardLemmas.{assignment_here, assignment_more}
use Rattle.node_joins.proofs.shards.assignment_in.Goals as goal

pub returns-then-assignment-node : goal.returns-then-assignment-node
returns-then-assignment-node c = sym (assignment_here c.args.node c.args.shard.now c.loop-assignment.assignment-index _ c.loop-assignment-test.true c.loop-assignment.invariant c.if-assignment-node.true)

pub loop-assignment-preserved : goal.loop-assignment-preserved
loop-assignment-preserved c = assignment_more c.args.node c.args.shard.now c.loop-assignment.assignment-index _ c.loop-assignment-test.true c.loop-assignment.invariant c.if-assignment-node.false
