use Rattle.shard_store.proofs.SnapshotLemmas.{one_more_space}
use Rattle.shard_store.proofs.snapshot.points_of.Goals as goal

pub loop-ns-preserved : goal.loop-ns-preserved
loop-ns-preserved c = one_more_space c.loop-ns.ns c.args.held.now.points c.loop-ns.points.items c.append_space.new.points.items c.loop-ns.invariant c.in_ok-append_space.ensures
