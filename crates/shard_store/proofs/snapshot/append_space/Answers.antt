use Rattle.shard_store.proofs.SnapshotLemmas.{adds_space}
use Rattle.shard_store.proofs.snapshot.append_space.Goals as goal

pub returns : goal.returns
returns c = adds_space c.append_rows.result c.args.ns c.args.held.now.points c.args.points.now.items c.append_rows.new.points.items c.in_ok-rows.rows c.as_slice.result.now c.in_ok-rows.ensures c.as_slice.ensures c.append_rows.ensures
