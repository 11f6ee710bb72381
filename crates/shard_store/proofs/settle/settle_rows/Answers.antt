use Rattle.std.proofs.Common.{◌∙◌, ap, sym}
use Rattle.store_log.specs.listed_volumes.block_buffer.Joins.{points_of_series}
use Rattle.store_log.specs.listed_volumes.block_buffer.Taken.{settled_with}
use Rattle.shard_store.proofs.ListLemmas.{settled_rows_more}
use Rattle.shard_store.proofs.settle.settle_rows.Goals as goal

pub loop-row-preserved : goal.loop-row-preserved
loop-row-preserved c = record {
  room = c.settle.ensures.room;
  points = c.in_ok-settle.ensures.ok ∙ ap (λ m. settled_with m (points_of_series c.args.ns c.row-item.result)) c.loop-row.invariant.points ∙ sym (settled_rows_more c.args.held.now.points c.args.ns c.args.rows.now c.loop-row.row-index c.row-item.result c.loop-row-test.true c.row-item.is);
}
