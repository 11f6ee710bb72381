use Rattle.std.proofs.Common.{◌∙◌, ap, map, sym, take}
use Rattle.store_log.specs.listed_volumes.shard_files.FilesHold.{volume_points}
use Rattle.shard_open.specs.Loads.{known_of}
use Rattle.store_log.specs.listed_volumes.block_buffer.Taken.{settled_with}
use Rattle.store_log.specs.listed_volumes.wire_bytes.Volumes.{points_of_rows}
use Rattle.shard_store.proofs.ListLemmas.{settled_volumes_more}
use Rattle.shard_store.proofs.settle.settle_volumes.Goals as goal

pub loop-volume-preserved : goal.loop-volume-preserved
loop-volume-preserved c = record {
  room = c.settle_rows.ensures.room;
  points = c.in_ok-settle_rows.ensures.ok ∙ ap (λ m. settled_with m (points_of_rows c.volume-item.result.volume.head.ns c.as_slice.result.now)) c.loop-volume.invariant.points
      ∙ ap (λ l. settled_with (settled_with c.args.held.now.points (volume_points (map known_of (take c.loop-volume.volume-index c.args.volumes.now)))) (points_of_rows c.volume-item.result.volume.head.ns l)) c.as_slice.ensures ∙ sym (settled_volumes_more c.args.held.now.points c.args.volumes.now c.loop-volume.volume-index c.volume-item.result c.loop-volume-test.true c.volume-item.is);
}
