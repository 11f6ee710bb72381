use Rattle.std.proofs.Common.{◌≡◌, None, take, map}
use Rattle.store_log.specs.listed_volumes.block_buffer.Taken.{settled_with}
use Rattle.store_log.specs.listed_volumes.shard_files.FilesHold.{volume_points}
use Rattle.shard_open.specs.Loads.{known_of}
use Rattle.shard_store.proofs.settle.settle_volumes.Given as goal

abbrev pub invariant-loop-volume : goal.invariant-loop-volume
invariant-loop-volume l = record {
  room : l.held.room ≡ None;
  points : l.held.points ≡ settled_with l.fn.held.points (volume_points (map known_of (take l.volume-index l.volumes)));
}
