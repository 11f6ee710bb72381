use Rattle.std.proofs.Common.{◌≡◌, ◌++◌, true, take, map}
use Rattle.snapshot_files.specs.m3_outside.DiskCalls.{LeavesFiles}
use Rattle.snapshot_files.specs.shard_files.FilesHold.{volume_points}
use Rattle.shard_open.specs.Loads.{AreOpen, known_of}
use Rattle.shard_open.proofs.volumes.open_each.Given as goal

-- the volumes so far are open, and their points are there
abbrev pub invariant-loop-volume : goal.invariant-loop-volume
invariant-loop-volume g l = record {
  leaves : LeavesFiles ⊥ (g.D.Disk.state l.fn.disk) (g.D.Disk.state l.disk);
  opened : (g.D.Disk.state l.fn.disk).tells ≡ true → AreOpen (g.D.Disk.state l.fn.disk).files (take l.volume-index l.listed) l.found.items;
  points : l.points.items ≡ l.fn.points.items ++ volume_points (map known_of l.found.items);
}
