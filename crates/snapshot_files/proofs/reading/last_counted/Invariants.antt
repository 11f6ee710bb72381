use Rattle.std.proofs.Common.{◌≡◌, true, take}
use Rattle.std.specs.Prelude.{filter}
use Rattle.fileset_check.specs.m3_outside.DiskCalls.{LeavesFiles}
use Rattle.fileset_check.specs.shard_files.Damage.{last_of}
use Rattle.snapshot_files.specs.Told.{checkpoint_of, is_counted}
use Rattle.snapshot_files.proofs.reading.last_counted.Given as goal

-- of the first names the last one that counts is found
abbrev pub invariant-loop-name : goal.invariant-loop-name
invariant-loop-name g l = record {
  leaves : LeavesFiles ⊥ (g.D.Disk.state l.fn.disk) (g.D.Disk.state l.disk);
  found : (g.D.Disk.state l.fn.disk).tells ≡ true → last_of (filter (is_counted (g.D.Disk.state l.fn.disk).files) (take l.name-index l.names)) ≡ checkpoint_of l.last;
}
