use Rattle.std.proofs.Common.{◌≡◌, true, take}
use Rattle.std.specs.Prelude.{filter}
use Rattle.shard_files.specs.m3_outside.DiskCalls.{LeavesFiles}
use Rattle.fileset_read.specs.Volumes.{is_counted}
use Rattle.fileset_read.proofs.names.keep_counted.Given as goal

-- of the first names those are kept that count
abbrev pub invariant-loop-name : goal.invariant-loop-name
invariant-loop-name g l = record {
  leaves : LeavesFiles ⊥ (g.D.Disk.state l.fn.disk) (g.D.Disk.state l.disk);
  kept : (g.D.Disk.state l.fn.disk).tells ≡ true → l.names.items ≡ filter (is_counted (g.D.Disk.state l.fn.disk).files) (take l.name-index l.all);
}
