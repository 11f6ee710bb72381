use Rattle.std.proofs.Common.{◌≡◌, true, take}
use Rattle.snapshot_files.specs.m3_outside.DiskCalls.{LeavesFiles}
use Rattle.snapshot_files.specs.shard_files.Loading.{FindsEntries}
use Rattle.shard_open.proofs.log.read_segments.Given as goal

abbrev pub invariant-loop-number : goal.invariant-loop-number
invariant-loop-number g l = record {
  leaves : LeavesFiles ⊥ (g.D.Disk.state l.fn.disk) (g.D.Disk.state l.disk);
  found : (g.D.Disk.state l.fn.disk).tells ≡ true → FindsEntries (take l.number-index l.numbers) (g.D.Disk.state l.fn.disk).files l.fn.entries.items l.entries.items;
}
