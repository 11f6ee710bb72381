use Rattle.std.proofs.Common.{◌≡◌, true, take}
use Rattle.log_chunks.specs.m3_outside.DiskCalls.{LeavesFiles}
use Rattle.commit_log.specs.Reading.{FindsAll}
use Rattle.commit_log.proofs.read.read_segments.Given as goal

abbrev pub invariant-loop-number : goal.invariant-loop-number
invariant-loop-number g l = record {
  leaves : LeavesFiles ⊥ (g.D.Disk.state l.fn.disk) (g.D.Disk.state l.disk);
  found : (g.D.Disk.state l.fn.disk).tells ≡ true → FindsAll (take l.number-index l.numbers) (g.D.Disk.state l.fn.disk).files l.fn.chunks.items l.chunks.items;
}
