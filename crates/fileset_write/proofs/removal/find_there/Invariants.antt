use Rattle.std.proofs.Common.{◌≡◌, ◌≤◌, true, length, take, drop}
use Rattle.shard_files.specs.m3_outside.DiskCalls.{LeavesFiles}
use Rattle.shard_files.specs.Steps.{those_there}
use Rattle.fileset_write.proofs.removal.find_there.Given as goal

-- of the first names those are in front whose files are there
abbrev pub invariant-loop-i : goal.invariant-loop-i
invariant-loop-i g l = record {
  leaves : LeavesFiles ⊥ (g.D.Disk.state l.fn.disk) (g.D.Disk.state l.disk);
  long : length l.names ≡ length l.fn.names;
  few : l.count ≤ l.i;
  kept : (g.D.Disk.state l.fn.disk).tells ≡ true → take l.count l.names ≡ those_there (take l.i l.fn.names) (g.D.Disk.state l.fn.disk).files;
  rest : drop l.i l.names ≡ drop l.i l.fn.names;
}
