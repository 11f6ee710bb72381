use Rattle.std.proofs.Common.{◌≡◌, ℕ, ◌+◌, length, true}
use Rattle.fileset_read.specs.m3_outside.DiskCalls.{LeavesFiles}
use Rattle.fileset_check.proofs.PartLemmas.{ArePartsBelow}
use Rattle.fileset_check.proofs.parts.read_parts.Given as goal

-- the files of the kinds before this one are read
abbrev pub invariant-loop-kind : goal.invariant-loop-kind
invariant-loop-kind g l = record {
  leaves : LeavesFiles ⊥ (g.D.Disk.state l.fn.disk) (g.D.Disk.state l.disk);
  long : length l.parts.items + 1 ≡ l.kind;
  read : (g.D.Disk.state l.fn.disk).tells ≡ true → ArePartsBelow l.of (g.D.Disk.state l.fn.disk).files l.kind l.parts.items;
}
