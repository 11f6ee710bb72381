use Rattle.std.proofs.Common.{◌≡◌, take, true}
use Rattle.fileset_read.specs.m3_outside.DiskCalls.{LeavesFiles}
use Rattle.fileset_check.specs.Whole.{AreListed}
use Rattle.fileset_check.proofs.listing.check_each.Given as goal

-- the volumes of the checkpoints so far are listed
abbrev pub invariant-loop-name : goal.invariant-loop-name
invariant-loop-name g l = record {
  leaves : LeavesFiles ⊥ (g.D.Disk.state l.fn.disk) (g.D.Disk.state l.disk);
  listed : (g.D.Disk.state l.fn.disk).tells ≡ true → AreListed (g.D.Disk.state l.fn.disk).files (take l.name-index l.names) l.volumes.items;
}
