use Rattle.std.proofs.Common.{◌≡◌, true, take}
use Rattle.m3_outside.specs.DiskCalls.{LeavesFiles}
use Rattle.placement_log.specs.Damage.{FindsStates}
use Rattle.placement_log.specs.States.{MayBeState}
use Rattle.placement_log.proofs.read.read_segments.Given as goal

abbrev pub invariant-loop-number : goal.invariant-loop-number
invariant-loop-number g l = record {
  leaves : LeavesFiles ⊥ (g.D.Disk.state l.fn.disk) (g.D.Disk.state l.disk);
  found : (g.D.Disk.state l.fn.disk).tells ≡ true → FindsStates (take l.number-index l.numbers) (g.D.Disk.state l.fn.disk).files l.fn.last l.last;
  state : MayBeState l.fn.last → MayBeState l.last;
}
