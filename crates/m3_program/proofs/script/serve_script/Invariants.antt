use Rattle.std.proofs.Common.{◌≤◌, length}
use Rattle.load_gen.specs.Left.{requests_left}
use Rattle.saved_cluster.specs.Saved.{MayServeSaved}
use Rattle.m3_program.specs.Rounds.{Goes}
use Rattle.m3_program.specs.Streams.{opening_at, stage}
use Rattle.m3_program.proofs.script.serve_script.Given as goal

abbrev pub invariant-loop-request : goal.invariant-loop-request
invariant-loop-request g l = record {
  goes : Goes g.X.D.Disk.state (opening_at (stage l.fn.cluster (g.X.Disks.depot l.fn.disks))) l.fn.number (requests_left l.left) l.summary
      (stage l.cluster (g.X.Disks.depot l.disks));
  may : MayServeSaved g.X.D.Disk.state l.cluster (g.X.Disks.depot l.disks).held;
  later : (g.X.D.Disk.state l.fn.cluster.meta).faults ≤ (g.X.D.Disk.state l.cluster.meta).faults;
}

abbrev pub decreases-loop-request : goal.decreases-loop-request
decreases-loop-request g l = length (requests_left l.left)
