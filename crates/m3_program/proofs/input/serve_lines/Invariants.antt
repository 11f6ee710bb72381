use Rattle.std.proofs.Common.{◌≡◌, ◌<◌, ◌≤◌, ◌++◌, ℕ, List, length}
use Rattle.saved_cluster.specs.Saved.{MayServeSaved}
use Rattle.m3_program.specs.Passing.{outflow}
use Rattle.m3_program.specs.Streams.{TakesOn, stage}
use Rattle.m3_program.specs.Writing.{Gathers}
use Rattle.m3_program.proofs.input.serve_lines.Given as goal

abbrev pub invariant-loop-end : goal.invariant-loop-end
invariant-loop-end g l = record {
  done : List ℕ;
  text : List ℕ;
  parts : l.fn.piece ≡ done ++ l.rest;
  gathers : Gathers (outflow (g.K.Sink.written l.fn.out) (g.K.Sink.took l.fn.out)) l.fn.replies.items text (outflow (g.K.Sink.written l.out) (g.K.Sink.took l.out)) l.replies.items;
  few : length l.fn.replies.items < 65536 → length l.replies.items < 65536;
  takes : TakesOn g.X.D.Disk.state (stage l.fn.cluster (g.X.Disks.depot l.fn.disks)) l.fn.line.items done text
      (stage l.cluster (g.X.Disks.depot l.disks)) l.line.items;
  may : MayServeSaved g.X.D.Disk.state l.cluster (g.X.Disks.depot l.disks).held;
  faults : g.K.Sink.faulted l.fn.out ≤ g.K.Sink.faulted l.out;
  stalls : g.K.Sink.stalled l.fn.out ≤ g.K.Sink.stalled l.out;
  meta : (g.X.D.Disk.state l.fn.cluster.meta).faults ≤ (g.X.D.Disk.state l.cluster.meta).faults;
}

abbrev pub decreases-loop-end : goal.decreases-loop-end
decreases-loop-end g l = length l.rest
