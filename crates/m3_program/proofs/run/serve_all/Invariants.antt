use Rattle.std.proofs.Common.{◌-◌, ◌≤◌}
use Rattle.m3_model.specs.declared.limits.TheConstants.{INPUT_END}
use Rattle.saved_cluster.specs.Saved.{MayServeSaved}
use Rattle.m3_program.specs.Passing.{outflow}
use Rattle.m3_program.specs.Streams.{opening_at, stage}
use Rattle.m3_program.proofs.RunLemmas.{Heard}
use Rattle.m3_program.proofs.run.serve_all.Given as goal

abbrev pub invariant-loop-taken : goal.invariant-loop-taken
invariant-loop-taken g l = record {
  known : Heard g.X.D.Disk.state (opening_at (stage l.fn.cluster (g.X.Disks.depot l.fn.disks))) (g.S.Source.left l.fn.source) (g.S.Source.gave l.fn.source) (outflow (g.K.Sink.written l.fn.out) (g.K.Sink.took l.fn.out))
      (g.S.Source.left l.source) (g.S.Source.gave l.source) (outflow (g.K.Sink.written l.out) (g.K.Sink.took l.out)) l.taken
      (stage l.cluster (g.X.Disks.depot l.disks)) l.line.items;
  may : MayServeSaved g.X.D.Disk.state l.cluster (g.X.Disks.depot l.disks).held;
  below : l.taken ≤ INPUT_END;
  reads : g.S.Source.faulted l.fn.source ≤ g.S.Source.faulted l.source;
  faults : g.K.Sink.faulted l.fn.out ≤ g.K.Sink.faulted l.out;
  stalls : g.K.Sink.stalled l.fn.out ≤ g.K.Sink.stalled l.out;
  meta : (g.X.D.Disk.state l.fn.cluster.meta).faults ≤ (g.X.D.Disk.state l.cluster.meta).faults;
}

abbrev pub decreases-loop-taken : goal.decreases-loop-taken
decreases-loop-taken g l = INPUT_END - l.taken
