use Rattle.std.proofs.Common.{◌≡◌, ◌-◌, List, length}
use Rattle.m3_model.specs.declared.point.Point.{Point}
use Rattle.wire_bytes.specs.Fields.{IsFault}
use Rattle.wire_bytes.specs.Bodies.{SomePoints}
use Rattle.wire_bytes.specs.Entries.{PointsStand}
use Rattle.wire_bytes.specs.declared.wire_err.WireErr.{WireErr}
use Rattle.wire_bytes.proofs.entry_read.behind_points.Given as goal

abbrev pub invariant-loop-i : goal.invariant-loop-i
invariant-loop-i l = record {
  faults : (e : WireErr) → IsFault (SomePoints (l.count - l._i)) l.bytes l.offset e → IsFault (SomePoints l.count) l.bytes l.from e;
  points : (ps : List Point) × (length ps ≡ l._i) × PointsStand ps l.bytes l.from l.offset;
}
