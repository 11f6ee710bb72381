use Rattle.std.proofs.Common.{◌≡◌, ◌-◌, length}
use Rattle.fileset_check.specs.wire_bytes.Entries.{PointsStand}
use Rattle.fileset_check.specs.shard_files.Entries.{HavePoints}
use Rattle.snapshot_files.proofs.body.read_points.Given as goal

-- the first of the points are read, and the others stand behind them where all do
abbrev pub invariant-loop-i : goal.invariant-loop-i
invariant-loop-i l = record {
  read : PointsStand l.points.items l.bytes l.from l.offset;
  counted : length l.points.items ≡ l._i;
  left : HavePoints l.count l.bytes l.from → HavePoints (l.count - l._i) l.bytes l.offset;
}
