use Rattle.std.proofs.Common.{◌≡◌, ◌-◌, length}
use Rattle.commit_log.specs.wire_bytes.Entries.{PointsStand}
use Rattle.shard_files.specs.Entries.{HavePoints}
use Rattle.shard_files.proofs.entries.read_points.Given as goal

abbrev pub invariant-loop-i : goal.invariant-loop-i
invariant-loop-i l = record {
  read : PointsStand l.points.items l.bytes l.from l.offset;
  counted : length l.points.items ≡ l._i;
  left : HavePoints (l.count - l._i) l.bytes l.offset;
}
