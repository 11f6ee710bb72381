use Rattle.std.proofs.Common.{◌≡◌, ◌+◌, ◌≤◌, length, map, take, vec_len}
use Rattle.std.specs.List.{flat_map}
use Rattle.std.specs.Vec.{vec_capacity}
use Rattle.node_calls.specs.session_net.Runs.{Ran}
use Rattle.cluster_upkeep.specs.Status.{row_of, told_at}
use Rattle.cluster_upkeep.proofs.reports.report_all.Given as goal

abbrev pub invariant-loop-row : goal.invariant-loop-row
invariant-loop-row g l = record {
  room : vec_len l.lines + length l.rows ≤ vec_capacity l.lines + l.row-index;
  of_rows : map row_of l.lines.items ≡ take l.row-index l.rows;
  ran : Ran g.D.Disk.state l.fn.replicas (flat_map told_at l.lines.items) l.replicas;
}
