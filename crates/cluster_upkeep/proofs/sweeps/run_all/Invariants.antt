use Rattle.std.proofs.Common.{◌≡◌, ◌+◌, ◌≤◌, ℕ, List, length, map, take}
use Rattle.std.specs.List.{flat_map}
use Rattle.node_calls.specs.session_net.Runs.{Ran}
use Rattle.node_calls.specs.transcripts.Sweeps.{Entry, done_in, failed_in, slot_of}
use Rattle.cluster_upkeep.specs.Findings.{HasRoomFor}
use Rattle.cluster_upkeep.specs.Rows.{slot_in}
use Rattle.cluster_upkeep.specs.Sweeps.{AreOfFiles, asked_at, call_by}
use Rattle.cluster_upkeep.proofs.sweeps.run_all.Given as goal

abbrev pub invariant-loop-row : goal.invariant-loop-row
invariant-loop-row g l = record {
  room : (n : ℕ) → n + l.row-index ≤ length l.rows → HasRoomFor n l.findings;
  entries : List Entry;
  of_rows : map slot_of entries ≡ map slot_in (take l.row-index l.rows);
  ran : Ran g.D.Disk.state l.fn.replicas (flat_map (asked_at (call_by l.job l.rules)) entries) l.replicas;
  files : AreOfFiles entries;
  done_are : l.findings.done.items ≡ done_in entries;
  failed_are : l.findings.failed.items ≡ failed_in entries;
}
