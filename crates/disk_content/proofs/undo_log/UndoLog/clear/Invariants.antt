use Rattle.std.proofs.Common.{◌≡◌, ◌≤◌, ◌+◌, vec_len, vec_capacity}
use Rattle.disk_content.proofs.undo_log.UndoLog.clear.Given as goal

abbrev pub invariant-loop-entry : goal.invariant-loop-entry
invariant-loop-entry l = record {
  capacity : vec_len l.self-inside.entries + l.self-inside.room ≤ vec_capacity l.self-inside.entries;
  room : l.self-inside.room ≡ l.initial.self-inside.room;
}

abbrev pub decreases-loop-entry : goal.decreases-loop-entry
decreases-loop-entry l = vec_len l.self-inside.entries
