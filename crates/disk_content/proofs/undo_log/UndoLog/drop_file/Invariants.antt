use Rattle.std.proofs.Common.{◌≡◌, ◌≤◌, ◌+◌, vec_len, vec_capacity}
use Rattle.disk_content.specs.Undo.{entries_of_others}
use Rattle.disk_content.proofs.undo_log.UndoLog.drop_file.Given as goal

abbrev pub invariant-loop-entry : goal.invariant-loop-entry
invariant-loop-entry l = record {
  others : entries_of_others l.name l.self-inside.entries.items ≡ entries_of_others l.name l.initial.self-inside.entries.items;
  capacity : vec_len l.self-inside.entries + l.self-inside.room ≤ vec_capacity l.self-inside.entries;
  room : l.self-inside.room ≡ l.initial.self-inside.room;
}

abbrev pub decreases-loop-entry : goal.decreases-loop-entry
decreases-loop-entry l = vec_len l.self-inside.entries
