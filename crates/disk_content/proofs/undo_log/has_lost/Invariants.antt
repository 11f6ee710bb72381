use Rattle.std.proofs.Common.{◌≡◌, map, take}
use Rattle.disk_content.specs.Undo.{whole}
use Rattle.disk_content.proofs.undo_log.has_lost.Given as goal

abbrev pub invariant-loop-entry : goal.invariant-loop-entry
invariant-loop-entry l = map whole (take l.entry-index l.entries) ≡ take l.entry-index l.entries
