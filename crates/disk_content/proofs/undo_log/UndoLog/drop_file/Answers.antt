use Rattle.std.proofs.Common.{refl}
use Rattle.disk_content.proofs.EntryLemmas.{whole_others}
use Rattle.disk_content.proofs.undo_log.UndoLog.drop_file.Goals as goal

pub returns : goal.returns
returns c = rw (← c.self.view_is, c.drop_between.ensures.others, c.pop_of.ensures.others, c.loop-entry.invariant.others, c.loop-entry.invariant.room, whole_others c.args.name c.self.inside.entries.items) refl
