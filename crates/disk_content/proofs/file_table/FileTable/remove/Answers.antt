use Rattle.disk_content.proofs.TableLemmas.{removed}
use Rattle.disk_content.proofs.file_table.FileTable.remove.Goals as goal

pub returns : goal.returns
returns c = rw (← c.self.view_is) (removed c.self.inside.map.entries c.swap_remove.new.self.entries c.args.name c.swap_remove.ensures.updates.0)
