use Rattle.std.proofs.Common.{sym, ◌∙◌}
use Rattle.disk_content.proofs.TableLemmas.{get_of}
use Rattle.disk_content.proofs.file_table.FileTable.get.Goals as goal

pub returns : goal.returns
returns c = rw (← c.self.view_is) (c.get.ensures.value ∙ sym (get_of c.self.inside.map.entries c.args.name))
