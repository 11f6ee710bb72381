use Rattle.disk_content.proofs.TableLemmas.{inserted}
use Rattle.disk_content.proofs.file_table.FileTable.insert.Goals as goal

pub returns-clause-ok : goal.returns-clause-ok
returns-clause-ok c = rw (← c.self.view_is) (inserted c.self.inside.map.entries c.insert.new.self.entries c.args.name c.args.bytes c.in_ok-insert.ensures.updates.0)
