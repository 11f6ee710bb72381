use Rattle.std.proofs.Common.{ap, ◌∙◌, not}
use Rattle.m3_outside.specs.contracts.file_name.FileNameOrd.TheImpl.Laws.{matches_eq-law}
use Rattle.disk_content.specs.Writes.{is_other}
use Rattle.disk_content.proofs.undo_log.is_other.Goals as goal

pub returns : goal.returns
unfolding is_other
returns c = c.ne.ensures ∙ ap not (matches_eq-law c.args.name c.args.other)
