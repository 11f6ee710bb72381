use Rattle.std.proofs.Common.{◌≡◌, List, ℕ, sym, ◌∙◌}
use Rattle.fileset_check.specs.PartFiles.{Spells}
use Rattle.fileset_check.proofs.DigestLemmas.{breaks_form}
use Rattle.fileset_check.proofs.due.check_due.Goals as goal

pub returns-in-None-clause-ok : goal.returns-in-None-clause-ok
returns-in-None-clause-ok c = sym c.bytes_in.ensures ∙ c.in-None.ensures.none

pub returns-in-Some-clause-err : goal.returns-in-Some-clause-err
returns-in-Some-clause-err c = λ files p. breaks_form c.args.of files c.args.parts.now p (Spells c.args.due.now) c.args.kind c.bytes_in.result.now c.file_of.result c.in-Some.at c.requires.low c.requires.high c.bytes_in.ensures c.file_of.ensures c.in-Some.ensures.some
