use Rattle.std.proofs.Common.{◌≡◌, List, ℕ, subst, ◌∙◌}
use Rattle.fileset_read.specs.wire_bytes.Volumes.{Info, info_of, part_bytes}
use Rattle.fileset_read.specs.shard_files.Damage.{BreaksForm}
use Rattle.fileset_read.specs.volume_bytes.Heads.{head_of}
use Rattle.fileset_check.specs.PartFiles.{Spells, file_of}
use Rattle.fileset_check.proofs.FirstLemmas.{err_as}
use Rattle.fileset_check.proofs.due.check_info.Goals as goal

pub returns-clause-err : goal.returns-clause-err
returns-clause-err c = λ files p.
    let name = file_of 1 c.args.of in
    let v = head_of c.args.head.now in
    let tables = c.requires.body.tables in
    let due : c.as_slice.result.now ≡ part_bytes Info v c.args.body.now.rows = c.as_slice.ensures ∙ c.in_ok-due.ensures ∙ (λ i. info_of v (c.len.ensures i) (tables.points i)) in
    err_as c.check_due.result (BreaksForm (Spells c.as_slice.result.now) files name) (BreaksForm (Spells (part_bytes Info v c.args.body.now.rows)) files name) (λ d f. subst (λ (l : List ℕ). BreaksForm (Spells l) files name d) due f) (c.check_due.ensures.err files p)
