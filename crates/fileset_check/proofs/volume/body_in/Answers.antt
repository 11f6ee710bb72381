use Rattle.std.proofs.Common.{◌≡◌, List, ℕ, ap, subst, sym, ◌∙◌}
use Rattle.fileset_read.specs.m3_outside.declared.file_name.FileName.{FileName}
use Rattle.fileset_read.specs.shard_files.Damage.{OfForm}
use Rattle.fileset_read.specs.volume_bytes.Heads.{head_of}
use Rattle.fileset_check.specs.PartFiles.{IsBody}
use Rattle.fileset_check.proofs.DerivedLemmas.{unfit}
use Rattle.fileset_check.proofs.volume.body_in.Goals as goal

pub returns-in-Ok-clause-ok : goal.returns-in-Ok-clause-ok
returns-in-Ok-clause-ok c = subst (λ (l : List ℕ). IsBody (head_of c.args.head.now) l c.in-Ok.body) c.bytes_in.ensures c.in-Ok.ensures.ok

pub returns-in-Err-Form-clause-err : goal.returns-in-Err-Form-clause-err
returns-in-Err-Form-clause-err c = λ files p.
    let of = c.args.of in
    let none = rw c.in-Err-Form.field-0-is at c.in-Err-Form.ensures.err in
    unfit of files c.args.parts.now p (head_of c.args.head.now) c.requires.head _ (λ rows values is. none rows values (c.bytes_in.ensures ∙ is)) (ap (λ (n : FileName). OfForm n 0) c.file_of.ensures)
