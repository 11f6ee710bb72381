use Rattle.std.proofs.Common.{◌≡◌, List, ℕ, ap, subst}
use Rattle.fileset_read.specs.m3_outside.declared.file_name.FileName.{FileName}
use Rattle.fileset_read.specs.shard_files.Damage.{OfForm}
use Rattle.fileset_check.specs.PartFiles.{HasHead}
use Rattle.fileset_check.specs.Told.{HeadStops}
use Rattle.fileset_check.proofs.DerivedLemmas.{head_breaks}
use Rattle.fileset_check.proofs.volume.head_in.Goals as goal

pub returns-in-Ok-clause-ok : goal.returns-in-Ok-clause-ok
returns-in-Ok-clause-ok c = subst (λ (l : List ℕ). HasHead c.args.of l c.in-Ok.head) c.bytes_in.ensures c.in-Ok.ensures.ok

pub returns-in-Err-clause-err : goal.returns-in-Err-clause-err
returns-in-Err-clause-err c = λ files p.
    let of = c.args.of in
    head_breaks of files c.args.parts.now p c.in-Err.at _ (subst (λ (l : List ℕ). HeadStops of.ns of.block of.number l c.in-Err.at) c.bytes_in.ensures c.in-Err.ensures.err) (ap (λ (n : FileName). OfForm n c.in-Err.at) c.file_of.ensures)
