use Rattle.std.proofs.Common.{◌++◌, ap, ◌∙◌, List}
use Rattle.std.specs.Prelude.{filter}
use Rattle.fileset_check.specs.m3_outside.declared.file_name.FileName.{FileName}
use Rattle.fileset_check.specs.m3_outside.declared.disk_err.DiskErr.TheVariants.{Failed as DiskFailed}
use Rattle.fileset_check.specs.shard_files.Steps.{is_older}
use Rattle.fileset_check.proofs.commit_log_proofs.Leaves.{leaves_as, leaves_then, leaves_memory}
use Rattle.fileset_check.proofs.commit_log_proofs.ReadLemmas.{passed_err}
use Rattle.snapshot_files.proofs.clearing.find_below.Goals as goal

pub returns-in_err-older-clause-leaves : goal.returns-in_err-older-clause-leaves
returns-in_err-older-clause-leaves g c =
    leaves_then _ _ (g.D.Disk.state c.args.disk.now) (g.D.Disk.state c.list.new.self) (g.D.Disk.state c.list.new.self) c.list.ensures.leaves
    (leaves_memory c.from_residual-in_err-older.result (g.D.Disk.state c.list.new.self) c.from_residual-in_err-older.ensures.1)

pub returns-in_err-reserve-clause-leaves : goal.returns-in_err-reserve-clause-leaves
returns-in_err-reserve-clause-leaves g c =
    leaves_then _ _ (g.D.Disk.state c.args.disk.now) (g.D.Disk.state c.list.new.self) (g.D.Disk.state c.reserve.new.self) c.list.ensures.leaves
    (leaves_as _ _ (g.D.Disk.state c.list.new.self) (g.D.Disk.state c.reserve.new.self)
    (λ f. passed_err c.from_residual-in_err-reserve.result c.reserve.result c.in_err-reserve.field-0.0 DiskFailed c.in_err-reserve.was c.from_residual-in_err-reserve.ensures.1 f) c.reserve.ensures.leaves)

pub returns-clause-leaves : goal.returns-clause-leaves
returns-clause-leaves g c =
    leaves_then _ _ (g.D.Disk.state c.args.disk.now) (g.D.Disk.state c.list.new.self) (g.D.Disk.state c.reserve.new.self) c.list.ensures.leaves
    (leaves_as _ _ (g.D.Disk.state c.list.new.self) (g.D.Disk.state c.reserve.new.self) (λ f. absurd (cc)) c.reserve.ensures.leaves)

pub returns-clause-ok : goal.returns-clause-ok
returns-clause-ok g c = λ t.
    c.in_ok-older.ensures ∙ ap (λ (l : List FileName). filter (is_older 9 c.args.number) l ++ filter (is_older 8 c.args.number) l) (c.as_slice.ensures ∙ c.in_ok-names.ensures.names t)
