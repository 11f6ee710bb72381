use Rattle.std.proofs.Common.{ap, sym, ◌∙◌}
use Rattle.std.specs.FinMap.{get}
use Rattle.shard_files.specs.m3_outside.Files.{Files}
use Rattle.shard_files.specs.m3_outside.declared.disk_err.DiskErr.TheVariants.{Failed as DiskFailed}
use Rattle.shard_files.proofs.Leaves.{leaves_as, leaves_then}
use Rattle.shard_files.proofs.ReadLemmas.{passed_err}
use Rattle.fileset_read.proofs.FileLemmas.{read_whole}
use Rattle.fileset_read.proofs.file.read_file.Goals as goal

pub returns-in_err-read_sized-clause-leaves : goal.returns-in_err-read_sized-clause-leaves
returns-in_err-read_sized-clause-leaves g c =
    leaves_then _ _ (g.D.Disk.state c.args.disk.now) (g.D.Disk.state c.size.new.self) (g.D.Disk.state c.read_sized.new.disk) c.in_ok-size.ensures.leaves
    (leaves_as _ _ (g.D.Disk.state c.size.new.self) (g.D.Disk.state c.read_sized.new.disk)
    (λ f. passed_err c.from_residual-in_err-read_sized.result c.read_sized.result c.in_err-read_sized.field-0.0 DiskFailed c.in_err-read_sized.was c.from_residual-in_err-read_sized.ensures.1 f) c.read_sized.ensures.leaves)

pub returns-clause-leaves : goal.returns-clause-leaves
returns-clause-leaves g c =
    leaves_then _ _ (g.D.Disk.state c.args.disk.now) (g.D.Disk.state c.size.new.self) (g.D.Disk.state c.read_sized.new.disk) c.in_ok-size.ensures.leaves
    (leaves_as _ _ (g.D.Disk.state c.size.new.self) (g.D.Disk.state c.read_sized.new.disk) (λ f. absurd (cc)) c.read_sized.ensures.leaves)

pub returns-clause-ok : goal.returns-clause-ok
returns-clause-ok g c = λ t.
    let files = (g.D.Disk.state c.args.disk.now).files in
    let same = c.in_ok-size.ensures.leaves.files t in
    let told = c.in_ok-size.ensures.leaves.proceeds.tells ∙ t in
    read_whole (get files c.args.name) c.in-Some.size c.in_ok-read_sized.field-0 (sym (c.in_ok-size.ensures.size t) ∙ c.in-Some.is)
    (λ file there. c.in_ok-read_sized.ensures.ok told file (ap (λ (m : Files). get m c.args.name) same ∙ there))
