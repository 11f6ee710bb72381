use Rattle.std.proofs.Common.{ap, sym, ◌∙◌, take}
use Rattle.std.specs.FinMap.{get}
use Rattle.log_chunks.specs.m3_outside.Files.{Files}
use Rattle.log_chunks.specs.m3_outside.declared.disk_err.DiskErr.TheVariants.{Failed as DiskFailed}
use Rattle.commit_log.proofs.Leaves.{leaves_as, leaves_then}
use Rattle.commit_log.proofs.FileFronts.{front_is, sized_is_there}
use Rattle.commit_log.proofs.ReadLemmas.{passed_err}
use Rattle.commit_log.proofs.file.read_front.Goals as goal

pub returns-in_err-bytes-clause-leaves : goal.returns-in_err-bytes-clause-leaves
returns-in_err-bytes-clause-leaves g c =
    leaves_then _ _ (g.D.Disk.state c.args.disk.now) (g.D.Disk.state c.size.new.self) (g.D.Disk.state c.read_file.new.disk) c.in_ok-size.ensures.leaves
    (leaves_as _ _ (g.D.Disk.state c.size.new.self) (g.D.Disk.state c.read_file.new.disk)
    (λ f. passed_err c.from_residual-in_err-bytes.result c.read_file.result c.in_err-bytes.field-0.0 DiskFailed c.in_err-bytes.was c.from_residual-in_err-bytes.ensures.1 f) c.read_file.ensures.leaves)

pub returns-clause-leaves : goal.returns-clause-leaves
returns-clause-leaves g c =
    leaves_then _ _ (g.D.Disk.state c.args.disk.now) (g.D.Disk.state c.size.new.self) (g.D.Disk.state c.read_file.new.disk) c.in_ok-size.ensures.leaves
    (leaves_as _ _ (g.D.Disk.state c.size.new.self) (g.D.Disk.state c.read_file.new.disk) (λ f. absurd (cc)) c.read_file.ensures.leaves)

pub returns-clause-ok : goal.returns-clause-ok
returns-clause-ok g c = λ t.
    let same = c.in_ok-size.ensures.leaves.files t in
    let told = c.in_ok-size.ensures.leaves.proceeds.tells ∙ t in
    front_is (g.D.Disk.state c.args.disk.now).files c.args.number c.in-Some.size c.segment_name-name.result c.in_ok-bytes.bytes.items c.segment_name-name.ensures (sym c.in-Some.is ∙ c.in_ok-size.ensures.size t)
    (λ file there. c.in_ok-bytes.ensures.ok told file (ap (λ (m : Files). get m c.segment_name-name.result) same ∙ there) ∙ ap (λ n. take n file) c.min.ensures)

pub returns-in_err-bytes-clause-memory : goal.returns-in_err-bytes-clause-memory
returns-in_err-bytes-clause-memory g c = λ _ t.
    sized_is_there (g.D.Disk.state c.args.disk.now).files c.args.number c.in-Some.size c.segment_name-name.result c.segment_name-name.ensures (sym c.in-Some.is ∙ c.in_ok-size.ensures.size t)
