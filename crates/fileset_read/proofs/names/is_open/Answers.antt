use Rattle.std.proofs.Common.{◌≡◌, length, sym, ap, ◌∙◌, arith}
use Rattle.std.specs.FinMap.{get}
use Rattle.shard_files.specs.m3_outside.Files.{Files}
use Rattle.shard_files.proofs.Leaves.{leaves_as, leaves_then}
use Rattle.fileset_read.proofs.NameLemmas.{err_is, gate_read}
use Rattle.fileset_read.proofs.names.is_open.Goals as goal

pub returns-in_err-read-clause-leaves : goal.returns-in_err-read-clause-leaves
returns-in_err-read-clause-leaves g c =
    leaves_then _ _ (g.D.Disk.state c.args.disk.now) (g.D.Disk.state c.size.new.self) (g.D.Disk.state c.read.new.self) c.size.ensures.leaves
    (leaves_as _ _ (g.D.Disk.state c.size.new.self) (g.D.Disk.state c.read.new.self) (λ f. err_is c.read.result _ c.in_err-read.was) c.read.ensures.leaves)

pub returns-clause-leaves : goal.returns-clause-leaves
returns-clause-leaves g c =
    leaves_then _ _ (g.D.Disk.state c.args.disk.now) (g.D.Disk.state c.size.new.self) (g.D.Disk.state c.read.new.self) c.size.ensures.leaves
    (leaves_as _ _ (g.D.Disk.state c.size.new.self) (g.D.Disk.state c.read.new.self) (λ f. absurd (cc)) c.read.ensures.leaves)

pub returns-clause-ok : goal.returns-clause-ok
returns-clause-ok g c = λ t.
    let files = (g.D.Disk.state c.args.disk.now).files in
    let same = c.size.ensures.leaves.files t in
    let told = c.size.ensures.leaves.proceeds.tells ∙ t in
    let long : length c.read.new.buf ≡ 1 = c.read.auto.buf in
    gate_read (get files c.args.name) c.in-Some.size c.read.new.buf (sym (c.in_ok-size.ensures.size t) ∙ c.in-Some.is) (let some = c.if-size-eq0.false in omega (arith, some))
    (λ file there. c.in_ok-read.ensures.bytes told file (ap (λ (m : Files). get m c.args.name) same ∙ there)) long
