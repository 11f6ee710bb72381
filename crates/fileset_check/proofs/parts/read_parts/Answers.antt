use Rattle.std.proofs.Common.{ap, ◌∙◌, arith, rules, length, add-one}
use Rattle.std.specs.FinMap.{get}
use Rattle.fileset_read.specs.m3_outside.Files.{Files}
use Rattle.fileset_read.specs.m3_outside.declared.disk_err.DiskErr.TheVariants.{Failed as DiskFailed}
use Rattle.fileset_read.proofs.commit_log_proofs.Leaves.{leaves_none, leaves_as, leaves_then, leaves_memory}
use Rattle.fileset_read.proofs.commit_log_proofs.ReadLemmas.{passed_err}
use Rattle.fileset_check.proofs.PartLemmas.{parts_none, parts_more, parts_all}
use Rattle.fileset_check.proofs.parts.read_parts.Goals as goal

pub loop-kind-init : goal.loop-kind-init
loop-kind-init g c = record { leaves = leaves_none ⊥ (g.D.Disk.state c.args.disk.now) (λ f. f); long = search rules; read = λ t. parts_none _ _ _ }

pub returns-in_err-file-clause-leaves : goal.returns-in_err-file-clause-leaves
returns-in_err-file-clause-leaves g c =
    leaves_then ⊥ _ (g.D.Disk.state c.args.disk.now) (g.D.Disk.state c.loop-kind.disk) (g.D.Disk.state c.read_file.new.disk) c.loop-kind.invariant.leaves
    (leaves_as _ _ (g.D.Disk.state c.loop-kind.disk) (g.D.Disk.state c.read_file.new.disk) (λ f. passed_err c.from_residual.result c.read_file.result c.in_err-file.field-0.0 DiskFailed c.in_err-file.was c.from_residual.ensures.1 f) c.read_file.ensures.leaves)

pub returns-in_err-push-clause-leaves : goal.returns-in_err-push-clause-leaves
returns-in_err-push-clause-leaves g c =
    leaves_then ⊥ _ (g.D.Disk.state c.args.disk.now) (g.D.Disk.state c.read_file.new.disk) (g.D.Disk.state c.read_file.new.disk)
    (leaves_then ⊥ ⊥ (g.D.Disk.state c.args.disk.now) (g.D.Disk.state c.loop-kind.disk) (g.D.Disk.state c.read_file.new.disk) c.loop-kind.invariant.leaves
    (leaves_as _ ⊥ (g.D.Disk.state c.loop-kind.disk) (g.D.Disk.state c.read_file.new.disk) (λ f. absurd f) c.read_file.ensures.leaves))
    (leaves_memory c.from_residual-in_err-push.result (g.D.Disk.state c.read_file.new.disk) c.from_residual-in_err-push.ensures.1)

pub loop-kind-preserved : goal.loop-kind-preserved
loop-kind-preserved g c =
    let inv = c.loop-kind.invariant in
    let files = (g.D.Disk.state c.args.disk.now).files in
    record {
      leaves = leaves_then ⊥ ⊥ (g.D.Disk.state c.args.disk.now) (g.D.Disk.state c.loop-kind.disk) (g.D.Disk.state c.read_file.new.disk) inv.leaves (leaves_as _ ⊥ (g.D.Disk.state c.loop-kind.disk) (g.D.Disk.state c.read_file.new.disk) (λ f. absurd f) c.read_file.ensures.leaves);
      long = search rules;
      read = λ t.
          let read = c.in_ok-file.ensures.ok (inv.leaves.proceeds.tells ∙ t) ∙ ap (λ (m : Files). get m c.file_of.result) (inv.leaves.files t) ∙ ap (get files) c.file_of.ensures in
          parts_more c.args.of files c.loop-kind.kind c.loop-kind.parts.items c.push.new.self.items c.in_ok-file.file inv.long c.in_ok-push.ensures.items read (inv.read t);
    }

pub returns-clause-leaves : goal.returns-clause-leaves
returns-clause-leaves g c = leaves_as ⊥ _ (g.D.Disk.state c.args.disk.now) (g.D.Disk.state c.loop-kind.disk) (λ f. absurd (cc)) c.loop-kind.invariant.leaves

pub returns-clause-ok : goal.returns-clause-ok
returns-clause-ok g c = λ t.
    let inv = c.loop-kind.invariant in
    let end = c.loop-kind-test.false in
    let top = c.loop-kind.auto.kind-end in
    let long = inv.long in
    parts_all c.args.of (g.D.Disk.state c.args.disk.now).files c.loop-kind.parts.items c.loop-kind.kind (omega (arith, end)) (omega (arith, end, top, long)) (inv.read t)
