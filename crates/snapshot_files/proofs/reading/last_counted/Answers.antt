use Rattle.std.proofs.Common.{refl, ap, ◌∙◌, get_or}
use Rattle.fileset_check.specs.m3_outside.declared.file_name.FileName.{FileName}
use Rattle.fileset_check.specs.m3_outside.Files.{Files}
use Rattle.fileset_check.proofs.commit_log_proofs.Leaves.{leaves_none, leaves_as, leaves_then}
use Rattle.fileset_check.proofs.fileset_read_proofs.NameLemmas.{err_is}
use Rattle.snapshot_files.specs.Told.{is_counted}
use Rattle.snapshot_files.proofs.NewestLemmas.{name_more}
use Rattle.snapshot_files.proofs.reading.last_counted.Goals as goal

pub loop-name-init : goal.loop-name-init
loop-name-init g c = record { leaves = leaves_none ⊥ (g.D.Disk.state c.args.disk.now) (λ f. f); found = λ t. refl }

pub returns-in_err-is_later-clause-leaves : goal.returns-in_err-is_later-clause-leaves
returns-in_err-is_later-clause-leaves g c =
    leaves_then ⊥ _ (g.D.Disk.state c.args.disk.now) (g.D.Disk.state c.loop-name.disk) (g.D.Disk.state c.counts.new.disk) c.loop-name.invariant.leaves
    (leaves_as _ _ (g.D.Disk.state c.loop-name.disk) (g.D.Disk.state c.counts.new.disk) (λ f. err_is c.counts.result _ c.in_err-is_later.was) c.counts.ensures.leaves)

pub loop-name-preserved : goal.loop-name-preserved
loop-name-preserved g c =
    let inv = c.loop-name.invariant in
    let files = (g.D.Disk.state c.args.disk.now).files in
    let none : FileName = record { kind = 0; ns = 0; block = 0; number = 0 } in
    let name : FileName = get_or c.args.names.now c.loop-name.name-index none in
    record {
      leaves = leaves_then ⊥ ⊥ (g.D.Disk.state c.args.disk.now) (g.D.Disk.state c.loop-name.disk) (g.D.Disk.state c.counts.new.disk) inv.leaves (leaves_as _ ⊥ (g.D.Disk.state c.loop-name.disk) (g.D.Disk.state c.counts.new.disk) (λ f. absurd f) c.counts.ensures.leaves);
      found = λ t.
          let counts = c.in_ok-is_later.ensures.ok (inv.leaves.proceeds.tells ∙ t) ∙ ap (λ (m : Files). is_counted m name) (inv.leaves.files t) in
          name_more files c.args.names.now c.loop-name.name-index none c.in_ok-is_later.is_later c.loop-name.last c.later_of-last.result c.loop-name-test.true counts (inv.found t) c.later_of-last.ensures;
    }
