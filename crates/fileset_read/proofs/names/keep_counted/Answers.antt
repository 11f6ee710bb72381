use Rattle.std.proofs.Common.{refl, ap, ◌∙◌, get_or}
use Rattle.shard_files.specs.m3_outside.declared.file_name.FileName.{FileName}
use Rattle.shard_files.specs.m3_outside.Files.{Files}
use Rattle.shard_files.proofs.Leaves.{leaves_none, leaves_as, leaves_then, leaves_memory}
use Rattle.fileset_read.specs.Volumes.{is_counted}
use Rattle.fileset_read.proofs.NameLemmas.{name_more, err_is}
use Rattle.fileset_read.proofs.names.keep_counted.Goals as goal

pub loop-name-init : goal.loop-name-init
loop-name-init g c = record { leaves = leaves_none ⊥ (g.D.Disk.state c.args.disk.now) (λ f. f); kept = λ t. c.requires }

pub returns-in_err-is_kept-clause-leaves : goal.returns-in_err-is_kept-clause-leaves
returns-in_err-is_kept-clause-leaves g c =
    leaves_then ⊥ _ (g.D.Disk.state c.args.disk.now) (g.D.Disk.state c.loop-name.disk) (g.D.Disk.state c.counts.new.disk) c.loop-name.invariant.leaves
    (leaves_as _ _ (g.D.Disk.state c.loop-name.disk) (g.D.Disk.state c.counts.new.disk) (λ f. err_is c.counts.result _ c.in_err-is_kept.was) c.counts.ensures.leaves)

pub returns-in_err-keep-clause-leaves : goal.returns-in_err-keep-clause-leaves
returns-in_err-keep-clause-leaves g c =
    leaves_then ⊥ _ (g.D.Disk.state c.args.disk.now) (g.D.Disk.state c.counts.new.disk) (g.D.Disk.state c.counts.new.disk)
    (leaves_then ⊥ ⊥ (g.D.Disk.state c.args.disk.now) (g.D.Disk.state c.loop-name.disk) (g.D.Disk.state c.counts.new.disk) c.loop-name.invariant.leaves
    (leaves_as _ ⊥ (g.D.Disk.state c.loop-name.disk) (g.D.Disk.state c.counts.new.disk) (λ f. absurd f) c.counts.ensures.leaves))
    (leaves_memory c.from_residual-in_err-keep.result (g.D.Disk.state c.counts.new.disk) c.from_residual-in_err-keep.ensures.1)

pub loop-name-preserved : goal.loop-name-preserved
loop-name-preserved g c =
    let inv = c.loop-name.invariant in
    let files = (g.D.Disk.state c.args.disk.now).files in
    let none : FileName = record { kind = 0; ns = 0; block = 0; number = 0 } in
    let name : FileName = get_or c.args.all.now c.loop-name.name-index none in
    record {
      leaves = leaves_then ⊥ ⊥ (g.D.Disk.state c.args.disk.now) (g.D.Disk.state c.loop-name.disk) (g.D.Disk.state c.counts.new.disk) inv.leaves (leaves_as _ ⊥ (g.D.Disk.state c.loop-name.disk) (g.D.Disk.state c.counts.new.disk) (λ f. absurd f) c.counts.ensures.leaves);
      kept = λ t.
          let counts = c.in_ok-is_kept.ensures.ok (inv.leaves.proceeds.tells ∙ t) ∙ ap (λ (m : Files). is_counted m name) (inv.leaves.files t) in
          name_more files c.args.all.now c.loop-name.names.items c.keep.new.names.items c.loop-name.name-index name none c.in_ok-is_kept.is_kept c.loop-name-test.true refl counts (inv.kept t) c.in_ok-keep.ensures;
    }
