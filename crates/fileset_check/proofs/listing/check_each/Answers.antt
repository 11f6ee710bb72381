use Rattle.std.proofs.Common.{◌≡◌, sym, ap, subst, ◌∙◌, get_or, List, []}
use Rattle.fileset_read.specs.m3_outside.Files.{Files}
use Rattle.fileset_read.specs.m3_outside.declared.file_name.FileName.{FileName}
use Rattle.fileset_read.proofs.commit_log_proofs.Leaves.{leaves_none, leaves_as, leaves_then}
use Rattle.fileset_read.proofs.commit_log_proofs.ReadLemmas.{passed_err}
use Rattle.fileset_read.specs.shard_files.Parts.{part_of}
use Rattle.fileset_read.proofs.shard_files_proofs.SegmentStops.{passed_on}
use Rattle.fileset_check.specs.PartFiles.{file_of}
use Rattle.fileset_check.specs.Told.{MayTell, VolumesTell, VolumeTells}
use Rattle.fileset_check.specs.Whole.{AreListed, IsListed}
use Rattle.fileset_check.specs.declared.check_err.CheckErr.TheVariants as failures
use Rattle.fileset_check.proofs.FirstLemmas.{tells_as}
use Rattle.fileset_check.proofs.WholeLemmas.{listed_none, listed_more, listed_all, first_told, checkpoint_is, not_disk}
use Rattle.fileset_check.proofs.listing.check_each.Goals as goal

pub loop-name-init : goal.loop-name-init
loop-name-init g c = record { leaves = leaves_none ⊥ (g.D.Disk.state c.args.disk.now) (λ f. f); listed = λ t. subst (AreListed (g.D.Disk.state c.args.disk.now).files []) (sym c.requires.none) (listed_none (g.D.Disk.state c.args.disk.now).files) }

pub returns-in_err-volume-clause-leaves : goal.returns-in_err-volume-clause-leaves
returns-in_err-volume-clause-leaves g c =
    leaves_then ⊥ _ (g.D.Disk.state c.args.disk.now) (g.D.Disk.state c.loop-name.disk) (g.D.Disk.state c.check_volume.new.disk) c.loop-name.invariant.leaves
    (leaves_as _ _ (g.D.Disk.state c.loop-name.disk) (g.D.Disk.state c.check_volume.new.disk) (λ f. passed_err c.from_residual.result c.check_volume.result c.in_err-volume.field-0.0 failures.Disk c.in_err-volume.was c.from_residual.ensures.1 f) c.check_volume.ensures.leaves)

pub returns-in_err-volume-clause-err : goal.returns-in_err-volume-clause-err
returns-in_err-volume-clause-err g c = λ t.
    let inv = c.loop-name.invariant in
    let files = (g.D.Disk.state c.args.disk.now).files in
    let none : FileName = record { kind = 0; ns = 0; block = 0; number = 0 } in
    let name : FileName = get_or c.args.names.now c.loop-name.name-index none in
    let told = subst (λ (m : Files). MayTell (VolumeTells m name) c.in_err-volume.field-0.0) (inv.leaves.files t) (c.in_err-volume.ensures.err (inv.leaves.proceeds.tells ∙ t)) in
    passed_on c.from_residual.result c.in_err-volume.field-0.0 (MayTell (VolumesTell files)) c.from_residual.ensures.1
    (tells_as (VolumeTells files name) (VolumesTell files) c.in_err-volume.field-0.0
    (λ d f. first_told files c.args.names.now c.loop-name.name-index none c.loop-name.volumes.items d (c.requires.counted t) c.loop-name-test.true (inv.listed t) f) told)

pub returns-in_err-push-clause-leaves : goal.returns-in_err-push-clause-leaves
returns-in_err-push-clause-leaves g c =
    leaves_then ⊥ _ (g.D.Disk.state c.args.disk.now) (g.D.Disk.state c.loop-name.disk) (g.D.Disk.state c.check_volume.new.disk) c.loop-name.invariant.leaves
    (leaves_as _ _ (g.D.Disk.state c.loop-name.disk) (g.D.Disk.state c.check_volume.new.disk) (λ f. absurd (not_disk c.from_residual-in_err-push.result c.from_residual-in_err-push.ensures.1 f)) c.check_volume.ensures.leaves)

pub returns-in_err-push-clause-err : goal.returns-in_err-push-clause-err
returns-in_err-push-clause-err g c = λ t. passed_on c.from_residual-in_err-push.result failures.Memory (MayTell (VolumesTell (g.D.Disk.state c.args.disk.now).files)) c.from_residual-in_err-push.ensures.1 tt

pub loop-name-preserved : goal.loop-name-preserved
loop-name-preserved g c =
    let inv = c.loop-name.invariant in
    let files = (g.D.Disk.state c.args.disk.now).files in
    let none : FileName = record { kind = 0; ns = 0; block = 0; number = 0 } in
    let name : FileName = get_or c.args.names.now c.loop-name.name-index none in
    record {
      leaves = leaves_then ⊥ ⊥ (g.D.Disk.state c.args.disk.now) (g.D.Disk.state c.loop-name.disk) (g.D.Disk.state c.check_volume.new.disk) inv.leaves (leaves_as _ ⊥ (g.D.Disk.state c.loop-name.disk) (g.D.Disk.state c.check_volume.new.disk) (λ f. absurd f) c.check_volume.ensures.leaves);
      listed = λ t.
          let is = subst (λ (m : Files). IsListed m (file_of 7 name) c.in_ok-volume.volume) (inv.leaves.files t) (c.in_ok-volume.ensures.ok (inv.leaves.proceeds.tells ∙ t)) in
          let named : file_of 7 name ≡ name = checkpoint_is files c.args.names.now c.loop-name.name-index none (c.requires.counted t) c.loop-name-test.true in
          listed_more files c.args.names.now c.loop-name.name-index none c.loop-name.volumes.items c.push.new.self.items c.in_ok-volume.volume c.loop-name-test.true (inv.listed t) (subst (λ (q : FileName). IsListed files q c.in_ok-volume.volume) named is) c.in_ok-push.ensures.items;
    }

pub returns-clause-leaves : goal.returns-clause-leaves
returns-clause-leaves g c = leaves_as ⊥ _ (g.D.Disk.state c.args.disk.now) (g.D.Disk.state c.loop-name.disk) (λ f. absurd (cc)) c.loop-name.invariant.leaves

pub returns-clause-ok : goal.returns-clause-ok
returns-clause-ok g c = λ t.
    let files = (g.D.Disk.state c.args.disk.now).files in
    subst (λ (l : List FileName). AreListed files l c.loop-name.volumes.items) (c.requires.counted t) (listed_all files c.args.names.now c.loop-name.name-index c.loop-name.volumes.items c.loop-name-test.false (c.loop-name.invariant.listed t))
