use Rattle.std.proofs.Common.{List, [], map, ◌++◌, sym, ap, subst, ◌∙◌, append-nil, get_or}
use Rattle.m3_model.proofs.Lists.{IsIn-get_or}
use Rattle.snapshot_files.specs.m3_outside.Files.{Files}
use Rattle.snapshot_files.proofs.commit_log_proofs.Leaves.{leaves_none, leaves_as, leaves_then}
use Rattle.snapshot_files.proofs.commit_log_proofs.ReadLemmas.{passed_err}
use Rattle.snapshot_files.specs.volume_bytes.Heads.{head_of}
use Rattle.snapshot_files.specs.shard_files.FilesHold.{volume_points}
use Rattle.snapshot_files.specs.shard_files.declared.load_err.LoadErr.TheVariants as failures
use Rattle.snapshot_files.specs.fileset_read.Volumes.{IsThere}
use Rattle.snapshot_files.specs.fileset_check.declared.volume.Volume.{Volume}
use Rattle.shard_open.specs.Loads.{AreOpen, IsOpen, known_of}
use Rattle.shard_open.specs.declared.volumes.OpenVolume.{OpenVolume}
use Rattle.shard_open.proofs.OpenLemmas.{open_more, points_more, not_disk}
use Rattle.shard_open.proofs.volumes.open_each.Goals as goal

abbrev none : Volume
none = record { head = record { ns = 0; start = 0; size = 0; number = 0 }; series = 0; points = 0 }

pub loop-volume-init : goal.loop-volume-init
loop-volume-init g c =
    let empty = c.new-found.ensures.items in
    let before = c.args.points.now.items in
    record {
      leaves = leaves_none ⊥ (g.D.Disk.state c.args.disk.now) (λ f. f);
      opened = λ t. subst (AreOpen (g.D.Disk.state c.args.disk.now).files []) (sym empty) tt;
      points = sym (ap (λ (l : List OpenVolume). before ++ volume_points (map known_of l)) empty ∙ append-nil before);
    }

pub open_one-requires : goal.open_one-requires
open_one-requires g c = λ t.
    let inv = c.loop-volume.invariant in
    let told = sym inv.leaves.proceeds.tells ∙ t in
    let volume : Volume = get_or c.args.listed.now c.loop-volume.volume-index none in
    subst (λ (m : Files). IsThere (head_of volume.head) m) (sym (inv.leaves.files told)) (c.requires told volume (IsIn-get_or c.args.listed.now c.loop-volume.volume-index none c.loop-volume-test.true))

pub returns-in_err-opened-clause-leaves : goal.returns-in_err-opened-clause-leaves
returns-in_err-opened-clause-leaves g c =
    leaves_then ⊥ _ (g.D.Disk.state c.args.disk.now) (g.D.Disk.state c.loop-volume.disk) (g.D.Disk.state c.open_one.new.disk) c.loop-volume.invariant.leaves
    (leaves_as _ _ (g.D.Disk.state c.loop-volume.disk) (g.D.Disk.state c.open_one.new.disk)
    (λ f. passed_err c.from_residual.result c.open_one.result c.in_err-opened.field-0.0 failures.Disk c.in_err-opened.was c.from_residual.ensures.1 f) c.open_one.ensures.leaves)

pub returns-in_err-keep-clause-leaves : goal.returns-in_err-keep-clause-leaves
returns-in_err-keep-clause-leaves g c =
    leaves_then ⊥ _ (g.D.Disk.state c.args.disk.now) (g.D.Disk.state c.loop-volume.disk) (g.D.Disk.state c.open_one.new.disk) c.loop-volume.invariant.leaves
    (leaves_as _ _ (g.D.Disk.state c.loop-volume.disk) (g.D.Disk.state c.open_one.new.disk) (λ f. absurd (not_disk c.from_residual-in_err-keep.result c.from_residual-in_err-keep.ensures.1 f)) c.open_one.ensures.leaves)

pub loop-volume-preserved : goal.loop-volume-preserved
loop-volume-preserved g c =
    let inv = c.loop-volume.invariant in
    let files = (g.D.Disk.state c.args.disk.now).files in
    let volume : Volume = get_or c.args.listed.now c.loop-volume.volume-index none in
    let opened = c.in_ok-opened.opened in
    record {
      leaves = leaves_then ⊥ ⊥ (g.D.Disk.state c.args.disk.now) (g.D.Disk.state c.loop-volume.disk) (g.D.Disk.state c.open_one.new.disk) inv.leaves
          (leaves_as _ ⊥ (g.D.Disk.state c.loop-volume.disk) (g.D.Disk.state c.open_one.new.disk) (λ f. absurd f) c.open_one.ensures.leaves);
      opened = λ t.
          let is = subst (λ (m : Files). IsOpen m volume opened) (inv.leaves.files t) (c.in_ok-opened.ensures.ok (inv.leaves.proceeds.tells ∙ t)) in
          open_more files c.args.listed.now c.loop-volume.volume-index none c.loop-volume.found.items c.keep.new.found.items opened c.loop-volume-test.true (inv.opened t) is c.in_ok-keep.ensures;
      points = points_more c.args.points.now.items c.loop-volume.points.items c.open_one.new.points.items c.loop-volume.found.items c.keep.new.found.items opened inv.points c.in_ok-opened.ensures.points c.in_ok-keep.ensures;
    }
