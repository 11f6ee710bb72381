use Rattle.std.proofs.Common.{List, subst, ◌∙◌}
use Rattle.std.proofs.lemmas.Result.{IfOk-weaker}
use Rattle.snapshot_files.specs.m3_outside.Files.{Files}
use Rattle.snapshot_files.proofs.commit_log_proofs.Leaves.{leaves_then}
use Rattle.snapshot_files.specs.fileset_check.declared.volume.Volume.{Volume}
use Rattle.shard_open.specs.Loads.{AreOpen, AreOpened}
use Rattle.shard_open.proofs.OpenLemmas.{volumes_opened}
use Rattle.shard_open.proofs.volumes.open_volumes.Goals as goal

pub returns-clause-leaves : goal.returns-clause-leaves
returns-clause-leaves g c = leaves_then _ _ (g.D.Disk.state c.args.disk.now) (g.D.Disk.state c.volumes.new.disk) (g.D.Disk.state c.open_each.new.disk) c.volumes.ensures.leaves c.open_each.ensures.leaves

pub returns-clause-ok : goal.returns-clause-ok
returns-clause-ok g c = λ t.
    let leaves = c.volumes.ensures.leaves in
    let files = (g.D.Disk.state c.args.disk.now).files in
    let now = (g.D.Disk.state c.volumes.new.disk).files in
    IfOk-weaker c.open_each.result (AreOpen now c.as_slice.result.now) (λ found. AreOpened found files)
    (λ found open_.
    let own = subst (λ (l : List Volume). AreOpen now l found) c.as_slice.ensures open_ in
    volumes_opened files c.in-Ok.listed found (c.in-Ok.ensures.ok t) (subst (λ (m : Files). AreOpen m c.in-Ok.listed found) (leaves.files t) own))
    (c.open_each.ensures.ok (leaves.proceeds.tells ∙ t))
