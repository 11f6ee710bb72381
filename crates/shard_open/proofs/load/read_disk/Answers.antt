use Rattle.std.proofs.Common.{◌≡◌, List, map, ◌++◌, ap, subst, ◌∙◌}
use Rattle.m3_model.specs.declared.point.Point.{Point}
use Rattle.snapshot_files.specs.m3_outside.Files.{Files}
use Rattle.snapshot_files.proofs.commit_log_proofs.Leaves.{leaves_as, leaves_then}
use Rattle.snapshot_files.proofs.commit_log_proofs.ReadLemmas.{passed_err}
use Rattle.snapshot_files.specs.shard_files.HeldEntries.{HoldsEntries}
use Rattle.snapshot_files.specs.shard_files.FilesHold.{volume_points}
use Rattle.snapshot_files.specs.shard_files.Loading.{LogTells, Tells}
use Rattle.snapshot_files.specs.shard_files.declared.load_err.LoadErr.TheVariants as failures
use Rattle.snapshot_files.proofs.shard_files_proofs.SegmentStops.{passed_on}
use Rattle.snapshot_files.specs.Told.{NewestTells}
use Rattle.shard_open.specs.Loads.{IsNewest, known_of}
use Rattle.shard_open.specs.Told.{FilesTell, OfSnapshot, OfLog, MayBeUnsound}
use Rattle.shard_open.proofs.OpenLemmas.{loaded_once, not_disk}
use Rattle.shard_open.proofs.ToldLemmas.{tells_as}
use Rattle.shard_open.proofs.load.read_disk.Goals as goal

pub returns-in_err-newest-clause-leaves : goal.returns-in_err-newest-clause-leaves
returns-in_err-newest-clause-leaves g c =
    leaves_then _ _ (g.D.Disk.state c.args.disk.now) (g.D.Disk.state c.open_volumes.new.disk) (g.D.Disk.state c.read_newest.new.disk) c.open_volumes.ensures.leaves
    (leaves_as _ _ (g.D.Disk.state c.open_volumes.new.disk) (g.D.Disk.state c.read_newest.new.disk)
    (λ f. passed_err c.from_residual-in_err-newest.result c.read_newest.result c.in_err-newest.field-0.0 failures.Disk c.in_err-newest.was c.from_residual-in_err-newest.ensures.1 f) c.read_newest.ensures.leaves)

pub returns-in_err-newest-clause-err : goal.returns-in_err-newest-clause-err
returns-in_err-newest-clause-err g c = λ t.
    let files = (g.D.Disk.state c.args.disk.now).files in
    let opened = c.open_volumes.ensures.leaves in
    let why = c.in_err-newest.field-0.0 in
    passed_on c.from_residual-in_err-newest.result why (MayBeUnsound files) c.from_residual-in_err-newest.ensures.1
    (tells_as (NewestTells files) (FilesTell files) (λ d told. OfSnapshot (map known_of c.in_ok-volumes.volumes) (c.in_ok-volumes.ensures.ok t) told) why
    (subst (λ (m : Files). Tells (NewestTells m) why) (opened.files t) (c.in_err-newest.ensures.err (opened.proceeds.tells ∙ t))))

pub returns-in_err-log-clause-leaves : goal.returns-in_err-log-clause-leaves
returns-in_err-log-clause-leaves g c =
    leaves_then _ _ (g.D.Disk.state c.args.disk.now) (g.D.Disk.state c.read_newest.new.disk) (g.D.Disk.state c.held_entries.new.disk)
    (leaves_then _ _ (g.D.Disk.state c.args.disk.now) (g.D.Disk.state c.open_volumes.new.disk) (g.D.Disk.state c.read_newest.new.disk) c.open_volumes.ensures.leaves c.read_newest.ensures.leaves)
    (leaves_as _ _ (g.D.Disk.state c.read_newest.new.disk) (g.D.Disk.state c.held_entries.new.disk)
    (λ f. passed_err c.from_residual-in_err-log.result c.held_entries.result c.in_err-log.field-0.0 failures.Disk c.in_err-log.was c.from_residual-in_err-log.ensures.1 f) c.held_entries.ensures.leaves)

pub returns-in_err-log-clause-err : goal.returns-in_err-log-clause-err
returns-in_err-log-clause-err g c = λ t.
    let files = (g.D.Disk.state c.args.disk.now).files in
    let opened = c.open_volumes.ensures.leaves in
    let both = leaves_then _ _ (g.D.Disk.state c.args.disk.now) (g.D.Disk.state c.open_volumes.new.disk) (g.D.Disk.state c.read_newest.new.disk) c.open_volumes.ensures.leaves c.read_newest.ensures.leaves in
    let why = c.in_err-log.field-0.0 in
    let newest = subst (λ (m : Files). IsNewest m c.in_ok-newest.newest) (opened.files t) (c.in_ok-newest.ensures.ok (opened.proceeds.tells ∙ t)) in
    passed_on c.from_residual-in_err-log.result why (MayBeUnsound files) c.from_residual-in_err-log.ensures.1
    (tells_as (LogTells files) (FilesTell files) (λ d told. OfLog (map known_of c.in_ok-volumes.volumes) (c.in_ok-volumes.ensures.ok t) newest.newest newest.is told) why
    (subst (λ (m : Files). Tells (LogTells m) why) (both.files t) (c.in_err-log.ensures.err (both.proceeds.tells ∙ t))))

pub returns-in_err-amount-clause-leaves : goal.returns-in_err-amount-clause-leaves
returns-in_err-amount-clause-leaves g c =
    leaves_then _ _ (g.D.Disk.state c.args.disk.now) (g.D.Disk.state c.read_newest.new.disk) (g.D.Disk.state c.held_entries.new.disk)
    (leaves_then _ _ (g.D.Disk.state c.args.disk.now) (g.D.Disk.state c.open_volumes.new.disk) (g.D.Disk.state c.read_newest.new.disk) c.open_volumes.ensures.leaves c.read_newest.ensures.leaves)
    (leaves_as _ _ (g.D.Disk.state c.read_newest.new.disk) (g.D.Disk.state c.held_entries.new.disk) (λ f. absurd (not_disk c.from_residual-in_err-amount.result c.from_residual-in_err-amount.ensures.1 f)) c.held_entries.ensures.leaves)

pub returns-in_err-claims-clause-leaves : goal.returns-in_err-claims-clause-leaves
returns-in_err-claims-clause-leaves g c =
    leaves_then _ _ (g.D.Disk.state c.args.disk.now) (g.D.Disk.state c.read_newest.new.disk) (g.D.Disk.state c.held_entries.new.disk)
    (leaves_then _ _ (g.D.Disk.state c.args.disk.now) (g.D.Disk.state c.open_volumes.new.disk) (g.D.Disk.state c.read_newest.new.disk) c.open_volumes.ensures.leaves c.read_newest.ensures.leaves)
    (leaves_as _ _ (g.D.Disk.state c.read_newest.new.disk) (g.D.Disk.state c.held_entries.new.disk) (λ f. absurd (not_disk c.from_residual-in_err-claims.result c.from_residual-in_err-claims.ensures.1 f)) c.held_entries.ensures.leaves)

pub returns-in_err-join_points-clause-leaves : goal.returns-in_err-join_points-clause-leaves
returns-in_err-join_points-clause-leaves g c =
    leaves_then _ _ (g.D.Disk.state c.args.disk.now) (g.D.Disk.state c.read_newest.new.disk) (g.D.Disk.state c.held_entries.new.disk)
    (leaves_then _ _ (g.D.Disk.state c.args.disk.now) (g.D.Disk.state c.open_volumes.new.disk) (g.D.Disk.state c.read_newest.new.disk) c.open_volumes.ensures.leaves c.read_newest.ensures.leaves)
    (leaves_as _ _ (g.D.Disk.state c.read_newest.new.disk) (g.D.Disk.state c.held_entries.new.disk) (λ f. absurd (not_disk c.from_residual-in_err-join_points.result c.from_residual-in_err-join_points.ensures.1 f)) c.held_entries.ensures.leaves)

pub returns-clause-leaves : goal.returns-clause-leaves
returns-clause-leaves g c =
    leaves_then _ _ (g.D.Disk.state c.args.disk.now) (g.D.Disk.state c.read_newest.new.disk) (g.D.Disk.state c.held_entries.new.disk)
    (leaves_then _ _ (g.D.Disk.state c.args.disk.now) (g.D.Disk.state c.open_volumes.new.disk) (g.D.Disk.state c.read_newest.new.disk) c.open_volumes.ensures.leaves c.read_newest.ensures.leaves)
    (leaves_as _ _ (g.D.Disk.state c.read_newest.new.disk) (g.D.Disk.state c.held_entries.new.disk) (λ f. absurd (cc)) c.held_entries.ensures.leaves)

pub returns-clause-ok : goal.returns-clause-ok
returns-clause-ok g c = λ t.
    let files = (g.D.Disk.state c.args.disk.now).files in
    let opened = c.open_volumes.ensures.leaves in
    let both = leaves_then _ _ (g.D.Disk.state c.args.disk.now) (g.D.Disk.state c.open_volumes.new.disk) (g.D.Disk.state c.read_newest.new.disk) c.open_volumes.ensures.leaves c.read_newest.ensures.leaves in
    let known = volume_points (map known_of c.in_ok-volumes.volumes) in
    let own : c.open_volumes.new.points.items ≡ known = c.in_ok-volumes.ensures.points ∙ ap (λ (l : List Point). l ++ known) c.new-of_volumes.ensures.items in
    loaded_once files c.in_ok-volumes.volumes c.in_ok-newest.newest c.in_ok-log.log.entries c.open_volumes.new.points.items c.in_ok-amount.amount.points _ c.in_ok-amount.amount.tenure c.in_ok-amount.amount.fence _ _ (c.in_ok-volumes.ensures.ok t)
    (subst (λ (m : Files). IsNewest m c.in_ok-newest.newest) (opened.files t) (c.in_ok-newest.ensures.ok (opened.proceeds.tells ∙ t)))
    (subst (λ (m : Files). HoldsEntries c.in_ok-log.log.entries m) (both.files t) (c.in_ok-log.ensures.ok (both.proceeds.tells ∙ t))) c.in_ok-amount.ensures.amount
    own c.in_ok-join_points.ensures c.greater-tenure.ensures c.greater.ensures
