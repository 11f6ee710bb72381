use Rattle.std.proofs.Common.{refl, sym, subst, ◌∙◌}
use Rattle.std.specs.Option.{option_copied}
use Rattle.fileset_read.proofs.commit_log_proofs.Leaves.{leaves_as, leaves_none, leaves_then}
use Rattle.fileset_read.proofs.commit_log_proofs.ReadLemmas.{passed_err}
use Rattle.fileset_read.specs.shard_files.Parts.{VolumeHolds}
use Rattle.fileset_read.specs.volume_bytes.Heads.{head_of}
use Rattle.fileset_read.specs.declared.file_err.FileErr.TheVariants as failures
use Rattle.volume_rows.proofs.DiskLemmas.{seeks}
use Rattle.volume_rows.proofs.RangeLemmas.{rows_found}
use Rattle.volume_rows.proofs.ranges.rows_from.Goals as goal

pub returns-in-Err-clause-leaves : goal.returns-in-Err-clause-leaves
returns-in-Err-clause-leaves g c = leaves_none _ (g.D.Disk.state c.args.disk.now) (λ f. absurd (cc))

pub returns-in-Err-clause-sound : goal.returns-in-Err-clause-sound
returns-in-Err-clause-sound g c = λ t.
    let there = c.requires.there t in
    let v = head_of c.args.head.now in
    absurd (c.in-Err.ensures v there.rows there.holds.values (seeks v there.rows c.args.seeker.now (g.D.Disk.state c.args.disk.now).files (c.requires.seeker t) there.holds))

pub records_from-requires-clause-entries : goal.records_from-requires-clause-entries
records_from-requires-clause-entries g c = λ t rows holds.
    let v = head_of c.args.head.now in
    c.in-Ok.ensures v rows holds.values (seeks v rows c.args.seeker.now (g.D.Disk.state c.args.disk.now).files (c.requires.seeker t) holds)

pub returns-in_err-rows-clause-leaves : goal.returns-in_err-rows-clause-leaves
returns-in_err-rows-clause-leaves g c =
    leaves_then _ _ (g.D.Disk.state c.args.disk.now) (g.D.Disk.state c.records_from.new.disk) (g.D.Disk.state c.read_rows.new.disk) c.in_ok-extent.ensures.leaves
    (leaves_as _ _ (g.D.Disk.state c.records_from.new.disk) (g.D.Disk.state c.read_rows.new.disk)
    (λ f. passed_err c.from_residual-in_err-rows.result c.read_rows.result c.in_err-rows.field-0.0 failures.Disk c.in_err-rows.was c.from_residual-in_err-rows.ensures.1 f) c.read_rows.ensures.leaves)

pub returns-clause-leaves : goal.returns-clause-leaves
returns-clause-leaves g c =
    leaves_then _ _ (g.D.Disk.state c.args.disk.now) (g.D.Disk.state c.records_from.new.disk) (g.D.Disk.state c.read_rows.new.disk) c.in_ok-extent.ensures.leaves
    (leaves_as _ _ (g.D.Disk.state c.records_from.new.disk) (g.D.Disk.state c.read_rows.new.disk) (λ f. absurd (cc)) c.in_ok-rows.ensures.leaves)

pub returns-clause-ok : goal.returns-clause-ok
returns-clause-ok g c = λ t rows holds.
    let one = c.in_ok-extent.ensures.leaves in
    let read = c.in_ok-rows.ensures.ok (one.proceeds.tells ∙ t) rows (subst (VolumeHolds (head_of c.args.head.now) rows) (sym (one.files t)) holds) in
    rows_found c.args.id.now (option_copied c.args.last) c.args.most rows c.in_ok-extent.extent (record { rows = c.in_ok-rows.rows; whole = c.in_ok-extent.extent.whole }) (c.in_ok-extent.ensures.ok t rows holds) read refl
