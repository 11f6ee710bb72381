use Rattle.std.proofs.Common.{subst}
use Rattle.fileset_read.proofs.commit_log_proofs.Leaves.{leaves_as, leaves_none, leaves_then}
use Rattle.fileset_read.proofs.commit_log_proofs.ReadLemmas.{passed_err}
use Rattle.fileset_read.specs.volume_bytes.Heads.{head_of}
use Rattle.fileset_read.specs.declared.file_err.FileErr.TheVariants as failures
use Rattle.volume_rows.specs.Stretches.{FindsEntries, HasEntries, HaveNot}
use Rattle.volume_rows.proofs.DiskLemmas.{seeks}
use Rattle.volume_rows.proofs.rows.row_of.Goals as goal

pub returns-in-Ok-None-clause-leaves : goal.returns-in-Ok-None-clause-leaves
returns-in-Ok-None-clause-leaves g c = leaves_none _ (g.D.Disk.state c.args.disk.now) (λ f. absurd (cc))

pub returns-in-Ok-None-clause-ok : goal.returns-in-Ok-None-clause-ok
returns-in-Ok-None-clause-ok g c = λ t rows holds.
    let v = head_of c.args.head.now in
    let found : HaveNot c.args.id.now rows =
    subst (FindsEntries 1 c.args.id.now rows) c.in-Ok-None.field-0-is (c.in-Ok-None.ensures v rows holds.values (seeks v rows c.args.seeker.now (g.D.Disk.state c.args.disk.now).files (c.requires.seeker t) holds)) in
    found

pub returns-in-Err-clause-leaves : goal.returns-in-Err-clause-leaves
returns-in-Err-clause-leaves g c = leaves_none _ (g.D.Disk.state c.args.disk.now) (λ f. absurd (cc))

pub returns-in-Err-clause-sound : goal.returns-in-Err-clause-sound
returns-in-Err-clause-sound g c = λ t.
    let there = c.requires.there t in
    let v = head_of c.args.head.now in
    absurd (c.in-Err.ensures v there.rows there.holds.values (seeks v there.rows c.args.seeker.now (g.D.Disk.state c.args.disk.now).files (c.requires.seeker t) there.holds))

pub find_record-requires-clause-entries : goal.find_record-requires-clause-entries
find_record-requires-clause-entries g c = λ t rows holds.
    let v = head_of c.args.head.now in
    let found : HasEntries 1 c.args.id.now rows c.in-Ok-Some.stretch =
    subst (FindsEntries 1 c.args.id.now rows) c.in-Ok-Some.field-0-is (c.in-Ok-Some.ensures v rows holds.values (seeks v rows c.args.seeker.now (g.D.Disk.state c.args.disk.now).files (c.requires.seeker t) holds)) in
    found

pub returns-in_err-read_row-clause-leaves : goal.returns-in_err-read_row-clause-leaves
returns-in_err-read_row-clause-leaves g c =
    leaves_then _ _ (g.D.Disk.state c.args.disk.now) (g.D.Disk.state c.find_record.new.disk) (g.D.Disk.state c.read_row.new.disk) c.in_ok-spot.ensures.leaves
    (leaves_as _ _ (g.D.Disk.state c.find_record.new.disk) (g.D.Disk.state c.read_row.new.disk)
    (λ f. passed_err c.from_residual-in_err-read_row.result c.read_row.result c.in_err-read_row.field-0.0 failures.Disk c.in_err-read_row.was c.from_residual-in_err-read_row.ensures.1 f) c.read_row.ensures.leaves)

pub returns-clause-leaves : goal.returns-clause-leaves
returns-clause-leaves g c =
    leaves_then _ _ (g.D.Disk.state c.args.disk.now) (g.D.Disk.state c.find_record.new.disk) (g.D.Disk.state c.read_row.new.disk) c.in_ok-spot.ensures.leaves
    (leaves_as _ _ (g.D.Disk.state c.find_record.new.disk) (g.D.Disk.state c.read_row.new.disk) (λ f. absurd (cc)) c.in_ok-read_row.ensures.leaves)
