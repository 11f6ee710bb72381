use Rattle.std.proofs.lemmas.Result.{IfOk-weaker}
use Rattle.fileset_check.specs.shard_files.Parts.{snapshot_checkpoint, snapshot_data}
use Rattle.fileset_check.specs.shard_files.Damage.{BreaksDigest, BreaksForm, IsGate}
use Rattle.fileset_check.proofs.shard_files_proofs.SegmentStops.{passed_on}
use Rattle.fileset_check.proofs.commit_log_proofs.ReadLemmas.{passed_err}
use Rattle.fileset_check.specs.Told.{MayTell}
use Rattle.fileset_check.specs.declared.check_err.CheckErr.TheVariants as failures
use Rattle.fileset_check.proofs.FirstLemmas.{tells_as}
use Rattle.snapshot_files.specs.Told.{IsUnfit, SnapshotTells}
use Rattle.snapshot_files.proofs.CheckLemmas.{gate_told, kept_told, body_told, is_there, each_err}
use Rattle.snapshot_files.proofs.check.check_files.Goals as goal

pub returns-in_err-kept-clause-calm : goal.returns-in_err-kept-clause-calm
returns-in_err-kept-clause-calm c = λ f. c.read_gate.ensures.calm (passed_err c.from_residual.result c.read_gate.result c.in_err-kept.field-0.0 failures.Disk c.in_err-kept.was c.from_residual.ensures.1 f)

pub returns-in_err-kept-clause-err : goal.returns-in_err-kept-clause-err
returns-in_err-kept-clause-err c = λ files a.
    let number = c.args.number in
    passed_on c.from_residual.result c.in_err-kept.field-0.0 (MayTell (SnapshotTells number files)) c.from_residual.ensures.1
    (tells_as (BreaksForm IsGate files (snapshot_checkpoint number)) (SnapshotTells number files) c.in_err-kept.field-0.0 (λ d f. gate_told number files c.args.gate.now c.args.body.now a d f) (c.in_err-kept.ensures.err files a.checkpoint))

pub returns-in_err-check_digest-clause-calm : goal.returns-in_err-check_digest-clause-calm
returns-in_err-check_digest-clause-calm c = λ f.
    c.check_digest.ensures.calm (passed_err c.from_residual-in_err-check_digest.result c.check_digest.result c.in_err-check_digest.field-0.0 failures.Disk c.in_err-check_digest.was c.from_residual-in_err-check_digest.ensures.1 f)

pub returns-in_err-check_digest-clause-err : goal.returns-in_err-check_digest-clause-err
returns-in_err-check_digest-clause-err c = λ files a.
    let number = c.args.number in
    let kept = c.in_ok-kept.kept in
    passed_on c.from_residual-in_err-check_digest.result c.in_err-check_digest.field-0.0 (MayTell (SnapshotTells number files)) c.from_residual-in_err-check_digest.ensures.1
    (tells_as (BreaksDigest kept files (snapshot_data number)) (SnapshotTells number files) c.in_err-check_digest.field-0.0
    (λ d f. kept_told number files c.args.gate.now c.args.body.now a kept c.in_ok-kept.ensures.long c.in_ok-kept.ensures.ok d f) (c.in_err-check_digest.ensures.err files a.content))

pub returns-clause-ok : goal.returns-clause-ok
returns-clause-ok c = λ files a.
    let number = c.args.number in
    IfOk-weaker c.body_in.result _ _ (λ s r. is_there number files c.args.gate.now c.args.body.now a c.in_ok-kept.kept c.in_ok-kept.ensures.long c.in_ok-kept.ensures.ok c.in_ok-check_digest.ensures.ok c.bytes_in.result.now c.bytes_in.ensures s r) c.body_in.ensures.ok

pub returns-clause-err : goal.returns-clause-err
returns-clause-err c = λ files a.
    let number = c.args.number in
    each_err c.body_in.result (IsUnfit number c.bytes_in.result.now) (SnapshotTells number files)
    (λ d f. body_told number files c.args.gate.now c.args.body.now a c.in_ok-kept.kept c.in_ok-kept.ensures.long c.in_ok-kept.ensures.ok c.in_ok-check_digest.ensures.ok c.bytes_in.result.now c.bytes_in.ensures d f) c.body_in.ensures.err
