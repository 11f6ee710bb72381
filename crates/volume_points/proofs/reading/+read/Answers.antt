use Rattle.std.proofs.Common.{rules, ◌∙◌, ◌/◌, ℕ, List, length, take, drop, sym, subst}
use Rattle.std.proofs.lemmas.Result.{IfOk-weaker}
use Rattle.m3_model.specs.Answers.{IsAnswer}
use Rattle.m3_model.specs.Contents.{content_of}
use Rattle.m3_model.specs.declared.point.Series.{Series}
use Rattle.fileset_check.specs.m3_outside.Files.{Files}
use Rattle.fileset_check.proofs.commit_log_proofs.Leaves.{leaves_none, leaves_as, leaves_then}
use Rattle.fileset_check.proofs.commit_log_proofs.ReadLemmas.{passed_err}
use Rattle.fileset_check.specs.shard_files.Parts.{KnownVolume}
use Rattle.fileset_check.specs.shard_files.FilesHold.{volume_points}
use Rattle.fileset_check.specs.fileset_read.declared.file_err.FileErr.TheVariants as failures
use Rattle.fileset_check.specs.volume_bytes.declared.heads.Head.{Head}
use Rattle.series_merge.specs.Merges.{IsMergeOf}
use Rattle.volume_points.specs.Known.{AreOf, AreThere}
use Rattle.volume_points.proofs.KnownLemmas.{of_back, of_front, there_back, there_front}
use Rattle.volume_points.proofs.ReadLemmas.{answer_both, answer_first, answer_none, not_fault}
use Rattle.volume_points.proofs.reading.+read.Goals as goal

pub read-requires : goal.read-requires
read-requires g t c κs within = (
  search rules,
  (
    search rules,
    λ tells.
        let files = (g.D.Disk.state c.args.disk.now).files in
        subst (λ (l : List Head). AreThere l files) (sym c.split_at.ensures.front) (there_front _ c.args.volumes.now files (c.requires tells)),
  ),
)

pub read-requires-in_default : goal.read-requires-in_default
read-requires-in_default g t c κs within = (
  search rules,
  (
    search rules,
    λ later.
        let files = (g.D.Disk.state c.args.disk.now).files in
        let leaves = c.read.ensures.leaves in
        let tells = sym leaves.proceeds.tells ∙ later in
        subst (λ (m : Files). AreThere c.split_at.result.1.now m) (sym (leaves.files tells))
        (subst (λ (l : List Head). AreThere l files) (sym c.split_at.ensures.back) (there_back _ c.args.volumes.now files (c.requires tells))),
  ),
)

pub returns-in_err-late-in_default-clause-leaves : goal.returns-in_err-late-in_default-clause-leaves
returns-in_err-late-in_default-clause-leaves g t c =
    leaves_then _ _ (g.D.Disk.state c.args.disk.now) (g.D.Disk.state c.read.new.disk) (g.D.Disk.state c.read-in_default.new.disk) c.read.ensures.leaves
    (leaves_as _ _ (g.D.Disk.state c.read.new.disk) (g.D.Disk.state c.read-in_default.new.disk)
    (λ f. passed_err c.from_residual-in_err-late-in_default.result c.read-in_default.result c.in_err-late-in_default.field-0.0 failures.Disk c.in_err-late-in_default.was c.from_residual-in_err-late-in_default.ensures.1 f) c.read-in_default.ensures.leaves)

pub returns-in-empty-clause-leaves : goal.returns-in-empty-clause-leaves
returns-in-empty-clause-leaves g t c = leaves_none _ (g.D.Disk.state c.args.disk.now) (λ f. absurd (cc))

pub returns-in-empty-clause-answer : goal.returns-in-empty-clause-answer
returns-in-empty-clause-answer g t c = λ tells known a.
    let files = (g.D.Disk.state c.args.disk.now).files in
    subst (λ (series : List Series). IsAnswer (content_of (volume_points known)) c.args.pick.now c.args.from c.args.to series) (sym c.new.ensures)
    (answer_none files c.args.pick.now c.args.from c.args.to c.args.volumes.now c.in-empty.len_below known a)

pub returns-in-len1-clause-answer : goal.returns-in-len1-clause-answer
returns-in-len1-clause-answer g t c = λ tells.
    answer_first (g.D.Disk.state c.args.disk.now).files c.args.pick.now c.args.from c.args.to c.args.volumes.now _ c.read_volume.result c.in-len1.len_at_least c.in-len1.len_below (c.read_volume.ensures.answer tells)

pub returns-in_ok-late-in_default-clause-leaves : goal.returns-in_ok-late-in_default-clause-leaves
returns-in_ok-late-in_default-clause-leaves g t c =
    leaves_then _ _ (g.D.Disk.state c.args.disk.now) (g.D.Disk.state c.read.new.disk) (g.D.Disk.state c.read-in_default.new.disk) c.read.ensures.leaves
    (leaves_as _ _ (g.D.Disk.state c.read.new.disk) (g.D.Disk.state c.read-in_default.new.disk) (λ f. absurd (not_fault c.both.result c.both.ensures.err f)) c.read-in_default.ensures.leaves)

pub returns-in_ok-late-in_default-clause-answer : goal.returns-in_ok-late-in_default-clause-answer
returns-in_ok-late-in_default-clause-answer g t c = λ tells.
    let files = (g.D.Disk.state c.args.disk.now).files in
    let leaves = c.read.ensures.leaves in
    let heads = c.args.volumes.now in
    let n : ℕ = length heads / 2 in
    let pick = c.args.pick.now in
    let early = c.in_ok-early-in_default.early in
    let late = c.in_ok-late-in_default.late in
    IfOk-weaker c.both.result (IsMergeOf early late) (λ series. (known : List KnownVolume) → AreOf heads known files → IsAnswer (content_of (volume_points known)) pick c.args.from c.args.to series)
    (λ series merge known a.
    answer_both files pick c.args.from c.args.to n known early late series
    (c.in_ok-early-in_default.ensures.answer tells (take n known) (subst (λ (l : List Head). AreOf l (take n known) files) (sym c.split_at.ensures.front) (of_front n heads known files a)))
    (c.in_ok-late-in_default.ensures.answer (leaves.proceeds.tells ∙ tells) (drop n known)
    (subst (λ (m : Files). AreOf c.split_at.result.1.now (drop n known) m) (sym (leaves.files tells)) (subst (λ (l : List Head). AreOf l (drop n known) files) (sym c.split_at.ensures.back) (of_back n heads known files a))))
    merge)
    c.both.ensures.ok
