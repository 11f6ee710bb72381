use Rattle.std.proofs.Common.{rules, ◌∙◌, ◌/◌, ℕ, List, length, sym, subst}
use Rattle.std.proofs.lemmas.Result.{IfOk-weaker}
use Rattle.m3_model.specs.Answers.{IsAnswer}
use Rattle.m3_model.specs.Contents.{content_of}
use Rattle.m3_model.specs.Members.{IsIn}
use Rattle.m3_model.specs.declared.point.Series.{Series}
use Rattle.volume_points.specs.m3_outside.Files.{Files}
use Rattle.volume_points.proofs.commit_log_proofs.Leaves.{leaves_none, leaves_as, leaves_then}
use Rattle.volume_points.proofs.commit_log_proofs.ReadLemmas.{passed_err}
use Rattle.volume_points.specs.shard_files.FilesHold.{volume_points}
use Rattle.volume_points.specs.fileset_read.declared.file_err.FileErr.TheVariants as failures
use Rattle.volume_points.specs.series_merge.Merges.{IsMergeOf}
use Rattle.volume_points.proofs.ReadLemmas.{not_fault}
use Rattle.listed_volumes.specs.declared.volume.ListedVolume.{ListedVolume}
use Rattle.listed_volumes.specs.Cached.{AreRight}
use Rattle.listed_volumes.specs.Listed.{AreHeld, known_in}
use Rattle.listed_volumes.proofs.FetchLemmas.{answers_both, answers_first, answers_none, held_back, held_first, held_front, in_back, in_front}
use Rattle.listed_volumes.proofs.fetching.+fetch.Goals as goal

pub fetch_one-requires-clause-there : goal.fetch_one-requires-clause-there
fetch_one-requires-clause-there g t c = λ tells. held_first (g.D.Disk.state c.args.disk.now).files c.args.volumes.now c.volume-item.result c.in-len1.len_at_least c.volume-item.is (c.requires.there tells)

pub fetch-requires : goal.fetch-requires
fetch-requires g t c κs within = (
  search rules,
  (
    search rules,
    (
      (λ tells.
          let files = (g.D.Disk.state c.args.disk.now).files in
          subst (λ (l : List ListedVolume). AreHeld (known_in l) files) (sym c.split_at.ensures.front) (held_front files _ c.args.volumes.now (c.requires.there tells))),
      (λ tells.
          subst (λ (l : List ListedVolume). AreRight (known_in l) c.args.kept.now) (sym c.split_at.ensures.front) (λ k m. c.requires.right tells k (in_front _ c.args.volumes.now k m))),
    ),
  ),
)

pub fetch-requires-in_default : goal.fetch-requires-in_default
fetch-requires-in_default g t c κs within = (
  search rules,
  (
    search rules,
    (
      (λ later.
          let files = (g.D.Disk.state c.args.disk.now).files in
          let leaves = c.fetch.ensures.leaves in
          let tells = sym leaves.proceeds.tells ∙ later in
          subst (λ (m : Files). AreHeld (known_in c.split_at.result.1.now) m) (sym (leaves.files tells))
          (subst (λ (l : List ListedVolume). AreHeld (known_in l) files) (sym c.split_at.ensures.back) (held_back files _ c.args.volumes.now (c.requires.there tells)))),
      (λ later.
          let tells = sym c.fetch.ensures.leaves.proceeds.tells ∙ later in
          let right = c.fetch.ensures.right tells (known_in c.args.volumes.now) (c.requires.there tells) (c.requires.right tells) in
          subst (λ (l : List ListedVolume). AreRight (known_in l) c.fetch.new.kept) (sym c.split_at.ensures.back) (λ k m. right k (in_back _ c.args.volumes.now k m))),
    ),
  ),
)

pub returns-in_err-late-in_default-clause-leaves : goal.returns-in_err-late-in_default-clause-leaves
returns-in_err-late-in_default-clause-leaves g t c =
    leaves_then _ _ (g.D.Disk.state c.args.disk.now) (g.D.Disk.state c.fetch.new.disk) (g.D.Disk.state c.fetch-in_default.new.disk) c.fetch.ensures.leaves
    (leaves_as _ _ (g.D.Disk.state c.fetch.new.disk) (g.D.Disk.state c.fetch-in_default.new.disk)
    (λ f. passed_err c.from_residual-in_err-late-in_default.result c.fetch-in_default.result c.in_err-late-in_default.field-0.0 failures.Disk c.in_err-late-in_default.was c.from_residual-in_err-late-in_default.ensures.1 f) c.fetch-in_default.ensures.leaves)

pub returns-in-empty-clause-leaves : goal.returns-in-empty-clause-leaves
returns-in-empty-clause-leaves g t c = leaves_none _ (g.D.Disk.state c.args.disk.now) (λ f. absurd (cc))

pub returns-in-empty-clause-answer : goal.returns-in-empty-clause-answer
returns-in-empty-clause-answer g t c = λ tells.
    subst (λ (series : List Series). IsAnswer (content_of (volume_points (known_in c.args.volumes.now))) c.args.pick.now c.args.from c.args.to series) (sym c.new.ensures)
    (answers_none c.args.pick.now c.args.from c.args.to c.args.volumes.now c.in-empty.len_below)

pub returns-in-len1-clause-answer : goal.returns-in-len1-clause-answer
returns-in-len1-clause-answer g t c = λ tells.
    answers_first c.args.pick.now c.args.from c.args.to c.args.volumes.now c.volume-item.result c.fetch_one.result c.in-len1.len_at_least c.in-len1.len_below c.volume-item.is (c.fetch_one.ensures.answer tells)

pub returns-in_ok-late-in_default-clause-leaves : goal.returns-in_ok-late-in_default-clause-leaves
returns-in_ok-late-in_default-clause-leaves g t c =
    leaves_then _ _ (g.D.Disk.state c.args.disk.now) (g.D.Disk.state c.fetch.new.disk) (g.D.Disk.state c.fetch-in_default.new.disk) c.fetch.ensures.leaves
    (leaves_as _ _ (g.D.Disk.state c.fetch.new.disk) (g.D.Disk.state c.fetch-in_default.new.disk) (λ f. absurd (not_fault c.both.result c.both.ensures.err f)) c.fetch-in_default.ensures.leaves)

pub returns-in_ok-late-in_default-clause-answer : goal.returns-in_ok-late-in_default-clause-answer
returns-in_ok-late-in_default-clause-answer g t c = λ tells.
    let files = (g.D.Disk.state c.args.disk.now).files in
    let leaves = c.fetch.ensures.leaves in
    let vs = c.args.volumes.now in
    let n : ℕ = length vs / 2 in
    let pick = c.args.pick.now in
    let from = c.args.from in
    let to = c.args.to in
    let early = c.in_ok-early-in_default.early in
    let late = c.in_ok-late-in_default.late in
    IfOk-weaker c.both.result (IsMergeOf early late) (IsAnswer (content_of (volume_points (known_in vs))) pick from to)
    (λ series merge.
    answers_both pick from to files n vs early late series
    (subst (λ (l : List ListedVolume). IsAnswer (content_of (volume_points (known_in l))) pick from to early) c.split_at.ensures.front (c.in_ok-early-in_default.ensures.answer tells))
    (subst (λ (l : List ListedVolume). IsAnswer (content_of (volume_points (known_in l))) pick from to late) c.split_at.ensures.back (c.in_ok-late-in_default.ensures.answer (leaves.proceeds.tells ∙ tells)))
    merge)
    c.both.ensures.ok

-- ---- what is kept of the volumes

pub returns-in_err-early-in_default-clause-kept : goal.returns-in_err-early-in_default-clause-kept
returns-in_err-early-in_default-clause-kept g t c = λ known among listed. c.fetch.ensures.kept known (λ k m. among k (in_front _ c.args.volumes.now k (subst (λ (l : List ListedVolume). IsIn (known_in l) k) c.split_at.ensures.front m))) listed

pub returns-in_err-late-in_default-clause-kept : goal.returns-in_err-late-in_default-clause-kept
returns-in_err-late-in_default-clause-kept g t c = λ known among listed.
    c.fetch-in_default.ensures.kept known (λ k m. among k (in_back _ c.args.volumes.now k (subst (λ (l : List ListedVolume). IsIn (known_in l) k) c.split_at.ensures.back m)))
    (c.fetch.ensures.kept known (λ k m. among k (in_front _ c.args.volumes.now k (subst (λ (l : List ListedVolume). IsIn (known_in l) k) c.split_at.ensures.front m))) listed)

pub returns-in_ok-late-in_default-clause-kept : goal.returns-in_ok-late-in_default-clause-kept
returns-in_ok-late-in_default-clause-kept g t c = λ known among listed.
    c.fetch-in_default.ensures.kept known (λ k m. among k (in_back _ c.args.volumes.now k (subst (λ (l : List ListedVolume). IsIn (known_in l) k) c.split_at.ensures.back m)))
    (c.fetch.ensures.kept known (λ k m. among k (in_front _ c.args.volumes.now k (subst (λ (l : List ListedVolume). IsIn (known_in l) k) c.split_at.ensures.front m))) listed)
