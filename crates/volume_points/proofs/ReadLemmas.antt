-- The answer of several volumes, from those of fewer.
use Rattle.std.proofs.Common.{◌≡◌, ℕ, ◌<◌, ◌≤◌, List, [], ◌∷◌, length, take, drop, sym, ap, ◌∙◌, subst, arith, append-nil, get_or, Result, Ok, Err}
use Rattle.std.specs.Prelude.{IfOk, IfErr, IsErrOf}
use Rattle.std.specs.FinMap.{empty}
use Rattle.std.proofs.lemmas.List.Sums.{fold-append}
use Rattle.std.proofs.lemmas.Result.{IfOk-weaker}
use Rattle.m3_model.specs.Answers.{IsAnswer}
use Rattle.m3_model.specs.Contents.{Contents, content_of, raised}
use Rattle.m3_model.specs.declared.point.Pick.{Pick}
use Rattle.m3_model.specs.declared.point.Point.{Point}
use Rattle.m3_model.specs.declared.point.Series.{Series}
use Rattle.fileset_check.specs.m3_outside.Files.{Files}
use Rattle.fileset_check.specs.wire_bytes.Volumes.{VolumeHead, points_of_rows}
use Rattle.fileset_check.specs.shard_files.Parts.{KnownVolume, VolumeHolds}
use Rattle.fileset_check.specs.shard_files.FilesHold.{volume_points}
use Rattle.fileset_check.specs.fileset_read.declared.file_err.FileErr.{FileErr}
use Rattle.fileset_check.specs.fileset_read.declared.file_err.FileErr.TheVariants as failures
use Rattle.fileset_check.specs.volume_bytes.declared.heads.Head.{Head}
use Rattle.fileset_check.specs.volume_bytes.Heads.{head_of}
use Rattle.series_merge.specs.Merges.{IsMergeOf}
use Rattle.volume_points.specs.Known.{AreOf}
use Rattle.volume_points.proofs.AnswerLemmas.{answers_join, nothing_found}
use Rattle.volume_points.proofs.KnownLemmas.{of_none, of_one, points_of_both}

-- want of memory is no fault
pub not_fault : {X : Type 0} (r : Result X FileErr) → IfErr r (λ e. e ≡ failures.Memory) → IsErrOf r failures.Disk → ⊥
not_fault {X} (Ok x) h f = cc
not_fault {X} (Err e) h f = let same : ◌≡◌ {A = Result X FileErr} (Err failures.Memory) (Err failures.Disk) = ap Err (sym h) ∙ f in cc

module _ (files : Files) (pick : Pick) (from to : ℕ) where
  -- no volumes
  pub answer_none : (heads : List Head) → length heads < 1 → (known : List KnownVolume) → AreOf heads known files → IsAnswer (content_of (volume_points known)) pick from to []
  answer_none (head ∷ heads) few known a = absurd (omega (arith, few))
  answer_none [] few known a = subst (λ (l : List KnownVolume). IsAnswer (content_of (volume_points l)) pick from to []) (sym (of_none known files a)) (nothing_found pick from to)

  abbrev AnswersOne : Head → List Series → Type 0
  AnswersOne head series = (rows : List Series) → VolumeHolds (head_of head) rows files → IsAnswer (content_of (points_of_rows head.ns rows)) pick from to series

  abbrev AnswersAll : List Head → List Series → Type 0
  AnswersAll heads series = (known : List KnownVolume) → AreOf heads known files → IsAnswer (content_of (volume_points known)) pick from to series

  one_volume : (head : Head) (series : List Series) → AnswersOne head series → AnswersAll (head ∷ []) series
  one_volume head series h known a =
      let of = of_one head known files a in
      let rows = of.one.rows in
      let answer = h rows (subst (λ (v : VolumeHead). VolumeHolds v rows files) of.head_is of.holds) in
      let points : points_of_rows head.ns rows ≡ volume_points known =
      ap (λ (v : VolumeHead). points_of_rows v.ns rows) (sym of.head_is) ∙ sym (append-nil (points_of_rows of.one.head.ns rows)) ∙ ap volume_points (sym of.known_is) in
      subst (λ (ps : List Point). IsAnswer (content_of ps) pick from to series) points answer

  -- the first of one
  pub answer_first : (heads : List Head) (d : Head) (r : Result (List Series) FileErr) → 1 ≤ length heads → length heads < 2 → IfOk r (AnswersOne (get_or heads 0 d)) → IfOk r (AnswersAll heads)
  answer_first [] d r some few h = absurd (omega (arith, some))
  answer_first (head ∷ []) d r some few h = IfOk-weaker r (AnswersOne head) (AnswersAll (head ∷ [])) (one_volume head) h
  answer_first (head ∷ other ∷ heads) d r some few h = absurd (omega (arith, few))

  -- front and back
  pub answer_both : (n : ℕ) (known : List KnownVolume) (one other series : List Series) → IsAnswer (content_of (volume_points (take n known))) pick from to one
      → IsAnswer (content_of (volume_points (drop n known))) pick from to other → IsMergeOf one other series → IsAnswer (content_of (volume_points known)) pick from to series
  answer_both n known one other series a b merge =
      let front = volume_points (take n known) in
      let back = volume_points (drop n known) in
      subst (λ (c : Contents). IsAnswer c pick from to series) (sym (fold-append raised empty front back) ∙ ap content_of (sym (points_of_both n known)))
      (answers_join (content_of front) back pick from to one other series a b merge)
