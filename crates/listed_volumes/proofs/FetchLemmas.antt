-- The answer of several listed volumes, from those of fewer.
use Rattle.std.proofs.Common.{◌≡◌, ℕ, ◌<◌, ◌≤◌, List, [], ◌∷◌, length, take, drop, sym, subst, inl, refl, arith, append-nil, get_or, Result}
use Rattle.std.specs.Prelude.{IfOk}
use Rattle.std.specs.List.{take-map, drop-map}
use Rattle.m3_model.specs.Answers.{IsAnswer}
use Rattle.m3_model.specs.Contents.{content_of}
use Rattle.m3_model.specs.Members.{IsIn}
use Rattle.m3_model.specs.declared.point.Pick.{Pick}
use Rattle.m3_model.specs.declared.point.Point.{Point}
use Rattle.m3_model.specs.declared.point.Series.{Series}
use Rattle.volume_points.specs.m3_outside.Files.{Files}
use Rattle.volume_points.specs.wire_bytes.Volumes.{points_of_rows}
use Rattle.volume_points.specs.shard_files.Parts.{KnownVolume, VolumeHolds}
use Rattle.volume_points.specs.shard_files.FilesHold.{volume_points}
use Rattle.volume_points.specs.fileset_read.declared.file_err.FileErr.{FileErr}
use Rattle.volume_points.specs.volume_bytes.Heads.{head_of}
use Rattle.volume_points.specs.series_merge.Merges.{IsMergeOf}
use Rattle.volume_points.proofs.AnswerLemmas.{nothing_found}
use Rattle.volume_points.proofs.KnownLemmas.{in_drop, in_take}
use Rattle.volume_points.proofs.ReadLemmas.{answer_both}
use Rattle.listed_volumes.specs.declared.volume.ListedVolume.{ListedVolume}
use Rattle.listed_volumes.specs.Listed.{AreHeld, known_as, known_in}

pub in_front : (n : ℕ) (vs : List ListedVolume) (k : KnownVolume) → IsIn (known_in (take n vs)) k → IsIn (known_in vs) k
in_front n vs k m = in_take n (known_in vs) k (subst (λ (l : List KnownVolume). IsIn l k) (sym (take-map known_as n vs)) m)

pub in_back : (n : ℕ) (vs : List ListedVolume) (k : KnownVolume) → IsIn (known_in (drop n vs)) k → IsIn (known_in vs) k
in_back n vs k m = in_drop n (known_in vs) k (subst (λ (l : List KnownVolume). IsIn l k) (sym (drop-map known_as n vs)) m)

module _ (files : Files) where
  pub held_front : (n : ℕ) (vs : List ListedVolume) → AreHeld (known_in vs) files → AreHeld (known_in (take n vs)) files
  held_front n vs h = λ k m. h k (in_front n vs k m)

  pub held_back : (n : ℕ) (vs : List ListedVolume) → AreHeld (known_in vs) files → AreHeld (known_in (drop n vs)) files
  held_back n vs h = λ k m. h k (in_back n vs k m)

  pub held_first : (vs : List ListedVolume) (v : ListedVolume) → 1 ≤ length vs → v ≡ get_or vs 0 v → AreHeld (known_in vs) files → VolumeHolds (head_of v.head) v.rows.value files
  held_first [] v some is h = absurd (omega (arith, some))
  held_first (w ∷ vs) v some is h = subst (λ (u : ListedVolume). VolumeHolds (head_of u.head) u.rows.value files) (sym is) (h (known_as w) (inl refl))

module _ (pick : Pick) (from to : ℕ) where
  -- what they hold is asked for so
  abbrev Answers : List KnownVolume → List Series → Type 0
  Answers known series = IsAnswer (content_of (volume_points known)) pick from to series

  pub answers_none : (vs : List ListedVolume) → length vs < 1 → Answers (known_in vs) []
  answers_none (v ∷ vs) few = absurd (omega (arith, few))
  answers_none [] few = nothing_found pick from to

  -- the first of one
  pub answers_first : (vs : List ListedVolume) (v : ListedVolume) (r : Result (List Series) FileErr) → 1 ≤ length vs → length vs < 2 → v ≡ get_or vs 0 v
      → IfOk r (IsAnswer (content_of (points_of_rows v.head.ns v.rows.value)) pick from to) → IfOk r (Answers (known_in vs))
  answers_first [] v r some few is h = absurd (omega (arith, some))
  answers_first (w ∷ []) v r some few is h =
      subst (λ (u : ListedVolume). IfOk r (Answers (known_as u ∷ []))) is
      (subst (λ (ps : List Point). IfOk r (IsAnswer (content_of ps) pick from to)) (sym (append-nil (points_of_rows v.head.ns v.rows.value))) h)
  answers_first (w ∷ x ∷ vs) v r some few is h = absurd (omega (arith, few))

  -- front and back
  pub answers_both : (files : Files) (n : ℕ) (vs : List ListedVolume) (one other series : List Series) → Answers (known_in (take n vs)) one → Answers (known_in (drop n vs)) other → IsMergeOf one other series → Answers (known_in vs) series
  answers_both files n vs one other series a b merge =
      answer_both files pick from to n (known_in vs) one other series (subst (λ (l : List KnownVolume). Answers l one) (sym (take-map known_as n vs)) a) (subst (λ (l : List KnownVolume). Answers l other) (sym (drop-map known_as n vs)) b) merge
