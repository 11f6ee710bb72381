-- The first points of several listed volumes, from those of fewer.
use Rattle.std.proofs.Common.{◌≡◌, ◌∙◌, ℕ, ◌<◌, ◌≤◌, ℤ, List, [], ◌∷◌, ◌++◌, length, take, drop, refl, sym, ap, subst, arith, append-nil, get_or, Result, fold}
use Rattle.std.specs.Prelude.{IfOk, Option, Some, None}
use Rattle.std.specs.List.{take-map, drop-map}
use Rattle.std.specs.FinMap.{get, get-empty}
use Rattle.std.proofs.lemmas.List.{take_all}
use Rattle.std.proofs.lemmas.Int.{ints}
use Rattle.m3_model.specs.Contents.{Contents, content_of, raised}
use Rattle.m3_model.specs.Keys.{key_cmp}
use Rattle.m3_model.specs.declared.point.Key.{Key}
use Rattle.m3_model.specs.declared.point.Point.{Point}
use Rattle.m3_model.specs.declared.point.Series.{Series}
use Rattle.volume_points.specs.wire_bytes.Volumes.{VolumeHead, IsVolume, points_of_rows}
use Rattle.volume_points.specs.shard_files.Parts.{KnownVolume}
use Rattle.volume_points.specs.shard_files.FilesHold.{volume_points}
use Rattle.volume_points.specs.fileset_read.declared.file_err.FileErr.{FileErr}
use Rattle.volume_points.proofs.JoinedLemmas.{get-joined, higher_of as higher_there}
use Rattle.volume_points.proofs.KnownLemmas.{points_of_both}
use Rattle.volume_points.proofs.VolumeLemmas.{rows_ascend}
use Rattle.first_points.specs.Bounds.{points_up_to}
use Rattle.first_points.specs.Firsts.{AreFirst}
use Rattle.first_points.specs.Merges.{IsJoinOf, higher_of}
use Rattle.first_points.proofs.RowLemmas.{first_below, none_of_space}
use Rattle.listed_volumes.specs.declared.volume.ListedVolume.{ListedVolume}
use Rattle.listed_volumes.specs.FirstListed.{IsSpaceAbove, IsSpaceBelow}
use Rattle.listed_volumes.specs.Listed.{known_as, known_in}

module _ (after : Option Key) (last : Option Point) (limit : ℕ) where
  -- what they have first above the key, up to the last point
  abbrev First : List KnownVolume → List Point → Type 0
  First known points = AreFirst (content_of (points_up_to last (volume_points known))) after limit points

  pub first_none : (vs : List ListedVolume) → length vs < 1 → First (known_in vs) []
  first_none (v ∷ vs) few = absurd (omega (arith, few))
  first_none [] few = record { in_turn = tt; few = omega arith; all = λ less k v here past. let none = get-empty {X = ℤ} key_cmp k in let bad : None ≡ Some v = sym none ∙ here in cc }

  -- the first of one
  pub first_alone : (vs : List ListedVolume) (v : ListedVolume) (r : Result (List Point) FileErr) → 1 ≤ length vs → length vs < 2 → v ≡ get_or vs 0 v
      → IfOk r (AreFirst (content_of (points_up_to last (points_of_rows v.head.ns v.rows.value))) after limit) → IfOk r (First (known_in vs))
  first_alone [] v r some few is h = absurd (omega (arith, some))
  first_alone (w ∷ []) v r some few is h =
      subst (λ (u : ListedVolume). IfOk r (First (known_as u ∷ []))) is (subst (λ (ps : List Point). IfOk r (AreFirst (content_of (points_up_to last ps)) after limit)) (sym (append-nil (points_of_rows v.head.ns v.rows.value))) h)
  first_alone (w ∷ x ∷ vs) v r some few is h = absurd (omega (arith, few))

  -- of volumes before the key's namespace nothing
  pub first_lower : (v : VolumeHead) (rows : List Series) → IsVolume v rows → IsSpaceBelow v.ns after → AreFirst (content_of (points_up_to last (points_of_rows v.ns rows))) after limit []
  first_lower v rows is low = by after low
    where
      by : (o : Option Key) → IsSpaceBelow v.ns o → AreFirst (content_of (points_up_to last (points_of_rows v.ns rows))) o limit []
      by None low = absurd low
      by (Some key) low =
          let asc = rows_ascend v rows is in
          subst (AreFirst (content_of (points_up_to last (points_of_rows v.ns rows))) (Some key) limit) (take_all limit [] (omega arith)) (first_below v.ns rows asc.ids asc.times last limit key low)

  -- of volumes of a namespace above the last point's nothing either
  pub first_upper : (ns : ℕ) (rows : List Series) → IsSpaceAbove ns last → AreFirst (content_of (points_up_to last (points_of_rows ns rows))) after limit []
  first_upper ns rows above = by last above
    where
      by : (o : Option Point) → IsSpaceAbove ns o → AreFirst (content_of (points_up_to o (points_of_rows ns rows))) after limit []
      by None above = absurd above
      by (Some p) above = subst (λ (points : List Point). AreFirst (content_of points) after limit []) (sym (none_of_space p ns rows above)) (first_none [] (omega arith))

higher_same : (o p : Option ℤ) → higher_there o p ≡ higher_of o p
higher_same o None = refl
higher_same o (Some v) = refl

-- a content, joined with points
pub join_of_points : (c : Contents) (points : List Point) → IsJoinOf c (content_of points) (fold raised c points)
join_of_points c points k = get-joined c points k ∙ higher_same (get c k) (get (content_of points) k)

-- a join is one whichever way round
higher_turned : (o p : Option ℤ) → higher_of o p ≡ higher_of p o
higher_turned None None = refl
higher_turned None (Some w) = refl
higher_turned (Some v) None = refl
higher_turned (Some v) (Some w) = ap Some (grind (arith, ints))

pub join_turned : (c d both : Contents) → IsJoinOf c d both → IsJoinOf d c both
join_turned c d both join k = join k ∙ higher_turned (get c k) (get d k)

-- the volumes' points are those of both parts
pub points_of_parts : (n : ℕ) (vs : List ListedVolume) → volume_points (known_in vs) ≡ volume_points (known_in (take n vs)) ++ volume_points (known_in (drop n vs))
points_of_parts n vs =
    points_of_both n (known_in vs) ∙ ap (λ (l : List KnownVolume). volume_points l ++ volume_points (drop n (known_in vs))) (take-map known_as n vs)
    ∙ ap (λ (l : List KnownVolume). volume_points (known_in (take n vs)) ++ volume_points l) (drop-map known_as n vs)
