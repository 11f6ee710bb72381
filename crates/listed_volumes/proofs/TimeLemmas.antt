-- Volumes that have none of the points above a key and up to a last one, by the times of their blocks.
use Rattle.std.proofs.Common.{◌≡◌, ◌∙◌, ◌⊎◌, ℕ, ℤ, ◌<◌, ◌≤◌, ◌+◌, List, [], true, refl, sym, ap, inl, inr, arith, true≢false}
use Rattle.std.specs.Prelude.{Option, Some, None, not}
use Rattle.std.specs.FinMap.{get, nat_cmp-IsAntisymmetric, slice_cmp-IsAntisymmetric}
use Rattle.std.specs.Cmp.Lexicographic.{slice_cmp, nat_list_cmp_total}
use Rattle.std.specs.Ordering.{is_lt, nat_cmp, ordering_reverse}
use Rattle.std.specs.declared.cmp.Ordering.{Ordering}
use Rattle.std.specs.declared.cmp.Ordering.TheVariants.{Less, Equal, Greater}
use Rattle.m3_model.specs.Contents.{content_of, key_of, point_at}
use Rattle.m3_model.specs.Keys.{key_cmp}
use Rattle.m3_model.specs.declared.point.Key.{Key}
use Rattle.m3_model.specs.declared.point.Point.{Point}
use Rattle.m3_model.specs.declared.point.Series.{Series}
use Rattle.m3_model.proofs.Lists.{IsIn-filter}
use Rattle.volume_points.specs.wire_bytes.Volumes.{VolumeHead, IsVolume, points_of_rows}
use Rattle.volume_points.proofs.VolumeLemmas.{row_points}
use Rattle.volume_points.proofs.series_merge_proofs.OrderLemmas.{content_in}
use Rattle.first_points.specs.Bounds.{is_up_to, points_up_to}
use Rattle.first_points.specs.Firsts.{AreFirst}
use Rattle.first_points.proofs.KeyOrder.{by_id, by_time, not_by_time}
use Rattle.first_points.proofs.TurnLemmas.{not_both}
use Rattle.listed_volumes.specs.FirstListed.{IsApart, IsTimeApart}
use Rattle.listed_volumes.proofs.FirstLemmas.{first_lower, first_upper}
use Rattle.listed_volumes.proofs.NeededLemmas.{from_within}

-- what is up to a point isn't above it
not_above : (last : Point) (q : Key) → is_up_to (Some last) q ≡ true → key_cmp (key_of last) q ≡ Less → ⊥
not_above last q within above = true≢false (sym within ∙ ap (λ o. not (is_lt o)) above)

module _ (v : VolumeHead) (rows : List Series) (k : Key) (last : Point) (is : IsVolume v rows) (apart : IsTimeApart v k last) where
  -- a key between both is of their identifier, and its time lies between theirs
  none_between : (q : Key) → q.ns ≡ v.ns → v.start ≤ q.t → q.t < v.start + v.size → key_cmp k q ≡ Less → is_up_to (Some last) q ≡ true → ⊥
  none_between q space low high past within = by (slice_cmp nat_cmp k.id q.id) refl apart.times
    where
      of_key : k.ns ≡ q.ns
      of_key = apart.key_ns ∙ sym space

      of_last : last.ns ≡ q.ns
      of_last = apart.last_ns ∙ sym space

      by : (o : Ordering) → slice_cmp nat_cmp k.id q.id ≡ o → (v.start + v.size ≤ k.t) ⊎ (last.t < v.start) → ⊥
      by Less e times = not_above last q within (by_id (key_of last) q of_last (ap (λ (i : List ℕ). slice_cmp nat_cmp i q.id) (sym apart.id) ∙ e))
      by Greater e times = not_both k q past (by_id q k (sym of_key) (nat_list_cmp_total.antisymm q.id k.id ∙ ap ordering_reverse e))
      by Equal e (inl early) =
          let same : k.id ≡ q.id = slice_cmp-IsAntisymmetric nat_cmp-IsAntisymmetric k.id q.id e in
          not_by_time k q of_key same (omega (arith, early, high)) past
      by Equal e (inr late) =
          let same : k.id ≡ q.id = slice_cmp-IsAntisymmetric nat_cmp-IsAntisymmetric k.id q.id e in
          not_above last q within (by_time (key_of last) q of_last (sym apart.id ∙ same) (omega (arith, late, low)))

  pub first_between : (limit : ℕ) → AreFirst (content_of (points_up_to (Some last) (points_of_rows v.ns rows))) (Some k) limit []
  first_between limit = record { in_turn = tt; few = omega arith; all = λ less q w here past. none q w here past }
    where
      none : (q : Key) (w : ℤ) → get (content_of (points_up_to (Some last) (points_of_rows v.ns rows))) q ≡ Some w → key_cmp k q ≡ Less → ⊥
      none q w here past =
          let points = points_of_rows v.ns rows in
          let there = IsIn-filter (λ p. is_up_to (Some last) (key_of p)) points (point_at q w) (content_in (points_up_to (Some last) points) (point_at q w) here) in
          let b = row_points v rows (point_at q w) is there in
          none_between q b.space b.low b.high past (from_within (Some last) points q w here)

-- of volumes that lie apart nothing is among the first
pub first_apart : (after : Option Key) (last : Option Point) (limit : ℕ) (v : VolumeHead) (rows : List Series) → IsVolume v rows → IsApart v after last → AreFirst (content_of (points_up_to last (points_of_rows v.ns rows))) after limit []
first_apart after last limit v rows is (inl low) = first_lower after last limit v rows is low
first_apart after last limit v rows is (inr (inl above)) = first_upper after last limit v.ns rows above
first_apart (Some k) (Some last) limit v rows is (inr (inr apart)) = first_between v rows k last is apart limit
first_apart (Some k) None limit v rows is (inr (inr apart)) = absurd apart
first_apart None last limit v rows is (inr (inr apart)) = absurd apart
