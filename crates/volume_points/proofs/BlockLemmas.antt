-- The rows of a new volume of a block.
use Rattle.std.proofs.Common.{◌≡◌, ℕ, ◌+◌, ◌*◌, ◌<◌, ◌≤◌, ◌^◌, ℤ, List, [], ◌∷◌, ◌++◌, length, fold, refl, sym, ◌∙◌, subst, inl, inr, arith, length-append, Result, Err, IsErrAnd}
use Rattle.std.specs.Prelude.{◌⊎◌, IsUtf8, IsErrOf, filter, ◌==◌, ◌&&◌}
use Rattle.std.specs.FinMap.{empty}
use Rattle.std.proofs.lemmas.Bool.{eqb-true}
use Rattle.std.proofs.lemmas.List.Sums.{sum_by-cons}
use Rattle.std.proofs.lemmas.Result.{err_from_is_err_and}
use Rattle.m3_model.specs.Answers.{HasPoint, IsAnswer}
use Rattle.m3_model.specs.Contents.{Contents, Holds, content_of, raised}
use Rattle.m3_model.specs.Members.{IsIn}
use Rattle.m3_model.specs.Reads.{InRange, IsOrdered, points_in}
use Rattle.m3_model.specs.declared.limits.TheConstants.{DURATION_END, MOST_ID_BYTES, MOST_NAMESPACES}
use Rattle.m3_model.specs.declared.point.Pick.TheVariants as pick
use Rattle.m3_model.specs.declared.point.Point.{Point}
use Rattle.m3_model.specs.declared.point.Series.{Series}
use Rattle.m3_model.proofs.MemberLemmas.{IsIn-append_cases, IsIn-append_left}
use Rattle.m3_model.proofs.RangeLemmas.{both_true}
use Rattle.fileset_check.specs.m3_outside.Files.{Files}
use Rattle.held_points.proofs.series_slots_proofs.AnswerLemmas.{in_points, point_in}
use Rattle.held_points.proofs.series_slots_proofs.MoveLemmas.{IsIn-flat, IsIn-filter}
use Rattle.held_points.proofs.ListLemmas.{some_element}
use Rattle.series_merge.specs.Merges.{IsMergeOf}
use Rattle.series_merge.proofs.JoinLemmas.{joined_has}
use Rattle.series_merge.proofs.OrderLemmas.{content_in, merge_joins, ordered_has}
use Rattle.fileset_check.specs.wire_bytes.Entries.{IsBounded}
use Rattle.fileset_check.specs.wire_bytes.Volumes.{IsRow, IsVolume, count_of, data_bytes, points_of_rows, row_bytes}
use Rattle.fileset_check.proofs.volume_bytes_proofs.RowLemmas.{length_row}
use Rattle.fileset_check.specs.shard_files.Parts.{KnownVolume}
use Rattle.fileset_check.specs.shard_files.FilesHold.{points_known, volume_points}
use Rattle.fileset_check.specs.volume_bytes.declared.heads.Head.{Head}
use Rattle.volume_points.specs.Blocks.{FitsFields, IsTooLarge, block_head}
use Rattle.volume_points.specs.Known.{AreOf, is_of}
use Rattle.volume_points.specs.declared.block_err.BlockErr.{BlockErr}
use Rattle.volume_points.specs.declared.block_err.BlockErr.TheVariants as errors
use Rattle.volume_points.proofs.AnswerLemmas.{stands_for_all}
use Rattle.volume_points.proofs.JoinedLemmas.{joined_alike}
use Rattle.volume_points.proofs.VolumeLemmas.{row_points}

-- ---- what a block may have

-- the point may stand in the block
pub record IsInside (ns start size : ℕ) (p : Point) : Type 0 where
  pub space : p.ns ≡ ns
  pub bounded : IsBounded p
  pub range : InRange start (start + size) p

module _ (ns start size : ℕ) where
  abbrev AreInside : List Series → Type 0
  AreInside rows = (p : Point) → IsIn (points_of_rows ns rows) p → IsInside ns start size p

  -- a point of the volumes of the block may stand in it
  pub known_inside : (heads : List Head) (known : List KnownVolume) (files : Files) → AreOf heads known files → (p : Point) → IsIn (volume_points (filter (is_of ns start size) known)) p → IsInside ns start size p
  known_inside heads known files a p m =
      let of = IsIn-flat points_known (filter (is_of ns start size) known) p m in
      let k = of.0 in
      let is = IsIn-filter (is_of ns start size) known k of.1 in
      let outer = both_true (k.head.ns == ns) ((k.head.start == start) && (k.head.size == size)) is.1 in
      let inner = both_true (k.head.start == start) (k.head.size == size) outer.1 in
      let space : k.head.ns ≡ ns = eqb-true k.head.ns ns outer.0 in
      let start_is : k.head.start ≡ start = eqb-true k.head.start start inner.0 in
      let size_is : k.head.size ≡ size = eqb-true k.head.size size inner.1 in
      let h = row_points k.head k.rows p (a.hold k is.0).values of.2 in
      record {
        space = h.space ∙ space;
        bounded = h.bounded;
        range = (subst (λ n. n ≤ p.t) start_is h.low, subst (λ n. p.t < n) (λ i. start_is i + size_is i) h.high);
      }

  -- ---- the content of joined rows

  module _ (buffered read rows : List Series) (points : List Point) (inside : (p : Point) → IsIn points p → IsInside ns start size p)
      (answer : IsAnswer (content_of points) (pick.Match ns []) start (start + size) read) (merge : IsMergeOf buffered read rows) where
    pub joined_rows : content_of (points_of_rows ns rows) ≡ fold raised (content_of (points_of_rows ns buffered)) points
    joined_rows =
        merge_joins ns buffered read rows merge
        ∙ joined_alike (content_of (points_of_rows ns buffered)) (points_of_rows ns read) points
        (stands_for_all (content_of points) ns start (start + size) read answer (λ p h. let is = inside p (content_in points p h) in (is.space, is.range)))

    pub rows_inside : AreInside buffered → AreInside rows
    rows_inside first p m =
        by (IsIn-append_cases (points_in ns buffered) (points_in ns read) p
        (content_in (points_in ns buffered ++ points_in ns read) p (subst (λ (c : Contents). HasPoint c p) (merge.content ns) (ordered_has ns rows p merge.ordered m))))
      where
        by : IsIn (points_in ns buffered) p ⊎ IsIn (points_in ns read) p → IsInside ns start size p
        by (inl a) = first p a
        by (inr b) = inside p (content_in points p (answer.nothing_else p b).stands)

  -- ---- rows that fit are a volume's

  -- a series that isn't empty has a point
  some_point : (rows : List Series) → IsOrdered rows → (s : Series) → IsIn rows s → (p : Point) × IsIn (points_of_rows ns rows) p × (p.id ≡ s.id)
  some_point rows h s m =
      let x = some_element s.points (h.none_empty s m) in
      let p : Point = record { ns = ns; id = s.id; t = x.0.0; v = x.0.1 } in
      (p, in_points ns rows s p m refl refl x.1, refl)

  count_fits : (rows : List Series) → ((s : Series) → IsIn rows s → 6 + length s.id + 16 * length s.points < 2 ^ 32) → count_of rows ≤ 2 ^ 28 * length rows
  count_fits [] h = omega arith
  count_fits (s ∷ rows) h =
      let sum : count_of (s ∷ rows) ≡ length s.points + count_of rows = sum_by-cons (λ (r : Series). length r.points) s rows in
      let few = h s (inl refl) in
      let later = count_fits rows (λ r m. h r (inr m)) in
      omega (arith, sum, few, later)

  bytes_fit : (rows : List Series) → ((s : Series) → IsIn rows s → 6 + length s.id + 16 * length s.points < 2 ^ 32) → length (data_bytes rows) ≤ 2 ^ 32 * length rows
  bytes_fit [] h = omega arith
  bytes_fit (s ∷ rows) h =
      let sum = length-append (row_bytes s) (data_bytes rows) in
      let long = length_row s in
      let few = h s (inl refl) in
      let later = bytes_fit rows (λ r m. h r (inr m)) in
      omega (arith, sum, long, few, later)

  row_fits : (rows : List Series) → IsOrdered rows → AreInside rows → (s : Series) → IsIn rows s → 6 + length s.id + 16 * length s.points < 2 ^ 32 → IsRow start size s
  row_fits rows h inside s m long =
      let at = some_point rows h s m in
      let is = (inside at.0 at.1).bounded in
      let each = λ (x : ℕ × ℤ) (i : IsIn s.points x). inside (record { ns = ns; id = s.id; t = x.0; v = x.1 }) (in_points ns rows s (record { ns = ns; id = s.id; t = x.0; v = x.1 }) m refl refl i) in
      record {
        some = subst (λ (id : List ℕ). 1 ≤ length id) at.2 is.some;
        most = subst (λ (id : List ℕ). length id ≤ MOST_ID_BYTES) at.2 is.most;
        utf8 = subst IsUtf8 at.2 is.utf8;
        counted = omega (arith, long);
        long = long;
        low = λ x i. (each x i).range.0;
        high = λ x i. (each x i).range.1;
        time = λ x i. (each x i).bounded.time;
        value = λ x i. (each x i).bounded.value;
        times = h.times s m;
      }

  pub fits_volume : (rows : List Series) → size < DURATION_END → IsOrdered rows → AreInside rows → FitsFields rows → 1 ≤ length rows → IsVolume (block_head ns start size) rows
  fits_volume rows short h inside fits some =
      let first = some_element rows some in
      let at = some_point rows h first.0 first.1 in
      let is = inside at.0 at.1 in
      let low = is.range.0 in
      let high = is.range.1 in
      let time = is.bounded.time in
      let count = count_fits rows fits.long in
      let bytes = bytes_fit rows fits.long in
      let few = fits.counted in
      record {
        head = record {
          format = inl refl;
          ns = subst (λ n. n < MOST_NAMESPACES) is.space is.bounded.namespace;
          start = omega (arith, low, time);
          size_low = omega (arith, low, high);
          size_high = short;
          number = omega arith;
        };
        some = some;
        counted = few;
        points = omega (arith, count, few);
        row = λ s m. row_fits rows h inside s m (fits.long s m);
        filled = λ s m two. absurd (omega (arith, two));
        small = omega (arith, bytes, few);
        ids = h.ids;
      }

  -- rows that no volume may have are too large
  pub too_large : (rows : List Series) (c : Contents) → size < DURATION_END → IsOrdered rows → content_of (points_of_rows ns rows) ≡ c → AreInside rows → ((1 ≤ length rows → IsVolume (block_head ns start size) rows) → ⊥) → IsTooLarge ns c
  too_large rows c short h is inside none = record { rows = rows; are = record { ordered = h; content = is }; unfit = λ fits. none (λ some. fits_volume rows short h inside fits some) }

  -- each point of the one rows is there, or a higher one
  pub covers_each : (buffered read rows : List Series) → IsMergeOf buffered read rows → (p : Point) → IsIn (points_of_rows ns buffered) p → Holds (content_of (points_of_rows ns rows)) p
  covers_each buffered read rows merge p m =
      subst (λ (c : Contents). Holds c p) (sym (merge.content ns)) (joined_has (points_in ns buffered ++ points_in ns read) empty p (IsIn-append_left (points_in ns buffered) (points_in ns read) p m))

  -- where there is a row, joined rows have one
  pub some_joined : (buffered read rows : List Series) → IsOrdered buffered → IsMergeOf buffered read rows → 1 ≤ length buffered → 1 ≤ length rows
  some_joined buffered read rows h merge some =
      let first = some_element buffered some in
      let at = some_point buffered h first.0 first.1 in
      let held = covers_each buffered read rows merge at.0 at.1 in
      let there = content_in (points_in ns rows) (record at.0 { v = held.value }) held.stands in
      let s = point_in ns rows (record at.0 { v = held.value }) there in
      by rows s.0 s.1
    where
      by : (rows : List Series) (s : Series) → IsIn rows s → 1 ≤ length rows
      by [] s m = absurd m
      by (r ∷ rows) s m = omega arith

-- ---- errors

-- want of memory is no fault
pub memory_alone : {X : Type 0} (r : Result X BlockErr) → IsErrAnd r (λ e. e ≡ errors.Memory) → IsErrOf r errors.Disk → ⊥
memory_alone {X} r is f = let p = err_from_is_err_and r is in both r p.0 p.1 p.2 f
  where
    both : (r : Result X BlockErr) (y : BlockErr) → r ≡ Err y → y ≡ errors.Memory → r ≡ Err errors.Disk → ⊥
    both r y a b f = cc
