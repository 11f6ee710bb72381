-- What is read of one volume, and what its rows stand for.
use Rattle.std.proofs.Common.{◌≡◌, ℕ, ◌+◌, ◌<◌, ◌≤◌, ℤ, List, [], ◌∷◌, ◌++◌, length, refl, sym, ap, ◌∙◌, subst, inl, inr, arith, append-nil}
use Rattle.std.specs.Prelude.{Option, Some, None, map, IsUtf8}
use Rattle.std.specs.List.{filter_map, cons_option}
use Rattle.std.specs.Cmp.{tied_itself}
use Rattle.std.specs.Cmp.Lexicographic.{slice_cmp}
use Rattle.std.specs.Ordering.{nat_cmp}
use Rattle.std.specs.declared.cmp.Ordering.TheVariants.{Less, Equal}
use Rattle.std.proofs.lemmas.Cmp.{nat_list_cmp_total}
use Rattle.std.proofs.lemmas.List.{length-append}
use Rattle.std.proofs.lemmas.List.Concat.{flat_map-append}
use Rattle.std.proofs.lemmas.List.Sums.{sum_by-append}
use Rattle.m3_model.specs.Answers.{HasPoint, IsAnswer}
use Rattle.m3_model.specs.Ascends.{Ascends}
use Rattle.m3_model.specs.Contents.{content_of}
use Rattle.m3_model.specs.Members.{IsIn}
use Rattle.m3_model.specs.Reads.{IsOrdered, points_in, space_picked}
use Rattle.m3_model.specs.Tags.{IsBelow}
use Rattle.m3_model.specs.declared.limits.TheConstants.{MOST_ID_BYTES, MOST_NAMESPACES, TIME_END}
use Rattle.m3_model.specs.declared.point.Pick.{Pick}
use Rattle.m3_model.specs.declared.point.Pick.TheVariants as pick
use Rattle.m3_model.specs.declared.point.Point.{Point}
use Rattle.m3_model.specs.declared.point.Series.{Series}
use Rattle.m3_model.proofs.MemberLemmas.{IsIn-append_left, IsIn-append_right}
use Rattle.fileset_check.specs.m3_outside.Files.{Files}
use Rattle.held_points.proofs.series_slots_proofs.AnswerLemmas.{point_in, in_points}
use Rattle.series_merge.proofs.OrderLemmas.{content_in, ordered_has}
use Rattle.fileset_check.specs.wire_bytes.Points.{IsPoint}
use Rattle.fileset_check.specs.wire_bytes.Volumes.{VolumeHead, Checkpoint, IsRow, IsVolume, count_of, data_bytes, points_of_rows, row_bytes}
use Rattle.fileset_check.proofs.volume_bytes_proofs.RowLemmas.{length_row}
use Rattle.fileset_check.specs.shard_files.Parts.{KnownVolume, VolumeHolds, part_of}
use Rattle.fileset_check.proofs.shard_files_proofs.PartLemmas.{one_known}
use Rattle.fileset_check.specs.fileset_read.Rows.{IsSeriesOf}
use Rattle.volume_rows.specs.Ranges.{AreRowsFrom}
use Rattle.volume_rows.specs.declared.ranges.RowRange.{RowRange}
use Rattle.volume_points.specs.Candidates.{AreCandidates, IsOneOf, MayStand, one_or_none}
use Rattle.volume_points.specs.Picked.{AreAscending, IsPicked, IsSelectionOf, filled}
use Rattle.volume_points.proofs.PickedLemmas.{IsPart, filled_is, of_matches, parts_ordered}

-- ---- rows

pub rows_ascend : (v : VolumeHead) (rows : List Series) → IsVolume v rows → AreAscending rows
rows_ascend v rows h = record { ids = h.ids; times = λ s m. (h.row s m).times }

pub found_ascend : (v : VolumeHead) (found : List Series) → MayStand v found → AreAscending found
found_ascend v [] h = record { ids = tt; times = λ s m. absurd m }
found_ascend v (s ∷ found) h = rows_ascend v (s ∷ found) (h (omega arith))

not_below : (id : List ℕ) → IsBelow id id → ⊥
not_below id below = let tied : slice_cmp nat_cmp id id ≡ Equal = tied_itself nat_list_cmp_total id in let bad : Less ≡ Equal = sym below ∙ tied in cc

-- of two series with one identifier among rows that ascend there is one
same_series : (rows : List Series) (s r : Series) → Ascends (λ (a b : Series). IsBelow a.id b.id) rows → IsIn rows s → IsIn rows r → s.id ≡ r.id → s ≡ r
same_series [] s r h m n e = absurd m
same_series (x ∷ rows) s r h (inl a) (inl b) e = sym a ∙ b
same_series (x ∷ rows) s r h (inl a) (inr n) e = absurd (not_below x.id (subst (IsBelow x.id) (sym e ∙ ap (λ (y : Series). y.id) (sym a)) (h.0 r n)))
same_series (x ∷ rows) s r h (inr m) (inl b) e = absurd (not_below x.id (subst (IsBelow x.id) (e ∙ ap (λ (y : Series). y.id) (sym b)) (h.0 s m)))
same_series (x ∷ rows) s r h (inr m) (inr n) e = same_series rows s r h.1 m n e

-- ---- the points of rows

solid_part : (s part : Series) → filled s.id s.points ≡ Some part → IsPart s part
solid_part s part e = let is = filled_is s.id s.points part e in record { named = is.named; times = λ h. subst (Ascends (λ (a b : ℕ × ℤ). a.0 < b.0)) (sym is.pairs) h; some = is.some }

abbrev solid : List Series → List Series
solid rows = filter_map (λ (s : Series). filled s.id s.points) rows

solid_points : (ns : ℕ) (rows : List Series) → points_in ns (solid rows) ≡ points_in ns rows
solid_points ns [] = refl
solid_points ns (s ∷ rows) = by s.points refl (solid_points ns rows)
  where
    by : (ps : List (ℕ × ℤ)) → s.points ≡ ps → points_in ns (solid rows) ≡ points_in ns rows
        → points_in ns (cons_option (filled s.id ps) (solid rows)) ≡ map (λ (x : ℕ × ℤ). record { ns = ns; id = s.id; t = x.0; v = x.1 }) ps ++ points_in ns rows
    by [] e later = later
    by (p ∷ ps) e later = ap (λ (l : List Point). map (λ (x : ℕ × ℤ). record { ns = ns; id = s.id; t = x.0; v = x.1 }) (p ∷ ps) ++ l) later

-- rows that ascend stand for each of their points
pub rows_have : (ns : ℕ) (rows : List Series) (p : Point) → AreAscending rows → IsIn (points_in ns rows) p → HasPoint (content_of (points_in ns rows)) p
rows_have ns rows p h m =
    let same = solid_points ns rows in
    subst (λ (l : List Point). HasPoint (content_of l) p) same
    (ordered_has ns (solid rows) p (parts_ordered (λ (s : Series). filled s.id s.points) solid_part rows h) (subst (λ (l : List Point). IsIn l p) (sym same) m))

-- what is so of a point of a volume
pub record IsOfBlock (v : VolumeHead) (p : Point) : Type 0 where
  pub space : p.ns ≡ v.ns
  pub bounded : IsPoint p.ns p.id p.t p.v
  pub low : v.start ≤ p.t
  pub high : p.t < v.start + v.size

pub row_points : (v : VolumeHead) (rows : List Series) (p : Point) → IsVolume v rows → IsIn (points_of_rows v.ns rows) p → IsOfBlock v p
row_points v rows p h m =
    let at = point_in v.ns rows p m in
    let r = h.row at.0 at.1 in
    record {
      space = at.2;
      bounded = record {
        namespace = subst (λ n. n < MOST_NAMESPACES) (sym at.2) h.head.ns;
        some = subst (λ (id : List ℕ). 1 ≤ length id) (sym at.3) r.some;
        most = subst (λ (id : List ℕ). length id ≤ MOST_ID_BYTES) (sym at.3) r.most;
        utf8 = subst IsUtf8 (sym at.3) r.utf8;
        time = r.time (p.t, p.v) at.4;
        value = r.value (p.t, p.v) at.4;
      };
      low = r.low (p.t, p.v) at.4;
      high = r.high (p.t, p.v) at.4;
    }

-- ---- candidates

pub same_rows : (v : VolumeHead) (rows others : List Series) (files : Files) → VolumeHolds v rows files → VolumeHolds v others files → rows ≡ others
same_rows v rows others files a b =
    let one : KnownVolume = record { head = v; rows = rows } in
    let other : KnownVolume = record { head = v; rows = others } in
    ap (λ (k : KnownVolume). k.rows) (one_known files (part_of Checkpoint v) one other (record { named = refl; holds = a }) (record { named = refl; holds = b }))

-- one row of a volume may be one by itself
row_alone : (v : VolumeHead) (rows : List Series) (s : Series) → IsVolume v rows → IsIn rows s → IsVolume v (s ∷ [])
row_alone v rows s h m =
    let r = h.row s m in
    record {
      head = h.head;
      some = omega arith;
      counted = omega arith;
      points = (let c = r.counted in omega (arith, c));
      row = one r;
      filled = one_filled (h.filled s m);
      small = (let l = length_row s in let long = r.long in let e = ap length (append-nil (row_bytes s)) in omega (arith, l, long, e));
      ids = ((λ y n. absurd n), tt);
    }
  where
    one : IsRow v.start v.size s → (r : Series) → IsIn (s ∷ []) r → IsRow v.start v.size r
    one is r (inl e) = subst (IsRow v.start v.size) e is
    one is r (inr n) = absurd n

    one_filled : (v.format ≡ 2 → 1 ≤ length s.points) → (r : Series) → IsIn (s ∷ []) r → v.format ≡ 2 → 1 ≤ length r.points
    one_filled is r (inl e) = subst (λ (x : Series). v.format ≡ 2 → 1 ≤ length x.points) e is
    one_filled is r (inr n) = absurd n

one_stands : (v : VolumeHead) (id : List ℕ) (rows found : List Series) → IsVolume v rows → IsOneOf id rows found → MayStand v found
one_stands v id rows found h o = subst (MayStand v) (sym o.found_is) (by o.one o.is)
  where
    by : (one : Option Series) → IsSeriesOf id rows one → MayStand v (one_or_none one)
    by None is = λ some. absurd (omega (arith, some))
    by (Some s) is = λ some. row_alone v rows s h is.1

pub candidates_stand : (v : VolumeHead) (pick : Pick) (rows found : List Series) → IsVolume v rows → AreCandidates pick rows found → MayStand v found
candidates_stand v (pick.One ns id) rows found h o = one_stands v id rows found h o
candidates_stand v (pick.Match ns wanted) rows found h o = subst (MayStand v) (sym o) (λ some. h)

pub candidate_in : (pick : Pick) (rows found : List Series) → AreCandidates pick rows found → (s : Series) → IsIn found s → IsIn rows s
candidate_in (pick.One ns id) rows found o s m = by o.one o.is (subst (λ (l : List Series). IsIn l s) o.found_is m)
  where
    by : (one : Option Series) → IsSeriesOf id rows one → IsIn (one_or_none one) s → IsIn rows s
    by None is n = absurd n
    by (Some r) is (inl e) = subst (IsIn rows) e is.1
    by (Some r) is (inr n) = absurd n
candidate_in (pick.Match ns wanted) rows found o s m = subst (λ (l : List Series). IsIn l s) o m

pub in_candidates : (pick : Pick) (rows found : List Series) → AreAscending rows → AreCandidates pick rows found → (s : Series) → IsIn rows s → IsPicked pick s.id → IsIn found s
in_candidates (pick.One ns id) rows found h o s m asked = subst (λ (l : List Series). IsIn l s) (sym o.found_is) (by o.one o.is)
  where
    by : (one : Option Series) → IsSeriesOf id rows one → IsIn (one_or_none one) s
    by None none = absurd (none s m (sym asked))
    by (Some r) is = inl (same_series rows r s h.ids is.1 m (is.0 ∙ asked))
in_candidates (pick.Match ns wanted) rows found h o s m asked = subst (λ (l : List Series). IsIn l s) (sym o) m

-- ---- some rows of a volume, one after another

front_ascends : (xs ys : List Series) → Ascends (λ (a b : Series). IsBelow a.id b.id) (xs ++ ys) → Ascends (λ (a b : Series). IsBelow a.id b.id) xs
front_ascends [] ys h = tt
front_ascends (x ∷ xs) ys h = (λ y m. h.0 y (IsIn-append_left xs ys y m), front_ascends xs ys h.1)

back_ascends : (xs ys : List Series) → Ascends (λ (a b : Series). IsBelow a.id b.id) (xs ++ ys) → Ascends (λ (a b : Series). IsBelow a.id b.id) ys
back_ascends [] ys h = h
back_ascends (x ∷ xs) ys h = back_ascends xs ys h.1

-- they may be a volume by themselves, if there are any
module _ (v : VolumeHead) (before found later : List Series) (h : IsVolume v (before ++ (found ++ later))) where
  in_rows : (s : Series) → IsIn found s → IsIn (before ++ (found ++ later)) s
  in_rows s m = IsIn-append_right before (found ++ later) s (IsIn-append_left found later s m)

  fewer : length found ≤ length (before ++ (found ++ later))
  fewer = omega (arith, length-append before (found ++ later), length-append found later)

  fewer_points : count_of found ≤ count_of (before ++ (found ++ later))
  fewer_points = omega (arith, sum_by-append (λ (s : Series). length s.points) before (found ++ later), sum_by-append (λ (s : Series). length s.points) found later)

  fewer_bytes : length (data_bytes found) ≤ length (data_bytes (before ++ (found ++ later)))
  fewer_bytes =
      omega (
        arith,
        ap length (flat_map-append row_bytes before (found ++ later)),
        ap length (flat_map-append row_bytes found later),
        length-append (data_bytes before) (data_bytes (found ++ later)),
        length-append (data_bytes found) (data_bytes later),
      )

  part_alone : MayStand v found
  part_alone some = record {
    head = h.head;
    some = some;
    counted = (let c = h.counted in omega (arith, c, fewer));
    points = (let c = h.points in omega (arith, c, fewer_points));
    row = λ s m. h.row s (in_rows s m);
    filled = λ s m. h.filled s (in_rows s m);
    small = (let c = h.small in omega (arith, c, fewer_bytes));
    ids = front_ascends found later (back_ascends before (found ++ later) h.ids);
  }

pub range_stands : (v : VolumeHead) (id : List ℕ) (last : Option (List ℕ)) (most : ℕ) (rows : List Series) (found : RowRange) → IsVolume v rows → AreRowsFrom id last most rows found → MayStand v found.rows
range_stands v id last most rows found h are = part_alone v are.before found.rows are.later (subst (IsVolume v) are.split h)

-- ---- the answer of one volume

module _ (v : VolumeHead) (rows : List Series) (is : IsVolume v rows) (pick : Pick) (from to : ℕ) where
  pub answer_of_one : (found series : List Series) → v.ns ≡ space_picked pick → AreCandidates pick rows found → IsOrdered series → IsSelectionOf found pick from to series
      → IsAnswer (content_of (points_of_rows v.ns rows)) pick from to series
  answer_of_one found series space of ordered sel = record {
    ordered = ordered;
    nothing_else = λ p m.
        let one = sel.nothing_else p m in
        let at = point_in (space_picked pick) found p one.0 in
        let inside = in_points (space_picked pick) rows at.0 p (candidate_in pick rows found of at.0 at.1) at.2 at.3 at.4 in
        record { stands = rows_have v.ns rows p (rows_ascend v rows is) (subst (λ n. IsIn (points_in n rows) p) (sym space) inside); matches = one.1; in_range = one.2 };
    whole = λ p w.
        let at = point_in v.ns rows p (content_in (points_in v.ns rows) p w.stands) in
        let asked = of_matches pick p w.matches in
        let member = in_candidates pick rows found (rows_ascend v rows is) of at.0 at.1 (subst (IsPicked pick) at.3 asked.1) in
        sel.whole p (in_points (space_picked pick) found at.0 p member asked.0 at.3 at.4) w.matches w.in_range;
  }

  pub answer_of_none : ((t : ℕ) → v.ns ≡ space_picked pick → v.start ≤ t → t < v.start + v.size → t < TIME_END → from ≤ t → t < to → ⊥) → IsAnswer (content_of (points_of_rows v.ns rows)) pick from to []
  answer_of_none none = record {
    ordered = record { ids = tt; times = λ s m. absurd m; none_empty = λ s m. absurd m };
    nothing_else = λ p m. absurd m;
    whole = λ p w.
        let of = row_points v rows p is (content_in (points_in v.ns rows) p w.stands) in
        absurd (none p.t (sym of.space ∙ (of_matches pick p w.matches).0) of.low of.high of.bounded.time w.in_range.0 w.in_range.1);
  }
