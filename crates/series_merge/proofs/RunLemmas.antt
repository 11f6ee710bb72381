-- Two lists of series are merged.
use Rattle.std.proofs.Common.{◌≡◌, ℕ, ◌+◌, ◌<◌, List, [], ◌∷◌, ◌++◌, length, fold, refl, sym, ap, ◌∙◌, subst, inl, arith}
use Rattle.std.specs.Prelude.{Some, None}
use Rattle.std.specs.FinMap.{empty, nat_cmp-IsAntisymmetric, slice_cmp-IsAntisymmetric}
use Rattle.std.specs.Ordering.{nat_cmp, ordering_reverse}
use Rattle.std.specs.Cmp.Lexicographic.{slice_cmp}
use Rattle.std.specs.declared.cmp.Ordering.TheVariants.{Less, Equal, Greater}
use Rattle.std.proofs.lemmas.Cmp.{nat_list_cmp_total}
use Rattle.std.proofs.lemmas.List.{append-nil}
use Rattle.std.proofs.lemmas.List.Concat.{flat_map-append}
use Rattle.std.proofs.lemmas.List.Sums.{fold-append}
use Rattle.m3_model.specs.Ascends.{Ascends}
use Rattle.m3_model.specs.Contents.{Contents, raised}
use Rattle.m3_model.specs.Reads.{IsOrdered, points_in}
use Rattle.m3_model.specs.declared.point.Series.{Series}
use Rattle.series_merge.specs.Merges.{IsMergeOf}
use Rattle.series_merge.specs.Parts.{JoinAlike}
use Rattle.series_merge.specs.Pairs.{points_at}
use Rattle.series_merge.specs.Runs.{IsBefore, IsRun, IsJoinedSeries, which_next, IsPartOfMerge}
use Rattle.series_merge.proofs.JoinLemmas.{join_again}
use Rattle.series_merge.proofs.PairLemmas.{points_apart, merge_some}
use Rattle.series_merge.proofs.PartLemmas.{IsBeforeFirst, of_one, of_other, of_both}

before_trans : (x y z : Series) → IsBefore x y → IsBefore y z → IsBefore x z
before_trans x y z p q = nat_list_cmp_total.trans x.id y.id z.id p q

pub series_apart : (ns : ℕ) (xs ys : List Series) → points_in ns (xs ++ ys) ≡ points_in ns xs ++ points_in ns ys
series_apart ns xs ys = flat_map-append (λ (s : Series). points_at (ns, s.id) s.points) xs ys

-- ---- which series is next

pub none_next : (xs ys : List Series) → which_next xs ys ≡ None → (xs ≡ []) × (ys ≡ [])
none_next [] [] e = (refl, refl)
none_next [] (y ∷ ys) e = cc
none_next (x ∷ xs) [] e = cc
none_next (x ∷ xs) (y ∷ ys) e = cc

next_of_one : (xs ys : List Series) → which_next xs ys ≡ Some Less → (x : Series) × (rest : List Series) × (xs ≡ x ∷ rest) × IsBeforeFirst IsBefore x ys
next_of_one [] [] e = cc
next_of_one [] (y ∷ ys) e = cc
next_of_one (x ∷ xs) [] e = (x, xs, refl, tt)
next_of_one (x ∷ xs) (y ∷ ys) e = let below : slice_cmp nat_cmp x.id y.id ≡ Less = cc in (x, xs, refl, below)

next_of_other : (xs ys : List Series) → which_next xs ys ≡ Some Greater → (y : Series) × (rest : List Series) × (ys ≡ y ∷ rest) × IsBeforeFirst IsBefore y xs
next_of_other [] [] e = cc
next_of_other [] (y ∷ ys) e = (y, ys, refl, tt)
next_of_other (x ∷ xs) [] e = cc
next_of_other (x ∷ xs) (y ∷ ys) e = let above : slice_cmp nat_cmp x.id y.id ≡ Greater = cc in (y, ys, refl, nat_list_cmp_total.antisymm y.id x.id ∙ ap ordering_reverse above)

-- both lists begin with series of one identifier
record BeginAlike (xs ys : List Series) : Type 0 where
  x : Series
  y : Series
  xs_left : List Series
  ys_left : List Series
  xs_are : xs ≡ x ∷ xs_left
  ys_are : ys ≡ y ∷ ys_left
  same : x.id ≡ y.id

next_of_both : (xs ys : List Series) → which_next xs ys ≡ Some Equal → BeginAlike xs ys
next_of_both [] [] e = cc
next_of_both [] (y ∷ ys) e = cc
next_of_both (x ∷ xs) [] e = cc
next_of_both (x ∷ xs) (y ∷ ys) e =
    let tied : slice_cmp nat_cmp x.id y.id ≡ Equal = cc in
    record { x = x; y = y; xs_left = xs; ys_left = ys; xs_are = refl; ys_are = refl; same = slice_cmp-IsAntisymmetric nat_cmp-IsAntisymmetric x.id y.id tied }

-- ---- two series of one identifier

series_points : (ns : ℕ) (s : Series) (c : Contents) → fold raised c (points_in ns (s ∷ [])) ≡ fold raised c (points_at (ns, s.id) s.points)
series_points ns s c = ap (fold raised c) (append-nil (points_at (ns, s.id) s.points))

module _ (x y z : Series) (same : x.id ≡ y.id) (joined : IsJoinedSeries x y z) (x_run : IsRun x) (y_run : IsRun y) where
  joined_run : IsRun z
  joined_run = let merge = joined.pairs x_run.ascends y_run.ascends in record { ascends = merge.ascend; some = merge_some x.points y.points z.points merge x_run.some }

  joined_points : (ns : ℕ) → JoinAlike (points_in ns (z ∷ [])) (points_in ns (x ∷ []) ++ points_in ns (y ∷ []))
  joined_points ns c =
      let merge = joined.pairs x_run.ascends y_run.ascends in
      series_points ns z c
      ∙ ap (λ id. fold raised c (points_at (ns, id) z.points)) joined.named
      ∙ merge.alike (ns, x.id) c
      ∙ ap (fold raised c) (points_apart (ns, x.id) x.points y.points)
      ∙ ap (λ id. fold raised c (points_at (ns, x.id) x.points ++ points_at (ns, id) y.points)) same
      ∙ ap (λ ps. fold raised c (ps ++ points_at (ns, y.id) y.points)) (sym (append-nil (points_at (ns, x.id) x.points)))
      ∙ ap (λ ps. fold raised c (points_in ns (x ∷ []) ++ ps)) (sym (append-nil (points_at (ns, y.id) y.points)))

-- ---- steps

module _ (one other : List Series) where
  module _ (done xs ys : List Series) (was : IsPartOfMerge one other done xs ys) where
    -- the first of one list moved
    pub moved_one : (done_then xs_then : List Series) → which_next xs ys ≡ Some Less → ((x : Series) (rest : List Series) → xs ≡ x ∷ rest → (xs_then ≡ rest) × (done_then ≡ done ++ x ∷ [])) → IsPartOfMerge one other done_then xs_then ys
    moved_one done_then xs_then next move =
        let first = next_of_one xs ys next in
        let left = move first.0 first.1 first.2 in
        subst (λ d. IsPartOfMerge one other d xs_then ys) (sym left.1) (subst (λ l. IsPartOfMerge one other (done ++ first.0 ∷ []) l ys) (sym left.0)
        (of_one IsBefore IsRun points_in before_trans series_apart one other done first.0 first.1 ys (subst (λ l. IsPartOfMerge one other done l ys) first.2 was) first.3))

    pub moved_other : (done_then ys_then : List Series) → which_next xs ys ≡ Some Greater → ((y : Series) (rest : List Series) → ys ≡ y ∷ rest → (ys_then ≡ rest) × (done_then ≡ done ++ y ∷ [])) → IsPartOfMerge one other done_then xs ys_then
    moved_other done_then ys_then next move =
        let first = next_of_other xs ys next in
        let left = move first.0 first.1 first.2 in
        subst (λ d. IsPartOfMerge one other d xs ys_then) (sym left.1) (subst (λ l. IsPartOfMerge one other (done ++ first.0 ∷ []) xs l) (sym left.0)
        (of_other IsBefore IsRun points_in before_trans series_apart one other done first.0 xs first.1 (subst (λ l. IsPartOfMerge one other done xs l) first.2 was) first.3))

    -- the first of both were joined
    pub joined_both : (done_then xs_then ys_then : List Series) → which_next xs ys ≡ Some Equal
        → ((x y : Series) (xs_left ys_left : List Series) → xs ≡ x ∷ xs_left → ys ≡ y ∷ ys_left → (xs_then ≡ xs_left) × (ys_then ≡ ys_left) × ((z : Series) × IsJoinedSeries x y z × (done_then ≡ done ++ z ∷ [])))
        → IsPartOfMerge one other done_then xs_then ys_then
    joined_both done_then xs_then ys_then next move =
        let first = next_of_both xs ys next in
        let left = move first.x first.y first.xs_left first.ys_left first.xs_are first.ys_are in
        let z = left.2.0 in
        let opened : IsPartOfMerge one other done (first.x ∷ first.xs_left) (first.y ∷ first.ys_left) =
        subst (λ l. IsPartOfMerge one other done l (first.y ∷ first.ys_left)) first.xs_are (subst (λ l. IsPartOfMerge one other done xs l) first.ys_are was) in
        let x_run = opened.one_fit first.x (inl refl) in
        let y_run = opened.other_fit first.y (inl refl) in
        let x_named : z.id ≡ first.x.id = left.2.1.named in
        let y_named : z.id ≡ first.y.id = x_named ∙ first.same in
        subst (λ d. IsPartOfMerge one other d xs_then ys_then) (sym left.2.2) (subst (λ l. IsPartOfMerge one other (done ++ z ∷ []) l ys_then) (sym left.0) (subst (λ l. IsPartOfMerge one other (done ++ z ∷ []) first.xs_left l) (sym left.1)
        (of_both IsBefore IsRun points_in before_trans series_apart one other done first.x first.y z first.xs_left first.ys_left
        (λ w h. subst (λ id. slice_cmp nat_cmp w.id id ≡ Less) (sym x_named) h) (λ w h. subst (λ id. slice_cmp nat_cmp id w.id ≡ Less) (sym x_named) h)
        (λ w h. subst (λ id. slice_cmp nat_cmp w.id id ≡ Less) (sym y_named) h) (λ w h. subst (λ id. slice_cmp nat_cmp id w.id ≡ Less) (sym y_named) h)
        (joined_run first.x first.y z first.same left.2.1 x_run y_run) (joined_points first.x first.y z first.same left.2.1 x_run y_run) opened)))

  -- nothing is left
  pub merge_ends : (done xs ys : List Series) → IsPartOfMerge one other done xs ys → xs ≡ [] → ys ≡ [] → IsMergeOf one other done
  merge_ends done xs ys was xs_none ys_none =
      let part : IsPartOfMerge one other done [] [] = subst (λ l. IsPartOfMerge one other done l []) xs_none (subst (λ l. IsPartOfMerge one other done xs l) ys_none was) in
      record {
        ordered = record {
          ids = subst (Ascends IsBefore) (append-nil done) part.one_ascends;
          times = λ s m. (part.done_fit s m).ascends;
          none_empty = λ s m. (part.done_fit s m).some;
        };
        content = λ ns. ap (λ l. fold raised empty (points_in ns l)) (sym (append-nil done) ∙ sym (append-nil (done ++ []))) ∙ part.alike ns empty ∙ ap (fold raised empty) (series_apart ns one other);
      }

-- fewer are left
pub fewer_of_one : (xs ys xs_then done done_then : List Series) → which_next xs ys ≡ Some Less → ((x : Series) (rest : List Series) → xs ≡ x ∷ rest → (xs_then ≡ rest) × (done_then ≡ done ++ x ∷ [])) → length xs_then + length ys < length xs + length ys
fewer_of_one xs ys xs_then done done_then next move =
    let first = next_of_one xs ys next in
    let left : length xs_then ≡ length first.1 = ap length (move first.0 first.1 first.2).0 in
    let was : length xs ≡ length (first.0 ∷ first.1) = ap length first.2 in
    omega arith

pub fewer_of_other : (xs ys ys_then done done_then : List Series) → which_next xs ys ≡ Some Greater → ((y : Series) (rest : List Series) → ys ≡ y ∷ rest → (ys_then ≡ rest) × (done_then ≡ done ++ y ∷ [])) → length xs + length ys_then < length xs + length ys
fewer_of_other xs ys ys_then done done_then next move =
    let first = next_of_other xs ys next in
    let less : length ys_then ≡ length first.1 = ap length (move first.0 first.1 first.2).0 in
    let was : length ys ≡ length (first.0 ∷ first.1) = ap length first.2 in
    omega arith

pub fewer_of_both : (xs ys xs_then ys_then done done_then : List Series) → which_next xs ys ≡ Some Equal
    → ((x y : Series) (xs_left ys_left : List Series) → xs ≡ x ∷ xs_left → ys ≡ y ∷ ys_left → (xs_then ≡ xs_left) × (ys_then ≡ ys_left) × ((z : Series) × IsJoinedSeries x y z × (done_then ≡ done ++ z ∷ [])))
    → length xs_then + length ys_then < length xs + length ys
fewer_of_both xs ys xs_then ys_then done done_then next move =
    let first = next_of_both xs ys next in
    let moved = move first.x first.y first.xs_left first.ys_left first.xs_are first.ys_are in
    let one_less : length xs_then ≡ length first.xs_left = ap length moved.0 in
    let other_less : length ys_then ≡ length first.ys_left = ap length moved.1 in
    let one_was : length xs ≡ length (first.x ∷ first.xs_left) = ap length first.xs_are in
    let other_was : length ys ≡ length (first.y ∷ first.ys_left) = ap length first.ys_are in
    omega arith

-- ---- one list is empty

pub merge_of_none : (one other : List Series) → length one ≡ 0 → IsOrdered other → IsMergeOf one other other
merge_of_none [] other none h = record { ordered = h; content = λ ns. refl }
merge_of_none (x ∷ one) other none h = absurd (omega arith)

pub merge_with_none : (one other : List Series) → length other ≡ 0 → IsOrdered one → IsMergeOf one other one
merge_with_none one [] none h = record { ordered = h; content = λ ns. ap (fold raised empty) (sym (append-nil (points_in ns one))) }
merge_with_none one (y ∷ other) none h = absurd (omega arith)

pub merge_of_same : (one other : List Series) → one ≡ other → IsOrdered one → IsMergeOf one other one
merge_of_same one other same h = subst (λ xs. IsMergeOf one xs one) same (record {
  ordered = h;
  content = λ ns. sym (fold-append raised empty (points_in ns one) (points_in ns one) ∙ join_again (points_in ns one) empty);
})
