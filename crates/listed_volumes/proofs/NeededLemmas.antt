-- The first points of volumes in two parts: where the one has as many as are asked for, none above its last is needed of the other.
use Rattle.std.proofs.Common.{◌≡◌, ◌∙◌, ℕ, suc, ◌-◌, ◌≤◌, ℤ, List, [], ◌∷◌, ◌++◌, length, Bool, true, false, refl, sym, ap, subst, inl, inr, arith, true≢false}
use Rattle.std.specs.Prelude.{Option, Some, None, not, nat_le, slice_get}
use Rattle.std.specs.FinMap.{empty, get, get-empty}
use Rattle.std.specs.Ordering.{is_lt, ordering_reverse}
use Rattle.std.specs.declared.cmp.Ordering.{Ordering}
use Rattle.std.specs.declared.cmp.Ordering.TheVariants.{Less, Equal, Greater}
use Rattle.std.proofs.lemmas.List.Sums.{fold-append}
use Rattle.std.proofs.lemmas.Bool.{leb-true, leb-false, cases_Bool}
use Rattle.m3_model.specs.Answers.{HasPoint}
use Rattle.m3_model.specs.Contents.{Contents, content_of, higher, key_of, point_at, raised}
use Rattle.m3_model.specs.Keys.{key_cmp, key_cmp_total}
use Rattle.m3_model.specs.declared.point.Key.{Key}
use Rattle.m3_model.specs.declared.point.Point.{Point}
use Rattle.m3_model.proofs.JoinLemmas.{raised_source}
use Rattle.m3_model.proofs.Keyed.{key_cmp-IsAntisymmetric}
use Rattle.m3_model.proofs.Lists.{IsIn-filter_passes}
use Rattle.volume_points.proofs.series_merge_proofs.OrderLemmas.{content_in}
use Rattle.volume_points.proofs.JoinedLemmas.{get-joined, higher_of as higher_there}
use Rattle.first_points.specs.Bounds.{is_up_to, points_up_to}
use Rattle.first_points.specs.Firsts.{AreFirst, AreInTurn, HasNonePast, IsNext, IsPast, last_key}
use Rattle.first_points.specs.Merges.{IsJoinOf, higher_of}
use Rattle.first_points.proofs.BoundLemmas.{up_to_apart, up_to_left, up_to_taken}
use Rattle.first_points.proofs.TurnLemmas.{not_itself}
use Rattle.listed_volumes.specs.FirstListed.{IsLastNeeded}
use Rattle.listed_volumes.proofs.FirstLemmas.{join_of_points, join_turned}

-- ---- what stands at a key of the points up to a last one

higher_of_none : (o : Option ℤ) → higher_there None o ≡ o
higher_of_none None = refl
higher_of_none (Some v) = refl

module _ (last : Option Point) where
  -- it is within
  pub from_within : (points : List Point) (k : Key) (v : ℤ) → get (content_of (points_up_to last points)) k ≡ Some v → is_up_to last k ≡ true
  from_within points k v here = IsIn-filter_passes (λ p. is_up_to last (key_of p)) points (point_at k v) (content_in (points_up_to last points) (point_at k v) here)

  -- a point above the last one has no part in what stands within
  no_part : (p : Point) (k : Key) → is_up_to last (key_of p) ≡ false → is_up_to last k ≡ true → get (raised empty p) k ≡ None
  no_part p k above in_it = by (get (raised empty p) k) refl
    where
      by : (o : Option ℤ) → get (raised empty p) k ≡ o → get (raised empty p) k ≡ None
      by None e = e
      by (Some v) e =
          elim (raised_source empty p k v e) as (λ _. get (raised empty p) k ≡ None) [
            | inl same ↦ absurd (true≢false (sym in_it ∙ ap (λ (q : Point). is_up_to last (key_of q)) (sym same) ∙ above))
            | inr none ↦ absurd (let bad : ◌≡◌ {A = Option ℤ} None (Some v) = sym (get-empty {X = ℤ} key_cmp k) ∙ none in cc)
          ]

  -- what stands within is what all of the points have there
  pub same_within : (points : List Point) (k : Key) → is_up_to last k ≡ true → get (content_of (points_up_to last points)) k ≡ get (content_of points) k
  same_within [] k in_it = refl
  same_within (p ∷ points) k in_it = by (same_within points k in_it) (is_up_to last (key_of p)) refl
    where
      all : get (content_of (p ∷ points)) k ≡ higher_there (get (raised empty p) k) (get (content_of points) k)
      all = get-joined (raised empty p) points k

      by : get (content_of (points_up_to last points)) k ≡ get (content_of points) k → (b : Bool) → is_up_to last (key_of p) ≡ b → get (content_of (points_up_to last (p ∷ points))) k ≡ get (content_of (p ∷ points)) k
      by rest true e =
          ap (λ (l : List Point). get (content_of l) k) (up_to_taken last p points e)
          ∙ get-joined (raised empty p) (points_up_to last points) k ∙ ap (higher_there (get (raised empty p) k)) rest ∙ sym all
      by rest false e =
          ap (λ (l : List Point). get (content_of l) k) (up_to_left last p points e)
          ∙ rest ∙ sym (all ∙ ap (λ o. higher_there o (get (content_of points) k)) (no_part p k e in_it) ∙ higher_of_none (get (content_of points) k))

-- ---- a lower last point

-- what is up to a point that isn't above the last one isn't either
within_lower : (last : Option Point) (p : Point) (k : Key) → is_up_to last (key_of p) ≡ true → is_up_to (Some p) k ≡ true → is_up_to last k ≡ true
within_lower None p k low in_it = refl
within_lower (Some last) p k low in_it = by (key_cmp (key_of last) k) (key_cmp (key_of p) k) refl refl
  where
    by : (o q : Ordering) → key_cmp (key_of last) k ≡ o → key_cmp (key_of p) k ≡ q → not (is_lt (key_cmp (key_of last) k)) ≡ true
    by Equal q e f = ap (λ o. not (is_lt o)) e
    by Greater q e f = ap (λ o. not (is_lt o)) e
    by Less Less e f = absurd (true≢false (sym in_it ∙ ap (λ o. not (is_lt o)) f))
    by Less Equal e f =
        absurd (true≢false (sym low ∙ ap (λ o. not (is_lt o)) (subst (λ l. key_cmp (key_of last) l ≡ Less) (sym (key_cmp-IsAntisymmetric (key_of p) k f)) e)))
    by Less Greater e f =
        absurd (true≢false (sym low ∙ ap (λ o. not (is_lt o)) (key_cmp_total.trans (key_of last) k (key_of p) e (key_cmp_total.antisymm k (key_of p) ∙ ap ordering_reverse f))))

-- what is below a point is up to it
pub within_below : (p : Point) (k : Key) → key_cmp k (key_of p) ≡ Less → is_up_to (Some p) k ≡ true
within_below p k below = ap (λ o. not (is_lt o)) (key_cmp_total.antisymm (key_of p) k ∙ ap ordering_reverse below)

within_itself : (p : Point) → is_up_to (Some p) (key_of p) ≡ true
within_itself p = by (key_cmp (key_of p) (key_of p)) refl
  where
    by : (o : Ordering) → key_cmp (key_of p) (key_of p) ≡ o → not (is_lt (key_cmp (key_of p) (key_of p))) ≡ true
    by Less e = absurd (not_itself (key_of p) e)
    by Equal e = ap (λ o. not (is_lt o)) e
    by Greater e = ap (λ o. not (is_lt o)) e

-- the last of points in turn stands, and is their last key
record Ends (c : Contents) (after : Option Key) (points : List Point) (p : Point) : Type 0 where
  key : last_key after points ≡ Some (key_of p)
  stands : HasPoint c p

ends_at : (c : Contents) (after : Option Key) (points : List Point) (p : Point) → slice_get points (length points - 1) ≡ Some p → AreInTurn c after points → Ends c after points p
ends_at c after [] p got turn = absurd (let bad : ◌≡◌ {A = Option Point} None (Some p) = got in cc)
ends_at c after (q ∷ []) p got turn = let same : q ≡ p = cc in record { key = ap (λ (x : Point). Some (key_of x)) same; stands = subst (HasPoint c) same turn.0.stands }
ends_at c after (q ∷ r ∷ points) p got turn =
    let next : suc (suc (length points)) - 1 ≡ suc (length points) = omega arith in
    let this : length points ≡ suc (length points) - 1 = omega arith in
    let later = ends_at c (Some (key_of q)) (r ∷ points) p (ap (λ n. slice_get (r ∷ points) n) (sym this) ∙ sym (ap (λ n. slice_get (q ∷ r ∷ points) n) next) ∙ got) turn.1 in
    record { key = later.key; stands = later.stands }

-- ---- the same points are the first ones up to a lower last point, and up to a higher one

module _ (given : Option Point) (p : Point) (low : is_up_to given (key_of p) ≡ true) (points : List Point) where
  in_narrow : (k : Key) (v : ℤ) → get (content_of (points_up_to given points)) k ≡ Some v → is_up_to (Some p) k ≡ true → get (content_of (points_up_to (Some p) points)) k ≡ Some v
  in_narrow k v here in_it = same_within (Some p) points k in_it ∙ sym (same_within given points k (from_within given points k v here)) ∙ here

  in_wide : (k : Key) (v : ℤ) → get (content_of (points_up_to (Some p) points)) k ≡ Some v → get (content_of (points_up_to given points)) k ≡ Some v
  in_wide k v here =
      let in_it = from_within (Some p) points k v here in
      same_within given points k (within_lower given p k low in_it) ∙ sym (same_within (Some p) points k in_it) ∙ here

  next_narrow : (after : Option Key) (q : Point) → IsNext (content_of (points_up_to given points)) after q → is_up_to (Some p) (key_of q) ≡ true → IsNext (content_of (points_up_to (Some p) points)) after q
  next_narrow after q next in_it = record {
    stands = in_narrow (key_of q) q.v next.stands in_it;
    past = next.past;
    first = λ k v here past below. next.first k v (in_wide k v here) past below;
  }

  next_wide : (after : Option Key) (q : Point) → IsNext (content_of (points_up_to (Some p) points)) after q → IsNext (content_of (points_up_to given points)) after q
  next_wide after q next = record {
    stands = in_wide (key_of q) q.v next.stands;
    past = next.past;
    first = λ k v here past below.
        next.first k v (in_narrow k v here (within_lower (Some p) q k (from_within (Some p) points (key_of q) q.v next.stands) (within_below q k below))) past below;
  }

  -- points in turn that end at the last one are up to it
  turns_narrow : (after : Option Key) (first : List Point) → AreInTurn (content_of (points_up_to given points)) after first → last_key after first ≡ Some (key_of p) → AreInTurn (content_of (points_up_to (Some p) points)) after first
  turns_narrow after [] turn ends = tt
  turns_narrow after (q ∷ first) turn ends = (next_narrow after q turn.0 (up_to_end q first turn.1 ends), turns_narrow (Some (key_of q)) first turn.1 ends)
    where
      up_to_end : (q : Point) (first : List Point) → AreInTurn (content_of (points_up_to given points)) (Some (key_of q)) first → last_key (Some (key_of q)) first ≡ Some (key_of p) → is_up_to (Some p) (key_of q) ≡ true
      up_to_end q [] turn ends = let same : key_of q ≡ key_of p = cc in subst (λ k. is_up_to (Some p) k ≡ true) (sym same) (within_itself p)
      up_to_end q (r ∷ first) turn ends = within_lower (Some p) r (key_of q) (up_to_end r first turn.1 ends) (within_below r (key_of q) turn.0.past)

  turns_wide : (after : Option Key) (first : List Point) → AreInTurn (content_of (points_up_to (Some p) points)) after first → AreInTurn (content_of (points_up_to given points)) after first
  turns_wide after [] turn = tt
  turns_wide after (q ∷ first) turn = (next_wide after q turn.0, turns_wide (Some (key_of q)) first turn.1)

  pub first_narrow : (after : Option Key) (limit : ℕ) (first : List Point) → limit ≤ length first → last_key after first ≡ Some (key_of p) → AreFirst (content_of (points_up_to given points)) after limit first
      → AreFirst (content_of (points_up_to (Some p) points)) after limit first
  first_narrow after limit first many ends h = record { in_turn = turns_narrow after first h.in_turn ends; few = h.few; all = λ few. absurd (omega (arith, many, few)) }

  pub first_wide : (after : Option Key) (limit : ℕ) (first : List Point) → limit ≤ length first → AreFirst (content_of (points_up_to (Some p) points)) after limit first → AreFirst (content_of (points_up_to given points)) after limit first
  first_wide after limit first many h = record { in_turn = turns_wide after first h.in_turn; few = h.few; all = λ few. absurd (omega (arith, many, few)) }

-- ---- of a content that has each key of another no fewer points are the first ones

module _ (c both : Contents) (each : (k : Key) (v : ℤ) → get c k ≡ Some v → (w : ℤ) × (get both k ≡ Some w)) where
  no_fewer : (a b : Option Key) → ((k : Key) → IsPast a k → IsPast b k) → (xs ys : List Point) → AreInTurn c a xs → AreInTurn both b ys → HasNonePast both (last_key b ys) → length xs ≤ length ys
  no_fewer a b later [] ys of_xs of_ys none = omega arith
  no_fewer a b later (x ∷ xs) [] of_xs of_ys none = let here = each (key_of x) x.v of_xs.0.stands in absurd (none (key_of x) here.0 here.1 (later (key_of x) of_xs.0.past))
  no_fewer a b later (x ∷ xs) (y ∷ ys) of_xs of_ys none =
      let rest = no_fewer (Some (key_of x)) (Some (key_of y)) behind xs ys of_xs.1 of_ys.1 none in omega (arith, rest)
    where
      behind : (k : Key) → key_cmp (key_of x) k ≡ Less → key_cmp (key_of y) k ≡ Less
      behind k above = by (key_cmp (key_of x) (key_of y)) refl
        where
          by : (o : Ordering) → key_cmp (key_of x) (key_of y) ≡ o → key_cmp (key_of y) k ≡ Less
          by Less e = let here = each (key_of x) x.v of_xs.0.stands in absurd (of_ys.0.first (key_of x) here.0 here.1 (later (key_of x) of_xs.0.past) e)
          by Equal e = subst (λ l. key_cmp l k ≡ Less) (key_cmp-IsAntisymmetric (key_of x) (key_of y) e) above
          by Greater e = key_cmp_total.trans (key_of y) (key_of x) k (key_cmp_total.antisymm (key_of y) (key_of x) ∙ ap ordering_reverse e) above

  pub as_many : (after : Option Key) (limit : ℕ) (xs ys : List Point) → limit ≤ length xs → AreFirst c after limit xs → AreFirst both after limit ys → limit ≤ length ys
  as_many after limit xs ys many of_xs of_ys =
      elim (cases_Bool (nat_le limit (length ys))) as (λ _. limit ≤ length ys) [
        | inl there ↦ leb-true limit (length ys) there
        | inr fewer ↦
            let less = leb-false limit (length ys) fewer in
            let no = no_fewer after after (λ k past. past) xs ys of_xs.in_turn of_ys.in_turn (of_ys.all less) in
            absurd (omega (arith, less, no, many))
      ]

-- what stands in a content stands in its join
in_join : (c d both : Contents) → IsJoinOf c d both → (k : Key) (v : ℤ) → get c k ≡ Some v → (w : ℤ) × (get both k ≡ Some w)
in_join c d both join k v here = by (get d k) refl
  where
    by : (o : Option ℤ) → get d k ≡ o → (w : ℤ) × (get both k ≡ Some w)
    by None e = (v, join k ∙ ap (higher_of (get c k)) e ∙ here)
    by (Some w) e = (higher (get c k) w, join k ∙ ap (higher_of (get c k)) e)

-- ---- both parts

-- both are joined up to a last point
join_up_to : (last : Option Point) (front back : List Point) → IsJoinOf (content_of (points_up_to last front)) (content_of (points_up_to last back)) (content_of (points_up_to last (front ++ back)))
join_up_to last front back =
    subst (IsJoinOf (content_of (points_up_to last front)) (content_of (points_up_to last back))) (sym (fold-append raised empty (points_up_to last front) (points_up_to last back)) ∙ ap content_of (sym (up_to_apart last front back)))
    (join_of_points (content_of (points_up_to last front)) (points_up_to last back))

-- the first points of both, merged, of which those of one are known up to where they are needed
module _ (after : Option Key) (limit : ℕ) (given needed : Option Point) (one other whole early late points : List Point)
    (join : (last : Option Point) → IsJoinOf (content_of (points_up_to last one)) (content_of (points_up_to last other)) (content_of (points_up_to last whole)))
    (of_one : AreFirst (content_of (points_up_to given one)) after limit early) (of_other : AreFirst (content_of (points_up_to needed other)) after limit late)
    (merge : (c d both : Contents) (after : Option Key) → IsJoinOf c d both → AreFirst c after limit early → AreFirst d after limit late → AreFirst both after limit points) where
  pub first_of_join : IsLastNeeded early limit given needed → AreFirst (content_of (points_up_to given whole)) after limit points
  first_of_join need = by needed need of_other
    where
      by : (o : Option Point) → IsLastNeeded early limit given o → AreFirst (content_of (points_up_to o other)) after limit late → AreFirst (content_of (points_up_to given whole)) after limit points
      by o (inl same) of_other = merge _ _ _ after (join given) of_one (subst (λ (o : Option Point). AreFirst (content_of (points_up_to o other)) after limit late) same of_other)
      by None (inr many) of_other = absurd (let bad : false ≡ true = many.1.0 in true≢false (sym bad))
      by (Some p) (inr many) of_other =
          let ends = ends_at (content_of (points_up_to given one)) after early p many.1.1 of_one.in_turn in
          let low = from_within given one (key_of p) p.v ends.stands in
          let narrow = first_narrow given p low one after limit early many.0 ends.key of_one in
          let merged = merge _ _ _ after (join (Some p)) narrow of_other in
          first_wide given p low whole after limit points (as_many _ _ (in_join _ _ _ (join (Some p))) after limit early points many.0 narrow merged) merged

-- of the first part and the second, whichever is taken first
pub join_of_parts : (front back : List Point) (last : Option Point) → IsJoinOf (content_of (points_up_to last front)) (content_of (points_up_to last back)) (content_of (points_up_to last (front ++ back)))
join_of_parts front back last = join_up_to last front back

pub join_of_turned : (front back : List Point) (last : Option Point) → IsJoinOf (content_of (points_up_to last back)) (content_of (points_up_to last front)) (content_of (points_up_to last (front ++ back)))
join_of_turned front back last = join_turned _ _ _ (join_up_to last front back)
