-- The first points of a volume's rows, from some of these rows.
use Rattle.std.proofs.Common.{◌≡◌, ◌∙◌, ℕ, ◌<◌, ◌≤◌, ℤ, List, [], ◌∷◌, ◌++◌, length, take, drop, Bool, true, false, refl, sym, ap, subst, inl, inr, arith, length-append, true≢false}
use Rattle.std.specs.Prelude.{◌⊎◌, Option, Some, None, not, nat_le, if◌then◌else◌, ◌==◌}
use Rattle.std.specs.FinMap.{get, nat_cmp-IsAntisymmetric, slice_cmp-IsAntisymmetric}
use Rattle.std.specs.Cmp.Lexicographic.{slice_cmp, nat_list_cmp_total}
use Rattle.std.specs.Ordering.{is_lt, nat_cmp, ordering_reverse}
use Rattle.std.specs.declared.cmp.Ordering.{Ordering}
use Rattle.std.specs.declared.cmp.Ordering.TheVariants.{Less, Equal, Greater}
use Rattle.std.proofs.lemmas.Bool.{eqb-true, eqb-false, leb-true, leb-false, cases_Bool}
use Rattle.std.proofs.lemmas.List.{length-map, length-take-le, take_all}
use Rattle.std.proofs.lemmas.List.Sums.{sum_by-cons}
use Rattle.std.proofs.lemmas.List.Concat.{flat_map-append}
use Rattle.m3_model.specs.Ascends.{Ascends}
use Rattle.m3_model.specs.Contents.{content_of, key_of, point_at}
use Rattle.m3_model.specs.Keys.{key_cmp}
use Rattle.m3_model.specs.Members.{IsIn}
use Rattle.m3_model.specs.Reads.{points_in}
use Rattle.m3_model.specs.Tags.{IsBelow}
use Rattle.m3_model.specs.declared.point.Key.{Key}
use Rattle.m3_model.specs.declared.point.Point.{Point}
use Rattle.m3_model.specs.declared.point.Series.{Series}
use Rattle.m3_model.proofs.Ascending.{Ascends-filter}
use Rattle.m3_model.proofs.Lists.{IsIn-filter, IsIn-filter_passes, IsIn-flat_map}
use Rattle.m3_model.proofs.MemberLemmas.{IsIn-append_cases, IsIn-append_left, IsIn-append_right, IsIn-map}
use Rattle.volume_points.specs.volume_rows.Ranges.{AreRowsFrom}
use Rattle.volume_points.specs.volume_rows.declared.ranges.RowRange.{RowRange}
use Rattle.volume_points.specs.volume_rows.fileset_lookup.Extents.{AreBelow, AreBeyond, AreEnough, IsBeyond, NoneIsBelow, NoneIsBeyond}
use Rattle.volume_points.specs.wire_bytes.Volumes.{count_of, points_of_row}
use Rattle.volume_points.proofs.series_merge_proofs.OrderLemmas.{content_in}
use Rattle.first_points.specs.Bounds.{is_up_to, points_up_to}
use Rattle.first_points.specs.Firsts.{AreFirst, AreInTurn, HasNonePast, IsNext, IsPast, last_key}
use Rattle.first_points.proofs.BoundLemmas.{up_to_apart, up_to_taken}
use Rattle.first_points.proofs.KeyOrder.{by_id, by_space}
use Rattle.first_points.proofs.ListedLemmas.{first_ends, listed_has}
use Rattle.first_points.proofs.PartitionLemmas.{back_ascends, front_ascends}
use Rattle.first_points.proofs.RowLemmas.{first_below, none_of_space, rows_ascend}
use Rattle.first_points.proofs.TurnLemmas.{not_both, past_later}
use Rattle.listed_volumes.proofs.NeededLemmas.{as_many, within_below}
use Rattle.listed_volumes.specs.Between.{first_id, last_id}

-- ---- a part of a list of points that ascends

abbrev IsLower : Point → Point → Type 0
IsLower a b = key_cmp (key_of a) (key_of b) ≡ Less

ascends_across : {X : Type 0} (R : X → X → Type 0) (xs ys : List X) → Ascends R (xs ++ ys) → (x y : X) → IsIn xs x → IsIn ys y → R x y
ascends_across R [] ys h x y m n = absurd m
ascends_across R (z ∷ xs) ys h x y (inl e) n = subst (λ w. R w y) e (h.0 y (IsIn-append_right xs ys y n))
ascends_across R (z ∷ xs) ys h x y (inr m) n = ascends_across R xs ys h.1 x y m n

module _ (front part back : List Point) (after : Option Key) (ascend : Ascends IsLower (front ++ (part ++ back))) (low : (p : Point) → IsIn front p → IsPast after (key_of p) → ⊥) where
  rest_ascends : Ascends IsLower (part ++ back)
  rest_ascends = back_ascends IsLower front (part ++ back) ascend

  -- what stands in the part stands in all
  in_all : (k : Key) (v : ℤ) → get (content_of part) k ≡ Some v → get (content_of (front ++ (part ++ back))) k ≡ Some v
  in_all k v here =
      listed_has (front ++ (part ++ back)) (point_at k v) ascend
      (IsIn-append_right front (part ++ back) (point_at k v) (IsIn-append_left part back (point_at k v) (content_in part (point_at k v) here)))

  -- what stands in all past the key stands in the part, or behind it
  from_all : (k : Key) (v : ℤ) → get (content_of (front ++ (part ++ back))) k ≡ Some v → IsPast after k → (get (content_of part) k ≡ Some v) ⊎ IsIn back (point_at k v)
  from_all k v here past =
      elim (IsIn-append_cases front (part ++ back) (point_at k v) (content_in (front ++ (part ++ back)) (point_at k v) here)) as (λ _. (get (content_of part) k ≡ Some v) ⊎ IsIn back (point_at k v)) [
        | inl m ↦ absurd (low (point_at k v) m past)
        | inr m ↦
            elim (IsIn-append_cases part back (point_at k v) m) as (λ _. (get (content_of part) k ≡ Some v) ⊎ IsIn back (point_at k v)) [
              | inl n ↦ inl (listed_has part (point_at k v) (front_ascends IsLower part back rest_ascends) n)
              | inr n ↦ inr n
            ]
      ]

  next_of_all : (a : Option Key) (p : Point) → ((k : Key) → IsPast a k → IsPast after k) → IsNext (content_of part) a p → IsNext (content_of (front ++ (part ++ back))) a p
  next_of_all a p later next = record {
    stands = in_all (key_of p) p.v next.stands;
    past = next.past;
    first = λ k v here past below.
        elim (from_all k v here (later k past)) as (λ _. ⊥) [
          | inl there ↦ next.first k v there past below
          | inr behind ↦ not_both k (key_of p) below (ascends_across IsLower part back rest_ascends p (point_at k v) (content_in part p next.stands) behind)
        ];
  }

  turns_of_all : (a : Option Key) (points : List Point) → ((k : Key) → IsPast a k → IsPast after k) → AreInTurn (content_of part) a points → AreInTurn (content_of (front ++ (part ++ back))) a points
  turns_of_all a [] later turn = tt
  turns_of_all a (p ∷ points) later turn = (
    next_of_all a p later turn.0,
    turns_of_all (Some (key_of p)) points (λ k above. later k (past_later a (key_of p) k turn.0.past above)) turn.1,
  )

  -- what is past the last of points in turn is past the key above which they begin
  past_first : (a : Option Key) (points : List Point) → AreInTurn (content_of part) a points → (k : Key) → IsPast (last_key a points) k → IsPast a k
  past_first a [] turn k past = past
  past_first a (p ∷ points) turn k past = past_later a (key_of p) k turn.0.past (past_first (Some (key_of p)) points turn.1 k past)

  none_of_all : (points : List Point) → ((p : Point) → IsIn back p → ⊥) → AreInTurn (content_of part) after points → HasNonePast (content_of part) (last_key after points) → HasNonePast (content_of (front ++ (part ++ back))) (last_key after points)
  none_of_all points no_back turn none k v here past =
      elim (from_all k v here (past_first after points turn k past)) as (λ _. ⊥) [
        | inl there ↦ none k v there past
        | inr behind ↦ no_back (point_at k v) behind
      ]

  -- the first points of the part are those of all, where nothing is behind it, or they are as many as are asked for
  first_of_all : (limit : ℕ) (points : List Point) → ((p : Point) → IsIn back p → ⊥) ⊎ (limit ≤ length points) → AreFirst (content_of part) after limit points → AreFirst (content_of (front ++ (part ++ back))) after limit points
  first_of_all limit points (inl no_back) h = record { in_turn = turns_of_all after points (λ k past. past) h.in_turn; few = h.few; all = λ less. none_of_all points no_back h.in_turn (h.all less) }
  first_of_all limit points (inr many) h = record { in_turn = turns_of_all after points (λ k past. past) h.in_turn; few = h.few; all = λ less. absurd (omega (arith, many, less)) }

-- ---- the points of rows below an identifier, and of rows beyond one

-- a point of rows is of one of them
record IsOfRow (ns : ℕ) (rows : List Series) (p : Point) : Type 0 where
  space : p.ns ≡ ns
  row : Series
  is_in : IsIn rows row
  named : p.id ≡ row.id

row_of : (ns : ℕ) (rows : List Series) (p : Point) → IsIn (points_in ns rows) p → IsOfRow ns rows p
row_of ns rows p m =
    let of = IsIn-flat_map _ rows p m in
    let at = IsIn-map _ of.0.points p of.2 in
    record { space = ap (λ (q : Point). q.ns) (sym at.2); row = of.0; is_in = of.1; named = ap (λ (q : Point). q.id) (sym at.2) }

not_below_none : (id : List ℕ) → IsBelow id [] → ⊥
not_below_none [] below = let bad : Equal ≡ Less = below in cc
not_below_none (b ∷ id) below = let bad : Greater ≡ Less = below in cc

-- no point of rows below the key's identifier is past the key
below_not_past : (ns : ℕ) (before : List Series) (after : Option Key) → AreBelow (first_id ns after) before → (p : Point) → IsIn (points_in ns before) p → IsPast after (key_of p) → ⊥
below_not_past ns before None below p m past = let of = row_of ns before p m in not_below_none of.row.id (below of.row of.is_in)
below_not_past ns before (Some a) below p m past = let of = row_of ns before p m in by (a.ns == ns) refl of.space of.named (below of.row of.is_in)
  where
    by : {id : List ℕ} (b : Bool) → (a.ns == ns) ≡ b → p.ns ≡ ns → p.id ≡ id → IsBelow id (if b then a.id else []) → ⊥
    by {id} true same space named low = not_both a (key_of p) past (by_id (key_of p) a (space ∙ sym (eqb-true a.ns ns same)) (subst (λ (x : List ℕ). IsBelow x a.id) (sym named) low))
    by {id} false same space named low = not_below_none id low

-- no point of rows beyond the last point's identifier is up to it
beyond_not_up_to : (ns : ℕ) (later : List Series) (last : Option Point) → AreBeyond (last_id ns last) later → (p : Point) → IsIn (points_in ns later) p → is_up_to last (key_of p) ≡ true → ⊥
beyond_not_up_to ns later None beyond p m within = let of = row_of ns later p m in beyond of.row of.is_in
beyond_not_up_to ns later (Some l) beyond p m within = let of = row_of ns later p m in by (l.ns == ns) refl of.space of.named (beyond of.row of.is_in)
  where
    by : {id : List ℕ} (b : Bool) → (l.ns == ns) ≡ b → p.ns ≡ ns → p.id ≡ id → IsBeyond (if b then Some l.id else None) id → ⊥
    by {id} true same space named high =
        let above : key_cmp (key_of l) (key_of p) ≡ Less = by_id (key_of l) (key_of p) (eqb-true l.ns ns same ∙ sym space) (subst (IsBelow l.id) (sym named) high) in
        true≢false (sym within ∙ ap (λ o. not (is_lt o)) above)
    by {id} false same space named high = high

-- ---- the rows from the key's identifier up to the last point's have the first points of all rows

up_to_parts : (ns : ℕ) (last : Option Point) (before some later : List Series)
    → points_up_to last (points_in ns (before ++ (some ++ later))) ≡ points_up_to last (points_in ns before) ++ (points_up_to last (points_in ns some) ++ points_up_to last (points_in ns later))
up_to_parts ns last before some later =
    ap (points_up_to last) (flat_map-append _ before (some ++ later)) ∙ up_to_apart last (points_in ns before) (points_in ns (some ++ later))
    ∙ ap (λ (l : List Point). points_up_to last (points_in ns before) ++ points_up_to last l) (flat_map-append _ some later)
    ∙ ap (λ (l : List Point). points_up_to last (points_in ns before) ++ l) (up_to_apart last (points_in ns some) (points_in ns later))

pub first_in_range : (ns : ℕ) (rows : List Series) (after : Option Key) (last : Option Point) (most limit : ℕ) (found : RowRange) (points : List Point) → Ascends (λ a b. IsBelow a.id b.id) rows
    → ((s : Series) → IsIn rows s → Ascends (λ a b. a.0 < b.0) s.points) → AreRowsFrom (first_id ns after) (last_id ns last) most rows found → (found.whole ≡ true) ⊎ (limit ≤ length points)
    → AreFirst (content_of (points_up_to last (points_in ns found.rows))) after limit points → AreFirst (content_of (points_up_to last (points_in ns rows))) after limit points
first_in_range ns rows after last most limit found points ids times are enough h =
    let front = points_up_to last (points_in ns are.before) in
    let part = points_up_to last (points_in ns found.rows) in
    let back = points_up_to last (points_in ns are.later) in
    let parts : points_up_to last (points_in ns rows) ≡ front ++ (part ++ back) = ap (λ (l : List Series). points_up_to last (points_in ns l)) are.split ∙ up_to_parts ns last are.before found.rows are.later in
    subst (λ (l : List Point). AreFirst (content_of l) after limit points) (sym parts)
    (first_of_all front part back after (subst (Ascends IsLower) parts (Ascends-filter IsLower (λ p. is_up_to last (key_of p)) (points_in ns rows) (rows_ascend ns rows ids times)))
    (λ p m. below_not_past ns are.before after are.below p (IsIn-filter (λ p. is_up_to last (key_of p)) (points_in ns are.before) p m)) limit points (done enough) h)
  where
    done : (found.whole ≡ true) ⊎ (limit ≤ length points) → ((p : Point) → IsIn (points_up_to last (points_in ns are.later)) p → ⊥) ⊎ (limit ≤ length points)
    done (inl whole) =
        inl (λ p m. beyond_not_up_to ns are.later last (subst (AreEnough (last_id ns last) most found.rows are.later) whole are.enough) p
        (IsIn-filter (λ p. is_up_to last (key_of p)) (points_in ns are.later) p m) (IsIn-filter_passes (λ p. is_up_to last (key_of p)) (points_in ns are.later) p m))
    done (inr many) = inr many

-- ---- the rows that are read are enough

other_above : (m n : ℕ) → m ≤ n → (n ≡ m → ⊥) → m < n
other_above m n le other = elim (cases_Bool (nat_le n m)) as (λ _. m < n) [ inl there ↦ absurd (other (let back = leb-true n m there in omega (arith, le, back))) | inr less ↦ leb-false n m less ]

-- what is above one that isn't below an identifier is above that
above_reached : (a b c : List ℕ) → ¬ IsBelow b a → IsBelow b c → IsBelow a c
above_reached a b c other more = by (slice_cmp nat_cmp b a) refl
  where
    by : (o : Ordering) → slice_cmp nat_cmp b a ≡ o → IsBelow a c
    by Less e = absurd (other e)
    by Equal e = subst (λ (i : List ℕ). IsBelow i c) (slice_cmp-IsAntisymmetric nat_cmp-IsAntisymmetric b a e) more
    by Greater e = nat_list_cmp_total.trans a b c (nat_list_cmp_total.antisymm a b ∙ ap ordering_reverse e) more

points_counted : (ns : ℕ) (rows : List Series) → length (points_in ns rows) ≡ count_of rows
points_counted ns [] = refl
points_counted ns (s ∷ rows) =
    let own = points_of_row ns s in
    let both = length-append own (points_in ns rows) in
    let one : length own ≡ length s.points = length-map s.points (λ (x : ℕ × ℤ). record { ns = ns; id = s.id; t = x.0; v = x.1 }) in
    let rest = points_counted ns rows in
    let sum = sum_by-cons (λ (r : Series). length r.points) s rows in
    omega (arith, both, one, rest, sum)

up_to_all : (last : Option Point) (points : List Point) → ((p : Point) → IsIn points p → is_up_to last (key_of p) ≡ true) → points_up_to last points ≡ points
up_to_all last [] each = refl
up_to_all last (p ∷ points) each = up_to_taken last p points (each p (inl refl)) ∙ ap (λ (l : List Point). p ∷ l) (up_to_all last points (λ q m. each q (inr m)))

-- rows that are read in part are all up to the last point
module _ (ns : ℕ) (found later : List Series) (last : Option Point) (ids : Ascends (λ a b. IsBelow a.id b.id) (found ++ later)) (within : NoneIsBeyond (last_id ns last) found) (part : ¬ AreBeyond (last_id ns last) later)
    (low : (l : Point) → last ≡ Some l → ns ≤ l.ns) where
  -- where a row is of the last point's identifier, all behind it are beyond that
  id_up_to : (l : Point) (s : Series) → IsIn found s → (¬ IsBelow l.id s.id) → (¬ AreBeyond (Some l.id) later) → IsBelow s.id l.id
  id_up_to l s m within part = by (slice_cmp nat_cmp s.id l.id) refl
    where
      by : (o : Ordering) → slice_cmp nat_cmp s.id l.id ≡ o → IsBelow s.id l.id
      by Less e = e
      by Equal e =
          let same : s.id ≡ l.id = slice_cmp-IsAntisymmetric nat_cmp-IsAntisymmetric s.id l.id e in
          absurd (part (λ r n. subst (λ (i : List ℕ). IsBelow i r.id) same (ascends_across (λ (a b : Series). IsBelow a.id b.id) found later ids s r m n)))
      by Greater e = absurd (within (nat_list_cmp_total.antisymm l.id s.id ∙ ap ordering_reverse e))

  each_up_to : (p : Point) → IsIn (points_in ns found) p → is_up_to last (key_of p) ≡ true
  each_up_to p m = by last within part low
    where
      of : IsOfRow ns found p
      of = row_of ns found p m

      by : (o : Option Point) → NoneIsBeyond (last_id ns o) found → ¬ AreBeyond (last_id ns o) later → ((l : Point) → o ≡ Some l → ns ≤ l.ns) → is_up_to o (key_of p) ≡ true
      by None within part low = refl
      by (Some l) within part low = inner (l.ns == ns) refl within part
        where
          inner : (b : Bool) → (l.ns == ns) ≡ b → NoneIsBeyond (if b then Some l.id else None) found → ¬ AreBeyond (if b then Some l.id else None) later → is_up_to (Some l) (key_of p) ≡ true
          inner true same within part =
              let below = id_up_to l of.row of.is_in (within of.row of.is_in) part in
              within_below l (key_of p) (by_id (key_of p) (key_of l) (of.space ∙ sym (eqb-true l.ns ns same)) (subst (λ (i : List ℕ). IsBelow i l.id) (sym of.named) below))
          inner false other within part =
              let least = low l refl in
              let space = of.space in
              within_below l (key_of p) (by_space (key_of p) (key_of l) (let less = other_above ns l.ns least (eqb-false l.ns ns other) in omega (arith, less, space)))

-- each row behind the first one not below the key's identifier is above it
module _ (ns : ℕ) (x : Series) (rest : List Series) (after : Option Key) (ids : Ascends (λ a b. IsBelow a.id b.id) (x ∷ rest)) (reached : ¬ IsBelow x.id (first_id ns after)) (high : (k : Key) → after ≡ Some k → k.ns ≤ ns) where
  rest_past : (p : Point) → IsIn (points_in ns rest) p → IsPast after (key_of p)
  rest_past p m = by after reached high
    where
      of : IsOfRow ns rest p
      of = row_of ns rest p m

      by : (o : Option Key) → ¬ IsBelow x.id (first_id ns o) → ((k : Key) → o ≡ Some k → k.ns ≤ ns) → IsPast o (key_of p)
      by None reached high = tt
      by (Some k) reached high = inner (k.ns == ns) refl reached
        where
          inner : (b : Bool) → (k.ns == ns) ≡ b → ¬ IsBelow x.id (if b then k.id else []) → key_cmp k (key_of p) ≡ Less
          inner true same reached =
              by_id k (key_of p) (eqb-true k.ns ns same ∙ sym of.space) (subst (IsBelow k.id) (sym of.named) (above_reached k.id x.id of.row.id reached (ids.0 of.row of.is_in)))
          inner false other reached =
              let most = high k refl in
              let space = of.space in
              by_space k (key_of p) (let less = other_above k.ns ns most (λ e. eqb-false k.ns ns other (sym e)) in omega (arith, less, space))

module _ (ns : ℕ) (rows : List Series) (after : Option Key) (last : Option Point) (limit : ℕ) (found : RowRange) (points : List Point)
    (ids : Ascends (λ a b. IsBelow a.id b.id) rows) (times : (s : Series) → IsIn rows s → Ascends (λ a b. a.0 < b.0) s.points) (are : AreRowsFrom (first_id ns after) (last_id ns last) limit rows found)
    (first : AreFirst (content_of (points_up_to last (points_in ns found.rows))) after limit points) where
  ids_from : Ascends (λ (a b : Series). IsBelow a.id b.id) (found.rows ++ are.later)
  ids_from = back_ascends (λ (a b : Series). IsBelow a.id b.id) are.before (found.rows ++ are.later) (subst (Ascends (λ (a b : Series). IsBelow a.id b.id)) are.split ids)

  ids_found : Ascends (λ (a b : Series). IsBelow a.id b.id) found.rows
  ids_found = front_ascends (λ (a b : Series). IsBelow a.id b.id) found.rows are.later ids_from

  times_found : (s : Series) → IsIn found.rows s → Ascends (λ (a b : ℕ × ℤ). a.0 < b.0) s.points
  times_found s m = times s (subst (λ (l : List Series). IsIn l s) (sym are.split) (IsIn-append_right are.before (found.rows ++ are.later) s (IsIn-append_left found.rows are.later s m)))

  -- as many points are found as are asked for, where not all rows are read
  many : ((k : Key) → after ≡ Some k → k.ns ≤ ns) → ((l : Point) → last ≡ Some l → ns ≤ l.ns) → found.whole ≡ false → limit ≤ length points
  many high low whole =
      by found.rows ids_found times_found are.reached (subst (AreEnough (last_id ns last) limit found.rows are.later) whole are.enough)
      (subst (λ (l : List Point). AreFirst (content_of l) after limit points)
      (up_to_all last (points_in ns found.rows) (each_up_to ns found.rows are.later last ids_from are.within (are.part whole) low)) first)
    where
      by : (some : List Series) → Ascends (λ (a b : Series). IsBelow a.id b.id) some → ((s : Series) → IsIn some s → Ascends (λ (a b : ℕ × ℤ). a.0 < b.0) s.points) → NoneIsBelow (first_id ns after) some → limit ≤ count_of (drop 1 some)
          → AreFirst (content_of (points_in ns some)) after limit points → limit ≤ length points
      by [] ids times reached enough first = let most = enough in omega (arith, most)
      by (x ∷ rest) ids times reached enough first =
          let tail = points_in ns rest in
          let all = points_in ns (x ∷ rest) in
          let ascend = rows_ascend ns (x ∷ rest) ids times in
          let ascend_tail = rows_ascend ns rest ids.1 (λ s m. times s (inr m)) in
          let past = rest_past ns x rest after ids (reached x (inl refl)) high in
          let counted = points_counted ns rest in
          let long : limit ≤ length tail = (let most = enough in omega (arith, most, counted)) in
          let taken : length (take limit tail) ≡ limit = length-take-le limit tail long in
          as_many (content_of tail) (content_of all)
          (λ k v here. (v, listed_has all (point_at k v) ascend (IsIn-append_right (points_of_row ns x) tail (point_at k v) (content_in tail (point_at k v) here))))
          after limit (take limit tail) points (omega (arith, taken)) (first_ends limit tail [] tail after ascend_tail refl (λ p m. absurd m) past) first

  -- so they have the first points of all rows
  inside : ((k : Key) → after ≡ Some k → k.ns ≤ ns) → ((l : Point) → last ≡ Some l → ns ≤ l.ns) → AreFirst (content_of (points_up_to last (points_in ns rows))) after limit points
  inside high low = first_in_range ns rows after last limit limit found points ids times are (by found.whole refl) first
    where
      by : (b : Bool) → found.whole ≡ b → (found.whole ≡ true) ⊎ (limit ≤ length points)
      by true e = inl e
      by false e = inr (many high low e)

  -- none is past a key of a later namespace
  below_key : (k : Key) → after ≡ Some k → ns < k.ns → AreFirst (content_of (points_up_to last (points_in ns rows))) after limit points
  below_key k is less =
      subst (λ (o : Option Key). AreFirst (content_of (points_up_to last (points_in ns rows))) o limit points) (sym is)
      (subst (AreFirst (content_of (points_up_to last (points_in ns rows))) (Some k) limit) (take_all limit [] (omega arith) ∙ sym (nothing points (subst (λ (o : Option Key). AreInTurn (content_of (points_up_to last (points_in ns found.rows))) o points) is first.in_turn)))
      (first_below ns rows ids times last limit k less))
    where
      nothing : (points : List Point) → AreInTurn (content_of (points_up_to last (points_in ns found.rows))) (Some k) points → points ≡ []
      nothing [] turn = refl
      nothing (p ∷ points) turn =
          let there = IsIn-filter (λ q. is_up_to last (key_of q)) (points_in ns found.rows) p (content_in (points_up_to last (points_in ns found.rows)) p turn.0.stands) in
          let space = (row_of ns found.rows p there).space in
          absurd (not_both k (key_of p) turn.0.past (by_space (key_of p) k (omega (arith, less, space))))

  -- nor up to a last point of an earlier one
  above_last : (l : Point) → last ≡ Some l → l.ns < ns → AreFirst (content_of (points_up_to last (points_in ns rows))) after limit points
  above_last l is less = subst (λ (ps : List Point). AreFirst (content_of ps) after limit points) (none found.rows ∙ sym (none rows)) first
    where
      none : (some : List Series) → points_up_to last (points_in ns some) ≡ []
      none some = ap (λ (o : Option Point). points_up_to o (points_in ns some)) is ∙ none_of_space l ns some less

  pub first_of_range : AreFirst (content_of (points_up_to last (points_in ns rows))) after limit points
  first_of_range = by after last refl refl
    where
      with_last : ((k : Key) → after ≡ Some k → k.ns ≤ ns) → (o : Option Point) → last ≡ o → AreFirst (content_of (points_up_to last (points_in ns rows))) after limit points
      with_last high None is = inside high (λ l e. let bad : ◌≡◌ {A = Option Point} None (Some l) = sym is ∙ e in absurd (cc))
      with_last high (Some l) is =
          elim (cases_Bool (nat_le ns l.ns)) as (λ _. AreFirst (content_of (points_up_to last (points_in ns rows))) after limit points) [
            | inl there ↦ inside high (λ m e. let same : l ≡ m = (let both : Some l ≡ Some m = sym is ∙ e in cc) in subst (λ (q : Point). ns ≤ q.ns) same (leb-true ns l.ns there))
            | inr less ↦ above_last l is (leb-false ns l.ns less)
          ]

      by : (o : Option Key) (q : Option Point) → after ≡ o → last ≡ q → AreFirst (content_of (points_up_to last (points_in ns rows))) after limit points
      by None q is here = with_last (λ k e. let bad : ◌≡◌ {A = Option Key} None (Some k) = sym is ∙ e in absurd (cc)) q here
      by (Some k) q is here =
          elim (cases_Bool (nat_le k.ns ns)) as (λ _. AreFirst (content_of (points_up_to last (points_in ns rows))) after limit points) [
            | inl there ↦ with_last (λ m e. let same : k ≡ m = (let both : Some k ≡ Some m = sym is ∙ e in cc) in subst (λ (q : Key). q.ns ≤ ns) same (leb-true k.ns ns there)) q here
            | inr less ↦ below_key k is (leb-false k.ns ns less)
          ]
