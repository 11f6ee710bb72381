-- The series of a range hold exactly the points that are asked for.
use Rattle.std.proofs.Common.{◌≡◌, ℕ, ◌<◌, ◌≤◌, ℤ, List, [], ◌∷◌, ◌++◌, map, refl, sym, ap, ◌∙◌, subst, inl, inr, Bool, true, false, cond, ◌&&◌, T, length, IsPermutation, IsSortedByKey, arith}
use Rattle.std.specs.Prelude.{Option, Some, None, nat_le, nat_lt, nat_eq}
use Rattle.std.specs.List.{filter_map, cons_option, flat_map, AllByRecursion, IsDistinct}
use Rattle.std.specs.List.Sorted.{IsStrictlySortedBy}
use Rattle.std.specs.Map.{keys_of}
use Rattle.std.specs.FinMap as finite
use Rattle.std.specs.FinMap.{is_sorted, entries, entries_sorted, nat_cmp-IsAntisymmetric}
use Rattle.std.specs.FinMap.Entries.{below_all}
use Rattle.std.specs.Cmp.{IsTotalOrder, nat_cmp_total}
use Rattle.std.specs.Cmp.Lexicographic.{slice_cmp, pointwise, texts_ties}
use Rattle.std.specs.Ordering.{nat_cmp, eq_by_cmp}
use Rattle.std.specs.declared.cmp.Ordering.{Ordering}
use Rattle.std.specs.declared.cmp.Ordering.TheVariants.{Less}
use Rattle.std.proofs.lemmas.Cmp.{ranked, on_total, nat_list_cmp_total}
use Rattle.std.proofs.lemmas.Bool.{eqb-true, eq-eqb, leb-true, le-leb, ltb-true, lt-ltb}
use Rattle.std.proofs.lemmas.List.Sorted.{IsPermutation-sym}
use Rattle.std.proofs.lemmas.Map.Keys.{IsDistinct-IsPermutation}
use Rattle.m3_model.specs.declared.point.Point.{Point}
use Rattle.m3_model.specs.declared.point.Series.{Series}
use Rattle.m3_model.specs.declared.point.Pick.TheVariants as pick
use Rattle.m3_model.specs.Members.{IsIn}
use Rattle.m3_model.specs.Ascends.{Ascends}
use Rattle.m3_model.specs.Tags.{IsBelow}
use Rattle.m3_model.specs.Contents.{key_of}
use Rattle.m3_model.specs.Reads.{points_in}
use Rattle.m3_model.proofs.FindLemmas.{both_hold, below_member, get-IsIn, IsIn-get}
use Rattle.m3_model.proofs.MemberLemmas.{IsIn-filter_map, filter_map-IsIn, IsIn-map, map-IsIn}
use Rattle.m3_model.proofs.RangeLemmas.{both_true}
use Rattle.series_slots.specs.declared.series_key.SeriesKey.{SeriesKey}
use Rattle.series_slots.specs.SeriesKeys.{series_cmp, series_cmp_total, series_eq, series_of}
use Rattle.series_slots.specs.Slots.{Slots, settled, value_at, valued, valued_in}
use Rattle.series_slots.specs.Points.{AllSlots, points_of, slot_in, value_of}
use Rattle.series_slots.specs.SeriesEntries.{SeriesEntries, slots_of}
use Rattle.series_slots.specs.Ranges.{IsRangeOf, some_series, series_in}
use Rattle.series_slots.proofs.HashLemmas.{strictly_of, flips_of}
use Rattle.series_slots.proofs.MoveLemmas.{IsIn-moved, IsIn-flat, flat-IsIn}
use Rattle.series_slots.proofs.PointLemmas.{series_cmp-IsAntisymmetric, get-points}
use Rattle.series_slots.proofs.SeriesLemmas.{series_move}

abbrev pub pairs_of : ℕ → ℕ → Slots → List (ℕ × ℤ)
pairs_of from to s = filter_map (valued_in from to) (entries s)

-- ---- the pairs of one series

-- what it says that a slot gives a pair
pub record GivesPair (from to : ℕ) (e : ℕ × Option ℤ) (p : ℕ × ℤ) : Type 0 where
  pub is : e ≡ (p.0, Some p.1)
  pub low : from ≤ p.0
  pub high : p.0 < to

gives_valued : (e : ℕ × Option ℤ) (p : ℕ × ℤ) → valued e ≡ Some p → e ≡ (p.0, Some p.1)
gives_valued (t, None) p e = cc
gives_valued (t, Some v) p e = let pair : ◌≡◌ {A = ℕ × ℤ} (t, v) p = cc in ap (λ (x : ℕ × ℤ). (x.0, Some x.1)) pair

gives_pair : (from to : ℕ) (e : ℕ × Option ℤ) (p : ℕ × ℤ) → valued_in from to e ≡ Some p → GivesPair from to e p
gives_pair from to e p h = by_test (nat_le from e.0 && nat_lt e.0 to) refl h
  where
    by_test : (b : Bool) → (nat_le from e.0 && nat_lt e.0 to) ≡ b → cond b (valued e) None ≡ Some p → GivesPair from to e p
    by_test false t f = cc
    by_test true t f =
        let times = both_true (nat_le from e.0) (nat_lt e.0 to) t in
        let is : e ≡ (p.0, Some p.1) = gives_valued e p f in
        let time : e.0 ≡ p.0 = ap (λ x. x.0) is in
        let low : from ≤ e.0 = leb-true from e.0 times.0 in
        let high : e.0 < to = ltb-true e.0 to times.1 in
        record { is = is; low = subst (λ n. from ≤ n) time low; high = subst (λ n. n < to) time high }

pair_given : (from to t : ℕ) (v : ℤ) → from ≤ t → t < to → valued_in from to (t, Some v) ≡ Some (t, v)
pair_given from to t v low high = ap (λ b. cond b (Some (t, v)) None) (both (le-leb from t low) (lt-ltb t to high))
  where
    both : {a b : Bool} → a ≡ true → b ≡ true → (a && b) ≡ true
    both p q = cc

settled_some : (o : Option (Option ℤ)) (v : ℤ) → settled o ≡ Some v → o ≡ Some (Some v)
settled_some None v e = cc
settled_some (Some slot) v e = ap Some e

-- each pair stands in the slots, in the range
pub pair_stands : (s : Slots) (from to : ℕ) (p : ℕ × ℤ) → IsIn (pairs_of from to s) p → (value_at s p.0 ≡ Some p.1) × (from ≤ p.0) × (p.0 < to)
pair_stands s from to p h =
    let found = IsIn-filter_map (valued_in from to) (entries s) p h in
    let gives = gives_pair from to found.0 p found.2 in
    (ap settled (IsIn-get nat_cmp nat_cmp_total nat_cmp-IsAntisymmetric s p.0 (Some p.1) (subst (IsIn (entries s)) gives.is found.1)), gives.low, gives.high)

-- each value of the slots in the range is in a pair
pub stands_pair : (s : Slots) (from to t : ℕ) (v : ℤ) → value_at s t ≡ Some v → from ≤ t → t < to → IsIn (pairs_of from to s) (t, v)
stands_pair s from to t v e low high =
    filter_map-IsIn (valued_in from to) (entries s) (t, Some v) (t, v)
    (get-IsIn nat_cmp nat_cmp_total nat_cmp-IsAntisymmetric s t (Some v) (settled_some (finite.get s t) v e)) (pair_given from to t v low high)

pair_below : (from to : ℕ) (e : ℕ × Option ℤ) (es : List (ℕ × Option ℤ)) (p q : ℕ × ℤ) → T (below_all nat_cmp e.0 es) → GivesPair from to e p
    → IsIn (filter_map (valued_in from to) es) q → p.0 < q.0
pair_below from to e es p q h is m =
    let found = IsIn-filter_map (valued_in from to) es q m in
    let later = gives_pair from to found.0 q found.2 in
    let below : nat_cmp e.0 found.0.0 ≡ Less = below_member nat_cmp nat_cmp_total nat_cmp-IsAntisymmetric e.0 found.0.0 found.0.1 es h found.1 in
    ranked p.0 q.0 Less (sym below ∙ ap (λ (x : ℕ × Option ℤ). nat_cmp x.0 found.0.0) is.is ∙ ap (λ (x : ℕ × Option ℤ). nat_cmp p.0 x.0) later.is)

ascends_from : (from to : ℕ) (e : ℕ × Option ℤ) (es : List (ℕ × Option ℤ)) (o : Option (ℕ × ℤ)) → valued_in from to e ≡ o → T (below_all nat_cmp e.0 es)
    → Ascends (λ a b. a.0 < b.0) (filter_map (valued_in from to) es) → Ascends (λ a b. a.0 < b.0) (cons_option o (filter_map (valued_in from to) es))
ascends_from from to e es None is h rest = rest
ascends_from from to e es (Some p) is h rest = ((λ q m. pair_below from to e es p q h (gives_pair from to e p is) m), rest)

pairs_ascend : (from to : ℕ) (es : List (ℕ × Option ℤ)) → T (is_sorted nat_cmp es) → Ascends (λ a b. a.0 < b.0) (filter_map (valued_in from to) es)
pairs_ascend from to [] h = tt
pairs_ascend from to (e ∷ es) h =
    let parts = both_hold (below_all nat_cmp e.0 es) (is_sorted nat_cmp es) h in
    ascends_from from to e es (valued_in from to e) refl parts.0 (pairs_ascend from to es parts.1)

-- ---- the series that stands for some pairs

-- what it says of a series that it stands for these pairs
pub record StandsFor (id : List ℕ) (ps : List (ℕ × ℤ)) (s : Series) : Type 0 where
  pub named : s.id ≡ id
  pub pairs : s.points ≡ ps
  pub some : 0 < length s.points

one_stands : (id : List ℕ) (ps : List (ℕ × ℤ)) (s : Series) → IsIn (some_series id ps) s → StandsFor id ps s
one_stands id [] s h = absurd h
one_stands id (p ∷ ps) s h =
    elim h as (λ _. StandsFor id (p ∷ ps) s) [
      | inl e ↦ record { named = ap (λ (x : Series). x.id) (sym e); pairs = ap (λ (x : Series). x.points) (sym e); some = subst (λ (x : Series). 0 < length x.points) e (omega arith) }
      | inr none ↦ absurd none
    ]

stands_one : (id : List ℕ) (ps : List (ℕ × ℤ)) (x : ℕ × ℤ) → IsIn ps x → IsIn (some_series id ps) (record { id = id; points = ps })
stands_one id [] x h = absurd h
stands_one id (p ∷ ps) x h = inl refl

abbrev points_by : ℕ → Series → List Point
points_by ns s = map (λ (x : ℕ × ℤ). record { ns = ns; id = s.id; t = x.0; v = x.1 }) s.points

-- a point of an answer is a pair of one of its series
pub point_in : (ns : ℕ) (series : List Series) (p : Point) → IsIn (points_in ns series) p → (s : Series) × IsIn series s × (p.ns ≡ ns) × (p.id ≡ s.id) × IsIn s.points (p.t, p.v)
point_in ns series p h =
    let found = IsIn-flat (points_by ns) series p h in
    let pair = IsIn-map (λ (x : ℕ × ℤ). record { ns = ns; id = found.0.id; t = x.0; v = x.1 }) found.0.points p found.2 in
    let is : record { ns = ns; id = found.0.id; t = pair.0.0; v = pair.0.1 } ≡ p = pair.2 in
    (found.0, found.1, ap (λ (q : Point). q.ns) (sym is), ap (λ (q : Point). q.id) (sym is), subst (λ (x : ℕ × ℤ). IsIn found.0.points x) (λ i. ((is i).t, (is i).v)) pair.1)

pub in_points : (ns : ℕ) (series : List Series) (s : Series) (p : Point) → IsIn series s → p.ns ≡ ns → p.id ≡ s.id → IsIn s.points (p.t, p.v) → IsIn (points_in ns series) p
in_points ns series s p h n i m =
    let here : IsIn (points_by ns s) (record { ns = ns; id = s.id; t = p.t; v = p.v }) = map-IsIn (λ (x : ℕ × ℤ). record { ns = ns; id = s.id; t = x.0; v = x.1 }) s.points (p.t, p.v) m in
    flat-IsIn (points_by ns) series s p h (subst (IsIn (points_by ns s)) (λ j. record { ns = sym n j; id = sym i j; t = p.t; v = p.v }) here)

-- ---- one series

-- the range of one series, where it has slots
pub one_range : (all : AllSlots) (ns : ℕ) (id : List ℕ) (from to : ℕ) (s : Slots) → finite.get all (record { ns = ns; id = id }) ≡ Some s
    → IsRangeOf (points_of all) (pick.One ns id) from to (some_series id (pairs_of from to s))
one_range all ns id from to s found = record {
  ordered = record {
    ids = one_ascends id (pairs_of from to s);
    times = λ x m. let is = one_stands id (pairs_of from to s) x m in subst (Ascends (λ a b. a.0 < b.0)) (sym is.pairs) (pairs_ascend from to (entries s) (entries_sorted s));
    none_empty = λ x m. (one_stands id (pairs_of from to s) x m).some;
  };
  nothing_else = λ p m.
      let at = point_in ns (some_series id (pairs_of from to s)) p m in
      let is = one_stands id (pairs_of from to s) at.0 at.1 in
      let named : p.id ≡ id = at.3 ∙ is.named in
      let pair = pair_stands s from to (p.t, p.v) (subst (λ ps. IsIn ps (p.t, p.v)) is.pairs at.4) in
      (get-points all (key_of p) ∙ ap (λ o. settled (slot_in o p.t)) (ap (finite.get all) (λ i. record { ns = at.2 i; id = named i }) ∙ found) ∙ pair.0, (at.2, named), (pair.1, pair.2));
  whole = λ p stands named range.
      let value : value_at s p.t ≡ Some p.v =
      sym (ap (λ o. settled (slot_in o p.t)) (ap (finite.get all) (λ i. record { ns = named.0 i; id = named.1 i }) ∙ found)) ∙ sym (get-points all (key_of p)) ∙ stands in
      let pair = stands_pair s from to p.t p.v value range.0 range.1 in
      in_points ns (some_series id (pairs_of from to s)) (record { id = id; points = pairs_of from to s }) p (stands_one id (pairs_of from to s) (p.t, p.v) pair) named.0 named.1 pair;
}
  where
    one_ascends : (id : List ℕ) (ps : List (ℕ × ℤ)) → Ascends (λ (a b : Series). IsBelow a.id b.id) (some_series id ps)
    one_ascends id [] = tt
    one_ascends id (p ∷ ps) = ((λ y m. absurd m), tt)

-- the range of a series without slots
pub no_range : (all : AllSlots) (ns : ℕ) (id : List ℕ) (from to : ℕ) → finite.get all (record { ns = ns; id = id }) ≡ None → IsRangeOf (points_of all) (pick.One ns id) from to []
no_range all ns id from to gone = record {
  ordered = record { ids = tt; times = λ x m. absurd m; none_empty = λ x m. absurd m };
  nothing_else = λ p m. absurd m;
  whole = λ p stands named range.
      let value : None ≡ Some p.v =
      sym (ap (λ o. settled (slot_in o p.t)) (ap (finite.get all) (λ i. record { ns = named.0 i; id = named.1 i }) ∙ gone)) ∙ sym (get-points all (key_of p)) ∙ stands in
      cc;
}

-- ---- the series of a namespace

-- what it says of a series that it is one of the answered
pub record IsAnswered (ns from to : ℕ) (es : List (SeriesKey × Slots)) (s : Series) : Type 0 where
  pub key : SeriesKey
  pub slots : Slots
  pub entry : IsIn es (key, slots)
  pub of_space : key.ns ≡ ns
  pub stands : StandsFor key.id (pairs_of from to slots) s

answered : (ns from to : ℕ) (e : SeriesKey × Slots) (s : Series) → IsIn (series_in ns from to e) s → (e.0.ns ≡ ns) × StandsFor e.0.id (pairs_of from to e.1) s
answered ns from to e s h = by_test (nat_eq e.0.ns ns) refl h
  where
    by_test : (b : Bool) → nat_eq e.0.ns ns ≡ b → IsIn (cond b (some_series e.0.id (pairs_of from to e.1)) []) s → (e.0.ns ≡ ns) × StandsFor e.0.id (pairs_of from to e.1) s
    by_test true t m = (eqb-true e.0.ns ns t, one_stands e.0.id (pairs_of from to e.1) s m)
    by_test false t m = absurd m

all_answered : (ns from to : ℕ) (es : List (SeriesKey × Slots)) (s : Series) → IsIn (flat_map (series_in ns from to) es) s → IsAnswered ns from to es s
all_answered ns from to es s h =
    let found = IsIn-flat (series_in ns from to) es s h in
    let is = answered ns from to found.0 s found.2 in
    record { key = found.0.0; slots = found.0.1; entry = found.1; of_space = is.0; stands = is.1 }

-- ---- in the order of identifiers

abbrev by_id : Series → Series → Ordering
by_id a b = slice_cmp nat_cmp a.id b.id

abbrev same_id : Series → Series → Bool
same_id a b = pointwise nat_eq a.id b.id

id_tie : (a b : Series) → eq_by_cmp by_id a b ≡ same_id a b
id_tie a b = sym (texts_ties a.id b.id)

by_id_total : IsTotalOrder by_id
by_id_total = on_total (λ (s : Series). s.id) nat_list_cmp_total

all_so : {X : Type 0} (P : X → Type 0) (xs : List X) → ((x : X) → IsIn xs x → P x) → AllByRecursion P xs
all_so P [] h = tt
all_so P (x ∷ xs) h = (h x (inl refl), all_so P xs (λ y m. h y (inr m)))

each_so : {X : Type 0} (P : X → Type 0) (xs : List X) → AllByRecursion P xs → (x : X) → IsIn xs x → P x
each_so P [] h x m = absurd m
each_so P (y ∷ xs) h x m = elim m as (λ _. P x) [ inl e ↦ subst P e h.0 | inr r ↦ each_so P xs h.1 x r ]

-- two series of one namespace that differ have other identifiers
other_id : (a b : SeriesKey) → nat_eq a.ns b.ns ≡ true → series_eq a b ≡ false → pointwise nat_eq a.id b.id ≡ false
other_id a b e h = sym (ap (λ c. c && pointwise nat_eq a.id b.id) e) ∙ h

first_differs : (ns from to : ℕ) (e : SeriesKey × Slots) (es : SeriesEntries) → AllByRecursion (λ k. series_eq e.0 k ≡ false) (keys_of es)
    → IsDistinct same_id (flat_map (series_in ns from to) es) → (b : Bool) → nat_eq e.0.ns ns ≡ b → (ps : List (ℕ × ℤ))
    → IsDistinct same_id (cond b (some_series e.0.id ps) [] ++ flat_map (series_in ns from to) es)
unfolding IsDistinct
first_differs ns from to e es differ rest false t ps = rest
first_differs ns from to e es differ rest true t [] = rest
first_differs ns from to e es differ rest true t (p ∷ ps) = (
  all_so (λ (s : Series). same_id (record { id = e.0.id; points = p ∷ ps }) s ≡ false) (flat_map (series_in ns from to) es) (λ s m.
      let is = all_answered ns from to es s m in
      let key : IsIn (keys_of es) is.key = map-IsIn (λ (x : SeriesKey × Slots). x.0) es (is.key, is.slots) is.entry in
      let space : nat_eq e.0.ns is.key.ns ≡ true = eq-eqb e.0.ns is.key.ns (eqb-true e.0.ns ns t ∙ sym is.of_space) in
      ap (pointwise nat_eq e.0.id) is.stands.named ∙ other_id e.0 is.key space (each_so (λ (k : SeriesKey). series_eq e.0 k ≡ false) (keys_of es) differ is.key key)),
  rest,
)

all_differ : (ns from to : ℕ) (es : SeriesEntries) → IsDistinct series_eq (keys_of es) → IsDistinct same_id (flat_map (series_in ns from to) es)
unfolding IsDistinct
all_differ ns from to [] h = tt
all_differ ns from to (e ∷ es) h = first_differs ns from to e es h.0 (all_differ ns from to es h.1) (nat_eq e.0.ns ns) refl (pairs_of from to e.1)

strictly_ascend : (series : List Series) → IsStrictlySortedBy by_id series → Ascends (λ (a b : Series). IsBelow a.id b.id) series
unfolding IsStrictlySortedBy
strictly_ascend [] h = tt
strictly_ascend (s ∷ series) h = ((λ y m. each_so (λ (z : Series). by_id s z ≡ Less) series h.0 y m), strictly_ascend series h.1)

-- series that all differ ascend once they are sorted
by_id_ascend : (found series : List Series) → IsDistinct same_id found → IsPermutation found series → IsSortedByKey (λ (s : Series). s.id) (slice_cmp nat_cmp) series
    → Ascends (λ (a b : Series). IsBelow a.id b.id) series
by_id_ascend found series differ moved sorted =
    strictly_ascend series (strictly_of by_id by_id_total same_id id_tie series sorted (IsDistinct-IsPermutation same_id (flips_of by_id by_id_total same_id id_tie) found series moved differ))

some_slots : (o : Option Slots) (t : ℕ) (v : ℤ) → settled (slot_in o t) ≡ Some v → (s : Slots) × (o ≡ Some s)
some_slots None t v e = cc
some_slots (Some s) t v e = (s, refl)

-- the range of a namespace
pub space_range : (es : SeriesEntries) (ns from to : ℕ) (wanted : _) (series : List Series) → IsDistinct series_eq (keys_of es) → IsPermutation (flat_map (series_in ns from to) es) series
    → IsSortedByKey (λ (s : Series). s.id) (slice_cmp nat_cmp) series → IsRangeOf (points_of (slots_of es)) (pick.Match ns wanted) from to series
space_range es ns from to wanted series distinct moved sorted =
    let all : AllSlots = slots_of es in
    let positions = series_move es distinct in
    let given : (s : Series) → IsIn series s → IsAnswered ns from to es s =
    λ s m. all_answered ns from to es s (IsIn-moved series (flat_map (series_in ns from to) es) (IsPermutation-sym (flat_map (series_in ns from to) es) series moved) s m) in
    record {
      ordered = record {
        ids = by_id_ascend (flat_map (series_in ns from to) es) series (all_differ ns from to es distinct) moved sorted;
        times = λ x m. let is = given x m in subst (Ascends (λ a b. a.0 < b.0)) (sym is.stands.pairs) (pairs_ascend from to (entries is.slots) (entries_sorted is.slots));
        none_empty = λ x m. (given x m).stands.some;
      };
      nothing_else = λ p m.
          let at = point_in ns series p m in
          let is = given at.0 at.1 in
          let entry : IsIn (entries all) (is.key, is.slots) = IsIn-moved es (entries all) positions (is.key, is.slots) is.entry in
          let found : finite.get all is.key ≡ Some is.slots = IsIn-get series_cmp series_cmp_total series_cmp-IsAntisymmetric all is.key is.slots entry in
          let same : series_of (key_of p) ≡ is.key = λ i. record { ns = (at.2 ∙ sym is.of_space) i; id = (at.3 ∙ is.stands.named) i } in
          let pair = pair_stands is.slots from to (p.t, p.v) (subst (λ ps. IsIn ps (p.t, p.v)) is.stands.pairs at.4) in
          (get-points all (key_of p) ∙ ap (λ o. settled (slot_in o p.t)) (ap (finite.get all) same ∙ found) ∙ pair.0, at.2, (pair.1, pair.2));
      whole = λ p stands named range.
          let value : value_of all (key_of p) ≡ Some p.v = sym (get-points all (key_of p)) ∙ stands in
          let slots = some_slots (finite.get all (series_of (key_of p))) p.t p.v value in
          let here : value_at slots.0 p.t ≡ Some p.v = sym (ap (λ o. settled (slot_in o p.t)) slots.1) ∙ value in
          let entry = IsIn-moved (entries all) es (IsPermutation-sym es (entries all) positions) (series_of (key_of p), slots.0)
          (get-IsIn series_cmp series_cmp_total series_cmp-IsAntisymmetric all (series_of (key_of p)) slots.0 slots.1) in
          let pair = stands_pair slots.0 from to p.t p.v here range.0 range.1 in
          let one : IsIn (series_in ns from to (series_of (key_of p), slots.0)) (record { id = p.id; points = pairs_of from to slots.0 }) =
          subst (λ b. IsIn (cond b (some_series p.id (pairs_of from to slots.0)) []) (record { id = p.id; points = pairs_of from to slots.0 })) (sym (eq-eqb p.ns ns named)) (stands_one p.id (pairs_of from to slots.0) (p.t, p.v) pair) in
          let found = IsIn-moved (flat_map (series_in ns from to) es) series moved (record { id = p.id; points = pairs_of from to slots.0 })
          (flat-IsIn (series_in ns from to) es (series_of (key_of p), slots.0) (record { id = p.id; points = pairs_of from to slots.0 }) entry one) in
          in_points ns series (record { id = p.id; points = pairs_of from to slots.0 }) p found named refl pair;
    }

-- a series of another namespace has none in the range
pub other_space : (ns from to : ℕ) (e : SeriesKey × Slots) → (e.0.ns ≡ ns → ⊥) → series_in ns from to e ≡ []
other_space ns from to e apart = by (nat_eq e.0.ns ns) refl
  where
    by : (b : Bool) → nat_eq e.0.ns ns ≡ b → cond b (some_series e.0.id (pairs_of from to e.1)) [] ≡ []
    by true is = absurd (apart (eqb-true e.0.ns ns is))
    by false is = refl

-- and one of the namespace its own
pub its_range : (ns from to : ℕ) (e : SeriesKey × Slots) → e.0.ns ≡ ns → series_in ns from to e ≡ some_series e.0.id (pairs_of from to e.1)
its_range ns from to e is = ap (λ b. cond b (some_series e.0.id (pairs_of from to e.1)) []) (eq-eqb e.0.ns ns is)
