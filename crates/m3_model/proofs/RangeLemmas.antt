-- What a range of a content has, by the content's value at each key.
use Rattle.std.proofs.Common.{◌≡◌, ℕ, ◌<◌, ◌≤◌, ℤ, List, [], ◌∷◌, map, refl, sym, ap, ◌∙◌, subst, Bool, true, false, cond, not, ◌&&◌, T, arith}
use Rattle.std.specs.Prelude.{Option, Some, None, nat_eq, nat_le, nat_lt}
use Rattle.std.specs.List.{filter_map, cons_option}
use Rattle.std.specs.FinMap as finite
use Rattle.std.specs.FinMap.{is_sorted, entries, entries_sorted}
use Rattle.std.specs.FinMap.Entries.{below_all}
use Rattle.std.specs.Ordering.{is_eq, is_le, ordering_then, nat_cmp}
use Rattle.std.specs.Cmp.{tied_itself, nat_cmp_is}
use Rattle.std.specs.BTreeMap.Range.{range_contains, entries_between}
use Rattle.std.specs.declared.ops.Bound.TheVariants.{Included, Excluded}
use Rattle.std.proofs.lemmas.Map.Text.{is_eq-slice_cmp}
use Rattle.std.specs.Cmp.Lexicographic.{pointwise, slice_cmp, nat_list_cmp_total}
use Rattle.std.specs.declared.cmp.Ordering.{Ordering}
use Rattle.std.specs.declared.cmp.Ordering.TheVariants.{Less, Equal, Greater}
use Rattle.std.proofs.lemmas.Cmp.{nat_cmp_total, ranked}
use Rattle.std.proofs.lemmas.Bool.{eqb-true, eq-eqb, leb-true, le-leb, ltb-true, lt-ltb, and_parts}
use Rattle.std.proofs.lemmas.Bool.Decides.{nat_tests}
use Rattle.std.proofs.lemmas.Slice.Eq.{bytes_eq-Decides}
pub use Rattle.std.proofs.lemmas.Bool.{and_parts as both_true}
use Rattle.m3_model.specs.declared.point.Key.{Key}
use Rattle.m3_model.specs.Keys.{key_cmp, key_cmp_total}
use Rattle.m3_model.specs.Contents.{Contents, timed, pair_in, range_of}
use Rattle.m3_model.specs.Members.{IsIn}
use Rattle.m3_model.specs.Ascends.{Ascends}
use Rattle.m3_model.proofs.Keyed.{key_cmp-IsAntisymmetric}
use Rattle.m3_model.proofs.FindLemmas.{both_hold, below_member, get-IsIn, IsIn-get}
use Rattle.m3_model.proofs.MemberLemmas.{IsIn-filter_map, filter_map-IsIn}
use Rattle.m3_model.proofs.Orders.{is_eq-nat_cmp}

-- what it says that an entry is in a range
pub record IsPairIn (ns : ℕ) (id : List ℕ) (from to : ℕ) (e : Key × ℤ) (p : ℕ × ℤ) : Type 0 where
  pub key : e.0 ≡ record { ns = ns; id = id; t = p.0 }
  pub value : e.1 ≡ p.1
  pub low : from ≤ p.0
  pub high : p.0 < to

pub pair_in-some : (ns : ℕ) (id : List ℕ) (from to : ℕ) (e : Key × ℤ) (p : ℕ × ℤ) → pair_in ns id from to e ≡ Some p → IsPairIn ns id from to e p
pair_in-some ns id from to e p h = by_test ((nat_eq ns e.0.ns && pointwise nat_eq id e.0.id) && (nat_le from e.0.t && nat_lt e.0.t to)) refl h
  where
    by_test : (b : Bool) → ((nat_eq ns e.0.ns && pointwise nat_eq id e.0.id) && (nat_le from e.0.t && nat_lt e.0.t to)) ≡ b → cond b (Some (e.0.t, e.1)) None ≡ Some p → IsPairIn ns id from to e p
    by_test false t f = cc
    by_test true t f =
        let outer = and_parts (nat_eq ns e.0.ns && pointwise nat_eq id e.0.id) (nat_le from e.0.t && nat_lt e.0.t to) t in
        let names = and_parts (nat_eq ns e.0.ns) (pointwise nat_eq id e.0.id) outer.0 in
        let times = and_parts (nat_le from e.0.t) (nat_lt e.0.t to) outer.1 in
        let same_ns : e.0.ns ≡ ns = sym (eqb-true ns e.0.ns names.0) in
        let same_id : e.0.id ≡ id = sym ((bytes_eq-Decides id e.0.id).0 names.1) in
        let pair : ◌≡◌ {A = ℕ × ℤ} (e.0.t, e.1) p = cc in
        let time : e.0.t ≡ p.0 = ap (λ x. x.0) pair in
        let low : from ≤ e.0.t = leb-true from e.0.t times.0 in
        let high : e.0.t < to = ltb-true e.0.t to times.1 in
        record {
          key = λ i. record { ns = same_ns i; id = same_id i; t = time i };
          value = ap (λ x. x.1) pair;
          low = subst (λ n. from ≤ n) time low;
          high = subst (λ n. n < to) time high;
        }

pub pair_in-here : (ns : ℕ) (id : List ℕ) (from to t : ℕ) (v : ℤ) → from ≤ t → t < to → pair_in ns id from to (record { ns = ns; id = id; t = t }, v) ≡ Some (t, v)
pair_in-here ns id from to t v low high =
    ap (λ b. cond b (Some (t, v)) None) (all_true (eq-eqb ns ns refl) ((bytes_eq-Decides id id).1 refl) (le-leb from t low) (lt-ltb t to high))
  where
    all_true : {a b c d : Bool} → a ≡ true → b ≡ true → c ≡ true → d ≡ true → ((a && b) && (c && d)) ≡ true
    all_true p q r s = cc

-- each pair of a range stands in the content
pub range_stands : (c : Contents) (ns : ℕ) (id : List ℕ) (from to : ℕ) (p : ℕ × ℤ) → IsIn (range_of c ns id from to) p
    → (finite.get c (record { ns = ns; id = id; t = p.0 }) ≡ Some p.1) × (from ≤ p.0) × (p.0 < to)
range_stands c ns id from to p h =
    let found = IsIn-filter_map (pair_in ns id from to) (entries c) p h in
    let pair = pair_in-some ns id from to found.0 p found.2 in
    let entry : found.0 ≡ (record { ns = ns; id = id; t = p.0 }, p.1) = λ i. (pair.key i, pair.value i) in
    (IsIn-get key_cmp key_cmp_total key_cmp-IsAntisymmetric c _ p.1 (subst (IsIn (entries c)) entry found.1), pair.low, pair.high)

-- each entry of the identifier in the range is one of its pairs
pub stands_in_range : (c : Contents) (ns : ℕ) (id : List ℕ) (from to t : ℕ) (v : ℤ) → finite.get c (record { ns = ns; id = id; t = t }) ≡ Some v → from ≤ t → t < to
    → IsIn (range_of c ns id from to) (t, v)
stands_in_range c ns id from to t v e low high =
    filter_map-IsIn (pair_in ns id from to) (entries c) _ (t, v) (get-IsIn key_cmp key_cmp_total key_cmp-IsAntisymmetric c _ v e) (pair_in-here ns id from to t v low high)

-- of two keys of one identifier the lower one has the lower time
time_below : (ns : ℕ) (id : List ℕ) (t u : ℕ) → key_cmp (record { ns = ns; id = id; t = t }) (record { ns = ns; id = id; t = u }) ≡ Less → t < u
time_below ns id t u e =
    let same_ns : nat_cmp ns ns ≡ Equal = tied_itself nat_cmp_total ns in
    let same_id : slice_cmp nat_cmp id id ≡ Equal = tied_itself nat_list_cmp_total id in
    let times : ordering_then (nat_cmp ns ns) (ordering_then (slice_cmp nat_cmp id id) (nat_cmp t u)) ≡ nat_cmp t u =
    ap (λ o. ordering_then o (ordering_then (slice_cmp nat_cmp id id) (nat_cmp t u))) same_ns ∙ ap (λ o. ordering_then o (nat_cmp t u)) same_id in
    ranked t u Less (sym e ∙ times)

pair_below : (ns : ℕ) (id : List ℕ) (from to : ℕ) (e : Key × ℤ) (es : List (Key × ℤ)) (p q : ℕ × ℤ) → T (below_all key_cmp e.0 es) → IsPairIn ns id from to e p
    → IsIn (filter_map (pair_in ns id from to) es) q → p.0 < q.0
pair_below ns id from to e es p q h is m =
    let found = IsIn-filter_map (pair_in ns id from to) es q m in
    let later = pair_in-some ns id from to found.0 q found.2 in
    let below : key_cmp e.0 found.0.0 ≡ Less = below_member key_cmp key_cmp_total key_cmp-IsAntisymmetric e.0 found.0.0 found.0.1 es h found.1 in
    time_below ns id p.0 q.0 (ap (λ k. key_cmp k (record { ns = ns; id = id; t = q.0 })) (sym is.key) ∙ ap (key_cmp e.0) (sym later.key) ∙ below)

ascends_from : (ns : ℕ) (id : List ℕ) (from to : ℕ) (e : Key × ℤ) (es : List (Key × ℤ)) (o : Option (ℕ × ℤ)) → pair_in ns id from to e ≡ o → T (below_all key_cmp e.0 es)
    → Ascends (λ a b. a.0 < b.0) (filter_map (pair_in ns id from to) es) → Ascends (λ a b. a.0 < b.0) (cons_option o (filter_map (pair_in ns id from to) es))
ascends_from ns id from to e es None is h rest = rest
ascends_from ns id from to e es (Some p) is h rest = ((λ q m. pair_below ns id from to e es p q h (pair_in-some ns id from to e p is) m), rest)

pairs_ascend : (ns : ℕ) (id : List ℕ) (from to : ℕ) (es : List (Key × ℤ)) → T (is_sorted key_cmp es) → Ascends (λ a b. a.0 < b.0) (filter_map (pair_in ns id from to) es)
pairs_ascend ns id from to [] h = tt
pairs_ascend ns id from to (e ∷ es) h =
    let parts = both_hold (below_all key_cmp e.0 es) (is_sorted key_cmp es) h in
    ascends_from ns id from to e es (pair_in ns id from to e) refl parts.0 (pairs_ascend ns id from to es parts.1)

-- the times of a range strictly ascend
pub range_ascends : (c : Contents) (ns : ℕ) (id : List ℕ) (from to : ℕ) → Ascends (λ a b. a.0 < b.0) (range_of c ns id from to)
range_ascends c ns id from to = pairs_ascend ns id from to (entries c) (entries_sorted c)

-- two tests of orderings that begin with the same two
between_both : (a b low high : Ordering) → (is_le (ordering_then a (ordering_then b low)) && not (is_le (ordering_then a (ordering_then b high)))) ≡ ((is_eq a && is_eq b) && (is_le low && not (is_le high)))
between_both Less b low high = refl
between_both Equal Less low high = refl
between_both Equal Equal low high = refl
between_both Equal Greater low high = refl
between_both Greater b low high = refl

is_le-nat_cmp : (a b : ℕ) → is_le (nat_cmp a b) ≡ nat_le a b
is_le-nat_cmp a b = grind (arith, nat_tests)

above-nat_cmp : (a b : ℕ) → not (is_le (nat_cmp a b)) ≡ nat_lt b a
above-nat_cmp a b = grind (arith, nat_tests)

-- the keys of an identifier stand by time
pub key_cmp-times : (ns : ℕ) (id : List ℕ) (t u : ℕ) → t < u → key_cmp (record { ns = ns; id = id; t = t }) (record { ns = ns; id = id; t = u }) ≡ Less
key_cmp-times ns id t u h =
    let same_ns : nat_cmp ns ns ≡ Equal = tied_itself nat_cmp_total ns in
    let same_id : slice_cmp nat_cmp id id ≡ Equal = tied_itself nat_list_cmp_total id in
    ap (λ o. ordering_then o (ordering_then (slice_cmp nat_cmp id id) (nat_cmp t u))) same_ns ∙ ap (λ o. ordering_then o (nat_cmp t u)) same_id
    ∙ sym (nat_cmp_is t u Less h)

between_keys : (ns : ℕ) (id : List ℕ) (from to : ℕ) (k : Key)
    → range_contains key_cmp (Included (record { ns = ns; id = id; t = from })) (Excluded (record { ns = ns; id = id; t = to })) k
    ≡ ((nat_eq ns k.ns && pointwise nat_eq id k.id) && (nat_le from k.t && nat_lt k.t to))
between_keys ns id from to k =
    let both = between_both (nat_cmp ns k.ns) (slice_cmp nat_cmp id k.id) (nat_cmp from k.t) (nat_cmp to k.t) in
    let a = is_eq-nat_cmp ns k.ns in
    let b = is_eq-slice_cmp id k.id in
    let c = is_le-nat_cmp from k.t in
    let d = above-nat_cmp to k.t in
    cc

-- a filter that keeps and changes is a filter, and then a change
cons_kept : {X Y : Type 0} (b : Bool) (f : X → Y) (x : X) (xs : List X) (ys : List Y) → map f xs ≡ ys → map f (cond b (x ∷ xs) xs) ≡ cons_option (cond b (Some (f x)) None) ys
cons_kept true f x xs ys e = ap (λ zs. f x ∷ zs) e
cons_kept false f x xs ys e = e

-- what stands between two keys of an identifier is what is in the range
pub entries_between-pairs : (ns : ℕ) (id : List ℕ) (from to : ℕ) (es : List (Key × ℤ))
    → map timed (entries_between key_cmp (Included (record { ns = ns; id = id; t = from })) (Excluded (record { ns = ns; id = id; t = to })) es) ≡ filter_map (pair_in ns id from to) es
entries_between-pairs ns id from to [] = refl
entries_between-pairs ns id from to (e ∷ es) =
    cons_kept (range_contains key_cmp (Included (record { ns = ns; id = id; t = from })) (Excluded (record { ns = ns; id = id; t = to })) e.0) timed e _ _ (entries_between-pairs ns id from to es)
    ∙ ap (λ b. cons_option (cond b (Some (timed e)) None) (filter_map (pair_in ns id from to) es)) (between_keys ns id from to e.0)

none_in : (ns : ℕ) (id : List ℕ) (from to : ℕ) (e : Key × ℤ) → to ≤ from → (o : Option (ℕ × ℤ)) → pair_in ns id from to e ≡ o → o ≡ None
none_in ns id from to e h None is = refl
none_in ns id from to e h (Some p) is = let found = pair_in-some ns id from to e p is in absurd (let low = found.low in let high = found.high in omega arith)

-- a range that ends where it begins, or earlier, has nothing
pub range-empty : (ns : ℕ) (id : List ℕ) (from to : ℕ) (es : List (Key × ℤ)) → to ≤ from → filter_map (pair_in ns id from to) es ≡ []
range-empty ns id from to [] h = refl
range-empty ns id from to (e ∷ es) h =
    ap (λ o. cons_option o (filter_map (pair_in ns id from to) es)) (none_in ns id from to e h (pair_in ns id from to e) refl) ∙ range-empty ns id from to es h
