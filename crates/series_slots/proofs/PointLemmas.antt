-- What the points of all series have at a key.
use Rattle.std.proofs.Common.{◌≡◌, ap₂, ℕ, ℤ, List, [], ◌∷◌, ◌++◌, refl, sym, ap, ◌∙◌, subst, Bool, true, false, cond, ◌&&◌, T}
use Rattle.std.specs.Prelude.{Option, Some, None, Result, Ok, Err, OnErr}
use Rattle.std.specs.List.{filter_map, flat_map}
use Rattle.std.specs.FinMap as map
use Rattle.std.specs.FinMap.{IsAntisymmetric, find, is_sorted, entries, entries_sorted, entries-from_sorted, get-entries, get-from_sorted, get-insert, same_map, slice_cmp-IsAntisymmetric, nat_cmp-IsAntisymmetric}
use Rattle.std.specs.FinMap.Entries.{below_all}
use Rattle.std.specs.Cmp.{tied_itself}
use Rattle.std.specs.Cmp.Lexicographic.{slice_cmp}
use Rattle.std.specs.Ordering.{nat_cmp, ordering_then, is_eq, is_lt, eq_by_cmp}
use Rattle.std.specs.declared.cmp.Ordering.{Ordering}
use Rattle.std.specs.declared.cmp.Ordering.TheVariants.{Less, Equal, Greater}
use Rattle.m3_model.specs.declared.point.Key.{Key}
use Rattle.m3_model.specs.Keys.{key_cmp, key_cmp_total}
use Rattle.m3_model.specs.Contents.{higher, raised_at}
use Rattle.m3_model.proofs.Keyed.{key_cmp-IsAntisymmetric, equal_of}
use Rattle.m3_model.proofs.FindLemmas.{both_hold}
use Rattle.series_slots.specs.declared.series_key.SeriesKey.{SeriesKey}
use Rattle.series_slots.specs.SeriesKeys.{series_cmp, series_cmp_total, series_of, key_at}
use Rattle.series_slots.specs.Slots.{Slots, settled}
use Rattle.series_slots.specs.Points.{AllSlots, keyed, series_points, points_of, slot_in, value_of}

both_equal : (a b : Ordering) → ordering_then a b ≡ Equal → (a ≡ Equal) × (b ≡ Equal)
both_equal Less b e = cc
both_equal Equal b e = (refl, e)
both_equal Greater b e = cc

pub series_cmp-IsAntisymmetric : IsAntisymmetric series_cmp
series_cmp-IsAntisymmetric x y e =
    let parts = both_equal (nat_cmp x.ns y.ns) (slice_cmp nat_cmp x.id y.id) e in
    λ i. record { ns = nat_cmp-IsAntisymmetric x.ns y.ns parts.0 i; id = slice_cmp-IsAntisymmetric nat_cmp-IsAntisymmetric x.id y.id parts.1 i }

then-then : (a b c : Ordering) → ordering_then a (ordering_then b c) ≡ ordering_then (ordering_then a b) c
then-then Less b c = refl
then-then Equal b c = refl
then-then Greater b c = refl

-- keys stand by series, and then by time
pub key_order : (x y : Key) → key_cmp x y ≡ ordering_then (series_cmp (series_of x) (series_of y)) (nat_cmp x.t y.t)
key_order x y = then-then (nat_cmp x.ns y.ns) (slice_cmp nat_cmp x.id y.id) (nat_cmp x.t y.t)

pub equal-then : (a b : Ordering) → is_eq (ordering_then a b) ≡ (is_eq a && is_eq b)
equal-then Less b = refl
equal-then Equal b = refl
equal-then Greater b = refl

-- two keys tie where their series and their times do
pub key_ties : (x y : Key) → eq_by_cmp key_cmp x y ≡ (eq_by_cmp series_cmp (series_of x) (series_of y) && eq_by_cmp nat_cmp x.t y.t)
key_ties x y = ap is_eq (key_order x y) ∙ equal-then (series_cmp (series_of x) (series_of y)) (nat_cmp x.t y.t)

both : (a b : Bool) → T a → T b → T (a && b)
both true b p q = q
both false b p q = absurd p

less_of : (o : Ordering) → T (is_lt o) → o ≡ Less
less_of Less h = refl
less_of Equal h = absurd h
less_of Greater h = absurd h

module _ {K X : Type 0} (R : K → K → Ordering) where
  below-append : (k : K) (xs ys : List (K × X)) → T (below_all R k xs) → T (below_all R k ys) → T (below_all R k (xs ++ ys))
  below-append k [] ys h g = g
  below-append k (x ∷ xs) ys h g =
      let parts = both_hold (is_lt (R k x.0)) (below_all R k xs) h in
      both (is_lt (R k x.0)) _ parts.0 (below-append k xs ys parts.1 g)

  or_else : Option X → Option X → Option X
  or_else None o = o
  or_else (Some x) o = Some x

  find-append : (q : K) (xs ys : List (K × X)) → find R q (xs ++ ys) ≡ or_else (find R q xs) (find R q ys)
  unfolding or_else
  find-append q [] ys = refl
  find-append q (x ∷ xs) ys = first (eq_by_cmp R q x.0) x.1 _ _ _ (find-append q xs ys)
    where
      first : (b : Bool) (v : X) (all front back : Option X) → all ≡ or_else front back → cond b (Some v) all ≡ or_else (cond b (Some v) front) back
      first true v all front back e = refl
      first false v all front back e = e

  find_below : (q : K) (es : List (K × X)) → T (below_all R q es) → find R q es ≡ None
  find_below q [] h = refl
  find_below q (e ∷ es) h =
      let parts = both_hold (is_lt (R q e.0)) (below_all R q es) h in
      ap (λ o. cond (is_eq o) (Some e.1) (find R q es)) (less_of (R q e.0) parts.0) ∙ find_below q es parts.1

-- ---- in order

less-then : (a b : Ordering) → a ≡ Less → T (is_lt (ordering_then a b))
less-then a b e = subst (λ o. T (is_lt (ordering_then o b))) (sym e) tt

-- a key is below the points of a later series
below_series : (k : Key) (s : SeriesKey) (xs : List (ℕ × Option ℤ)) → series_cmp (series_of k) s ≡ Less → T (below_all key_cmp k (filter_map (keyed s) xs))
below_series k s [] e = tt
below_series k s ((t, None) ∷ xs) e = below_series k s xs e
below_series k s ((t, Some v) ∷ xs) e =
    both _ _ (subst (λ o. T (is_lt o)) (sym (key_order k (key_at s t))) (less-then _ (nat_cmp k.t t) e)) (below_series k s xs e)

below_flat : (k : Key) (es : List (SeriesKey × Slots)) → T (below_all series_cmp (series_of k) es) → T (below_all key_cmp k (flat_map series_points es))
below_flat k [] h = tt
below_flat k (e ∷ es) h =
    let parts = both_hold (is_lt (series_cmp (series_of k) e.0)) (below_all series_cmp (series_of k) es) h in
    below-append key_cmp k (series_points e) (flat_map series_points es) (below_series k e.0 (entries e.1) (less_of _ parts.0)) (below_flat k es parts.1)

same_series : (s : SeriesKey) (t u : ℕ) → key_cmp (key_at s t) (key_at s u) ≡ nat_cmp t u
same_series s t u = key_order (key_at s t) (key_at s u) ∙ ap (λ o. ordering_then o (nat_cmp t u)) (tied_itself series_cmp_total s)

below_times : (s : SeriesKey) (t : ℕ) (xs : List (ℕ × Option ℤ)) → T (below_all nat_cmp t xs) → T (below_all key_cmp (key_at s t) (filter_map (keyed s) xs))
below_times s t [] h = tt
below_times s t ((u, None) ∷ xs) h = below_times s t xs (both_hold (is_lt (nat_cmp t u)) (below_all nat_cmp t xs) h).1
below_times s t ((u, Some v) ∷ xs) h =
    let parts = both_hold (is_lt (nat_cmp t u)) (below_all nat_cmp t xs) h in
    both _ _ (subst (λ o. T (is_lt o)) (sym (same_series s t u)) parts.0) (below_times s t xs parts.1)

-- the points of a series, and then those of later ones
sorted_flat_from : (s : SeriesKey) (xs : List (ℕ × Option ℤ)) (es : List (SeriesKey × Slots)) → T (is_sorted nat_cmp xs) → T (below_all series_cmp s es)
    → T (is_sorted key_cmp (flat_map series_points es)) → T (is_sorted key_cmp (filter_map (keyed s) xs ++ flat_map series_points es))
sorted_flat_from s [] es h b rest = rest
sorted_flat_from s ((t, None) ∷ xs) es h b rest = sorted_flat_from s xs es (both_hold (below_all nat_cmp t xs) (is_sorted nat_cmp xs) h).1 b rest
sorted_flat_from s ((t, Some v) ∷ xs) es h b rest =
    let parts = both_hold (below_all nat_cmp t xs) (is_sorted nat_cmp xs) h in
    both _ _ (below-append key_cmp (key_at s t) (filter_map (keyed s) xs) (flat_map series_points es) (below_times s t xs parts.0) (below_flat (key_at s t) es b)) (sorted_flat_from s xs es parts.1 b rest)

sorted_flat : (es : List (SeriesKey × Slots)) → T (is_sorted series_cmp es) → T (is_sorted key_cmp (flat_map series_points es))
sorted_flat [] h = tt
sorted_flat (e ∷ es) h =
    let parts = both_hold (below_all series_cmp e.0 es) (is_sorted series_cmp es) h in
    sorted_flat_from e.0 (entries e.1) es (entries_sorted e.1) parts.0 (sorted_flat es parts.1)

-- the entries of all points
pub entries-points : (all : AllSlots) → entries (points_of all) ≡ flat_map series_points (entries all)
entries-points all = entries-from_sorted key_cmp _ (sorted_flat (entries all) (entries_sorted all))

-- ---- at a key

find_other : (k : Key) (s : SeriesKey) (xs : List (ℕ × Option ℤ)) → eq_by_cmp series_cmp (series_of k) s ≡ false → find key_cmp k (filter_map (keyed s) xs) ≡ None
find_other k s [] e = refl
find_other k s ((t, None) ∷ xs) e = find_other k s xs e
find_other k s ((t, Some v) ∷ xs) e =
    ap (λ b. cond b (Some v) (find key_cmp k (filter_map (keyed s) xs))) (key_ties k (key_at s t) ∙ ap (λ b. b && eq_by_cmp nat_cmp k.t t) e) ∙ find_other k s xs e

settled-cond : (b : Bool) (v : ℤ) (o : Option (Option ℤ)) (p : Option ℤ) → p ≡ settled o → cond b (Some v) p ≡ settled (cond b (Some (Some v)) o)
settled-cond true v o p e = refl
settled-cond false v o p e = e

settled-none : (b : Bool) (o : Option (Option ℤ)) → (b ≡ true → o ≡ None) → settled o ≡ settled (cond b (Some None) o)
settled-none true o h = ap settled (h refl)
settled-none false o h = refl

below_tied : (q t : ℕ) (xs : List (ℕ × Option ℤ)) → eq_by_cmp nat_cmp q t ≡ true → T (below_all nat_cmp t xs) → find nat_cmp q xs ≡ None
below_tied q t xs e h = find_below nat_cmp q xs (subst (λ u. T (below_all nat_cmp u xs)) (sym (nat_cmp-IsAntisymmetric q t (equal_of _ e))) h)

find_same : (k : Key) (s : SeriesKey) (xs : List (ℕ × Option ℤ)) → T (is_sorted nat_cmp xs) → eq_by_cmp series_cmp (series_of k) s ≡ true
    → find key_cmp k (filter_map (keyed s) xs) ≡ settled (find nat_cmp k.t xs)
find_same k s [] h e = refl
find_same k s ((t, None) ∷ xs) h e =
    let parts = both_hold (below_all nat_cmp t xs) (is_sorted nat_cmp xs) h in
    find_same k s xs parts.1 e ∙ settled-none (eq_by_cmp nat_cmp k.t t) (find nat_cmp k.t xs) (λ tie. below_tied k.t t xs tie parts.0)
find_same k s ((t, Some v) ∷ xs) h e =
    let parts = both_hold (below_all nat_cmp t xs) (is_sorted nat_cmp xs) h in
    ap (λ b. cond b (Some v) (find key_cmp k (filter_map (keyed s) xs))) (key_ties k (key_at s t) ∙ ap (λ b. b && eq_by_cmp nat_cmp k.t t) e)
    ∙ settled-cond (eq_by_cmp nat_cmp k.t t) v (find nat_cmp k.t xs) _ (find_same k s xs parts.1 e)

or_else-none : (o : Option ℤ) → or_else {K = Key} key_cmp o None ≡ o
unfolding or_else
or_else-none None = refl
or_else-none (Some v) = refl

module _ (k : Key) where
  find_flat : (es : List (SeriesKey × Slots)) → T (is_sorted series_cmp es) → find key_cmp k (flat_map series_points es) ≡ settled (slot_in (find series_cmp (series_of k) es) k.t)
  unfolding or_else
  find_flat [] h = refl
  find_flat (e ∷ es) h =
      let parts = both_hold (below_all series_cmp e.0 es) (is_sorted series_cmp es) h in
      find-append key_cmp k (series_points e) (flat_map series_points es) ∙ by_test e es parts.0 (find_flat es parts.1) (eq_by_cmp series_cmp (series_of k) e.0) refl
    where
      by_test : (e : SeriesKey × Slots) (es : List (SeriesKey × Slots)) → T (below_all series_cmp e.0 es) → find key_cmp k (flat_map series_points es) ≡ settled (slot_in (find series_cmp (series_of k) es) k.t)
          → (b : Bool) → eq_by_cmp series_cmp (series_of k) e.0 ≡ b
          → or_else key_cmp (find key_cmp k (series_points e)) (find key_cmp k (flat_map series_points es)) ≡ settled (slot_in (cond b (Some e.1) (find series_cmp (series_of k) es)) k.t)
      by_test e es below later true is =
          let same : series_of k ≡ e.0 = series_cmp-IsAntisymmetric (series_of k) e.0 (equal_of _ is) in
          let none : find series_cmp (series_of k) es ≡ None = find_below series_cmp (series_of k) es (subst (λ s. T (below_all series_cmp s es)) (sym same) below) in
          ap (λ o. or_else key_cmp (find key_cmp k (series_points e)) o) (later ∙ ap (λ o. settled (slot_in o k.t)) none)
          ∙ or_else-none (find key_cmp k (series_points e))
          ∙ find_same k e.0 (entries e.1) (entries_sorted e.1) is ∙ ap settled (sym (get-entries e.1 k.t))
      by_test e es below later false is =
          ap (λ o. or_else key_cmp o (find key_cmp k (flat_map series_points es))) (find_other k e.0 (entries e.1) is) ∙ later

-- what the points have at a key
pub get-points : (all : AllSlots) (k : Key) → map.get (points_of all) k ≡ value_of all k
get-points all k =
    get-from_sorted key_cmp _ k (sorted_flat (entries all) (entries_sorted all)) ∙ find_flat k (entries all) (entries_sorted all)
    ∙ ap (λ o. settled (slot_in o k.t)) (sym (get-entries all (series_of k)))

-- where no value changes, no point does
pub same_points : (m n : AllSlots) → ((k : Key) → value_of m k ≡ value_of n k) → points_of m ≡ points_of n
same_points m n h = same_map key_cmp_total key_cmp-IsAntisymmetric _ _ (λ k. get-points m k ∙ h k ∙ sym (get-points n k))

pub points-empty : points_of map.empty ≡ map.empty
points-empty =
    same_map key_cmp_total key_cmp-IsAntisymmetric _ _
    (λ k. get-points map.empty k ∙ ap (λ o. settled (slot_in o k.t)) (map.get-empty series_cmp (series_of k)) ∙ sym (map.get-empty key_cmp k))

-- where a value was put at one key, the points took it
pub put_points : (m n : AllSlots) (k : Key) (v : ℤ) → ((q : Key) → value_of n q ≡ cond (eq_by_cmp key_cmp q k) (Some (higher (value_of m k) v)) (value_of m q)) → points_of n ≡ raised_at (points_of m) k v
put_points m n k v at =
    same_map key_cmp_total key_cmp-IsAntisymmetric _ _
    (λ q. get-points n q ∙ at q ∙ ap₂ (λ (a b : Option ℤ). cond (eq_by_cmp key_cmp q k) (Some (higher a v)) b) (sym (get-points m k)) (sym (get-points m q))
    ∙ sym (get-insert key_cmp_total (points_of m) k (higher (map.get (points_of m) k) v) q))

pub always_err : {X Y : Type 0} {P : Type 0} (r : Result X Y) → P → OnErr r P
always_err (Ok x) p = tt
always_err (Err y) p = p

pub inside_some : {X : Type 0} (x y : X) → Some x ≡ Some y → x ≡ y
inside_some x y e = cc
