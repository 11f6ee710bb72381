-- The entries of an ordered map of std as a finite map.
use Rattle.std.proofs.Common.{◌≡◌, List, [], ◌∷◌, refl, sym, ap, ◌∙◌, Bool, true, cond, ◌&&◌, T}
use Rattle.std.specs.Prelude.{Some, None}
use Rattle.std.specs.FinMap as map
use Rattle.std.specs.FinMap.{find, is_sorted, from_sorted, get-from_sorted, get-insert, get-remove, IsAntisymmetric, same_map}
use Rattle.std.specs.FinMap.Entries.{below_all}
use Rattle.std.specs.Map.{keys_of, lookup}
use Rattle.std.specs.BTreeMap.{is_at}
use Rattle.std.specs.Cmp.{IsTotalOrder, eq_by_cmp_equiv}
use Rattle.std.specs.List.{AllByRecursion}
use Rattle.std.specs.List.Sorted.{IsStrictlySortedBy}
use Rattle.std.specs.Ordering.{is_lt, eq_by_cmp}
use Rattle.std.specs.declared.cmp.Ordering.{Ordering}
use Rattle.std.specs.declared.cmp.Ordering.TheVariants.{Less, Equal}
use Rattle.replica_exchange.proofs.m3_model_proofs.Keyed.{holds_of}

module _ {K X : Type 0} (R : K → K → Ordering) where
  below_of : (x : K) (es : List (K × X)) → AllByRecursion (λ y. R x y ≡ Less) (keys_of es) → below_all R x es ≡ true
  below_of x [] h = refl
  below_of x (e ∷ es) h = ap (λ o. is_lt o && below_all R x es) h.0 ∙ below_of x es h.1

  -- entries in std's order are in order
  pub sorted_of : (es : List (K × X)) → IsStrictlySortedBy R (keys_of es) → is_sorted R es ≡ true
  unfolding IsStrictlySortedBy
  sorted_of [] h = refl
  sorted_of (e ∷ es) h = ap (λ b. b && is_sorted R es) (below_of e.0 es h.0) ∙ sorted_of es h.1

  pub find-lookup : (q : K) (es : List (K × X)) → find R q es ≡ lookup (is_at (R q)) es
  find-lookup q [] = refl
  find-lookup q (e ∷ es) = ap (λ o. cond (eq_by_cmp R q e.0) (Some e.1) o) (find-lookup q es)

  -- what the map of entries in order has at a key
  pub get_of : (es : List (K × X)) (q : K) → is_sorted R es ≡ true → map.get (from_sorted {R = R} es) q ≡ lookup (is_at (R q)) es
  get_of es q h = get-from_sorted R es q (holds_of _ h) ∙ find-lookup q es

  module _ (total : IsTotalOrder R) (anti : IsAntisymmetric R) where
    -- the map of entries of which one took a value
    pub inserted : (es ns : List (K × X)) (k : K) (v : X) → is_sorted R es ≡ true → is_sorted R ns ≡ true
        → ((q : K) → lookup (is_at (R q)) ns ≡ cond (is_at (R k) q) (Some v) (lookup (is_at (R q)) es)) → from_sorted {R = R} ns ≡ map.insert (from_sorted {R = R} es) k v
    inserted es ns k v was is at =
        same_map total anti _ _ (λ q. get_of ns q is ∙ at q ∙ ap (λ o. cond (is_at (R k) q) (Some v) o) (sym (get_of es q was))
        ∙ ap (λ b. cond b (Some v) (map.get (from_sorted {R = R} es) q)) ((eq_by_cmp_equiv total).symm k q) ∙ sym (get-insert total (from_sorted {R = R} es) k v q))

    -- the map of entries of which one left
    pub removed : (es ns : List (K × X)) (k : K) → is_sorted R es ≡ true → is_sorted R ns ≡ true
        → ((q : K) → lookup (is_at (R q)) ns ≡ cond (is_at (R k) q) None (lookup (is_at (R q)) es)) → from_sorted {R = R} ns ≡ map.remove (from_sorted {R = R} es) k
    removed es ns k was is at =
        same_map total anti _ _ (λ q. get_of ns q is ∙ at q ∙ ap (λ o. cond (is_at (R k) q) None o) (sym (get_of es q was))
        ∙ ap (λ b. cond b None (map.get (from_sorted {R = R} es) q)) ((eq_by_cmp_equiv total).symm k q) ∙ sym (get-remove total (from_sorted {R = R} es) k q))
