-- The entries of a hash map as a finite map.
use Rattle.std.proofs.Common.{◌≡◌, List, [], ◌∷◌, refl, sym, ap, ◌∙◌, subst, Bool, false, cond, length, IsPermutation, IsSorted, arith}
use Rattle.std.specs.Prelude.{Some, None}
use Rattle.std.specs.FinMap as map
use Rattle.std.specs.FinMap.{find, put, from_entries, entries, entries-insert, get-entries, get-from_entries, get-insert, get-remove, IsAntisymmetric, same_map, len-empty, len-entries}
use Rattle.std.specs.FinMap.Entries.{by_order}
use Rattle.std.specs.Map.{keys_of, lookup}
use Rattle.std.specs.List.{AllByRecursion, IsDistinct, dedup_from}
use Rattle.std.specs.List.Sorted.{IsStrictlySortedBy}
use Rattle.std.specs.Cmp.{IsTotalOrder, IsEquivalence, eq_by_cmp_equiv}
use Rattle.std.specs.Ordering.{is_eq, eq_by_cmp}
use Rattle.std.specs.declared.cmp.Ordering.{Ordering}
use Rattle.std.specs.declared.cmp.Ordering.TheVariants.{Less, Equal, Greater}
use Rattle.std.proofs.lemmas.List.Kept.{IsStrictlySortedBy-dedup}
use Rattle.std.proofs.lemmas.List.Sorted.{IsPermutation-refl, IsPermutation-sym, IsPermutation-trans, IsPermutation-cons, IsPermutation-middle}

no_length : {X : Type 0} (xs : List X) → length xs ≡ 0 → xs ≡ []
no_length [] e = refl
no_length (x ∷ xs) e = absurd (omega arith)

-- an order, and the test that two keys tie in it
module _ {K : Type 0} (R : K → K → Ordering) (total : IsTotalOrder R) (E : K → K → Bool) (tie : (x y : K) → eq_by_cmp R x y ≡ E x y) where
  pub equiv_of : IsEquivalence E
  equiv_of = subst IsEquivalence (λ i x y. tie x y i) (eq_by_cmp_equiv total)

  pub flips_of : (x y : K) → E x y ≡ E y x
  flips_of x y = equiv_of.symm x y

  dedup_none : (k : K) (ks : List K) → IsDistinct E (k ∷ ks) → dedup_from E k ks ≡ k ∷ ks
  unfolding IsDistinct
  dedup_none k [] h = refl
  dedup_none k (x ∷ ks) h = ap (λ b. cond b (dedup_from E k ks) (k ∷ dedup_from E x ks)) (flips_of x k ∙ h.0.0) ∙ ap (λ (l : List K). k ∷ l) (dedup_none x ks h.1)

  -- keys that all differ rise once they are sorted
  pub strictly_of : (ks : List K) → IsSorted R ks → IsDistinct E ks → IsStrictlySortedBy R ks
  unfolding IsStrictlySortedBy
  strictly_of [] sorted apart = tt
  strictly_of (k ∷ ks) sorted apart = subst (IsStrictlySortedBy R) (dedup_none k ks apart) (IsStrictlySortedBy-dedup total {E = E} (λ x y. sym (tie x y)) (k ∷ ks) sorted)

  module _ {X : Type 0} where
    find-lookup : (q : K) (es : List (K × X)) → find R q es ≡ lookup (E q) es
    find-lookup q [] = refl
    find-lookup q (e ∷ es) = ap (λ b. cond b (Some e.1) (find R q es)) (tie q e.0) ∙ ap (λ o. cond (E q e.0) (Some e.1) o) (find-lookup q es)

    -- what the map has at a key
    pub found_at : (es : List (K × X)) (q : K) → map.get (from_entries {R = R} es) q ≡ lookup (E q) es
    found_at es q = get-from_entries total es q ∙ find-lookup q es

    missing : (k : K) (es : List (K × X)) → AllByRecursion (λ y. E k y ≡ false) (keys_of es) → find R k es ≡ None
    missing k [] h = refl
    missing k (e ∷ es) h = ap (λ b. cond b (Some e.1) (find R k es)) (tie k e.0 ∙ h.0) ∙ missing k es h.1

    put_moves : (k : K) (v : X) (es : List (K × X)) → find R k es ≡ None → IsPermutation ((k, v) ∷ es) (put R k v es)
    put_moves k v [] none = IsPermutation-refl ((k, v) ∷ [])
    put_moves k v (e ∷ es) none = by (R k e.0) none (put_moves k v es)
      where
        by : (o : Ordering) → cond (is_eq o) (Some e.1) (find R k es) ≡ None → (find R k es ≡ None → IsPermutation ((k, v) ∷ es) (put R k v es))
            → IsPermutation ((k, v) ∷ e ∷ es) (by_order o ((k, v) ∷ e ∷ es) ((e.0, v) ∷ es) (e ∷ put R k v es))
        by Less none later = IsPermutation-refl ((k, v) ∷ e ∷ es)
        by Equal none later = cc
        by Greater none later =
            IsPermutation-trans ((k, v) ∷ e ∷ es) (e ∷ (k, v) ∷ es) (e ∷ put R k v es)
            (IsPermutation-sym (e ∷ (k, v) ∷ es) ((k, v) ∷ e ∷ es) (IsPermutation-middle (e ∷ []) (k, v) es))
            (IsPermutation-cons e ((k, v) ∷ es) (put R k v es) (later none))

    -- the entries of the map are those of the list, in another order
    pub entries_move : (es : List (K × X)) → IsDistinct E (keys_of es) → IsPermutation es (entries (from_entries {R = R} es))
    unfolding IsDistinct
    entries_move [] h =
        let none : entries (map.empty {X = X} {R = R}) ≡ [] = no_length _ (sym (len-entries (map.empty {X = X} {R = R})) ∙ len-empty R X) in
        subst (IsPermutation []) (sym none) (IsPermutation-refl [])
    entries_move (e ∷ es) h =
        let later = entries_move es h.1 in
        let absent : find R e.0 (entries (from_entries {R = R} es)) ≡ None = sym (get-entries (from_entries {R = R} es) e.0) ∙ get-from_entries total es e.0 ∙ missing e.0 es h.0 in
        subst (IsPermutation (e ∷ es)) (sym (entries-insert total (from_entries {R = R} es) e.0 e.1))
        (IsPermutation-trans (e ∷ es) (e ∷ entries (from_entries {R = R} es)) (put R e.0 e.1 (entries (from_entries {R = R} es)))
        (IsPermutation-cons e es (entries (from_entries {R = R} es)) later) (put_moves e.0 e.1 (entries (from_entries {R = R} es)) absent))

    module _ (anti : IsAntisymmetric R) where
      -- the map of entries of which one took a value
      pub took : (es ns : List (K × X)) (k : K) (v : X) → ((q : K) → lookup (E q) ns ≡ cond (E k q) (Some v) (lookup (E q) es))
          → from_entries {R = R} ns ≡ map.insert (from_entries {R = R} es) k v
      took es ns k v at =
          same_map total anti _ _ (λ q. found_at ns q ∙ at q ∙ ap (λ o. cond (E k q) (Some v) o) (sym (found_at es q))
          ∙ ap (λ b. cond b (Some v) (map.get (from_entries {R = R} es) q)) (flips_of k q ∙ sym (tie q k)) ∙ sym (get-insert total (from_entries {R = R} es) k v q))

      -- the map of entries of which one left
      pub lost : (es ns : List (K × X)) (k : K) → ((q : K) → lookup (E q) ns ≡ cond (E k q) None (lookup (E q) es))
          → from_entries {R = R} ns ≡ map.remove (from_entries {R = R} es) k
      lost es ns k at =
          same_map total anti _ _ (λ q. found_at ns q ∙ at q ∙ ap (λ o. cond (E k q) None o) (sym (found_at es q))
          ∙ ap (λ b. cond b None (map.get (from_entries {R = R} es) q)) (flips_of k q ∙ sym (tie q k)) ∙ sym (get-remove total (from_entries {R = R} es) k q))
