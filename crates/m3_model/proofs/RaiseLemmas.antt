-- The entries of an ordered map after a value was raised at a key, as a finite map.
use Rattle.std.proofs.Common.{◌≡◌, ℤ, List, [], ◌∷◌, refl, sym, ap, subst, ◌∙◌, Bool, true, false, cond, T, length}
use Rattle.std.specs.Prelude.{Option, Some, None, MatchBool}
use Rattle.std.specs.FinMap as map
use Rattle.std.specs.FinMap.{IsAntisymmetric, FinMap, find, put, is_sorted, from_sorted, entries, entries_sorted, entries-from_sorted, get-from_sorted, entries-insert, same_entries_map, same_map, get-insert, get_tied}
use Rattle.std.specs.BTreeMap.{insert_entry}
use Rattle.std.specs.FinMap.Entries.{by_order}
use Rattle.std.specs.Cmp.{IsTotalOrder}
use Rattle.std.specs.Ordering.{eq_by_cmp, match_ordering}
use Rattle.std.specs.declared.cmp.Ordering.{Ordering}
use Rattle.std.specs.declared.cmp.Ordering.TheVariants.{Less, Equal, Greater}
use Rattle.m3_model.specs.Contents.{raised_at, higher, is_higher}
use Rattle.m3_model.proofs.Keyed.{true_of, holds_of, equal_of}

higher-above : (o : Option ℤ) (v : ℤ) → is_higher o v ≡ true → higher o v ≡ v
higher-above None v e = refl
higher-above (Some w) v e = ap (λ b. cond b v w) e

module _ {K : Type 0} (R : K → K → Ordering) where
  insert_entry-put : {X : Type 0} (es : List (K × X)) (k : K) (v : X) → insert_entry R es k v ≡ put R k v es
  insert_entry-put [] k v = refl
  insert_entry-put (e ∷ es) k v =
      elim (R k e.0) as (λ o. match_ordering o ((k, v) ∷ e ∷ es) ((e.0, v) ∷ es) (e ∷ insert_entry R es k v) ≡ by_order o ((k, v) ∷ e ∷ es) ((e.0, v) ∷ es) (e ∷ put R k v es))
      [ Less ↦ refl | Equal ↦ refl | Greater ↦ ap (λ rest. e ∷ rest) (insert_entry-put es k v) ]

  -- the map of entries of which one was inserted
  pub from_sorted-insert_entry : {X : Type 0} → IsTotalOrder R → (es ns : List (K × X)) (k : K) (v : X) → is_sorted R es ≡ true → ns ≡ insert_entry R es k v
      → (is_sorted R ns ≡ true) × (from_sorted {R = R} ns ≡ map.insert (from_sorted {R = R} es) k v)
  from_sorted-insert_entry {X} total es ns k v h e =
      let m : FinMap R X = from_sorted {R = R} es in
      let was : entries m ≡ es = entries-from_sorted R es (holds_of _ h) in
      let is : entries (map.insert m k v) ≡ ns = entries-insert total m k v ∙ ap (put R k v) was ∙ sym (insert_entry-put es k v) ∙ sym e in
      let sorted : T (is_sorted R ns) = subst (λ xs. T (is_sorted R xs)) is (entries_sorted (map.insert m k v)) in
      (true_of _ sorted, same_entries_map _ _ (entries-from_sorted R ns sorted ∙ sym is))

  insert_same_at : {X : Type 0} → IsTotalOrder R → (m : FinMap R X) (k : K) (v : X) → map.get m k ≡ Some v → (q : K) (b : Bool) → eq_by_cmp R q k ≡ b → cond b (Some v) (map.get m q) ≡ map.get m q
  insert_same_at total m k v e q true t = sym e ∙ get_tied total m q k (equal_of _ t)
  insert_same_at total m k v e q false t = refl

  -- to insert what stands there changes nothing
  insert-same : {X : Type 0} → IsTotalOrder R → IsAntisymmetric R → (m : FinMap R X) (k : K) (v : X) → map.get m k ≡ Some v → map.insert m k v ≡ m
  insert-same total same m k v e = same_map total same _ _ (λ q. get-insert total m k v q ∙ insert_same_at total m k v e q (eq_by_cmp R q k) refl)

  insert-not_above : IsTotalOrder R → IsAntisymmetric R → (m : FinMap R ℤ) (k : K) (v : ℤ) (o : Option ℤ) → map.get m k ≡ o → is_higher o v ≡ false → map.insert m k (higher o v) ≡ m
  insert-not_above total same m k v None g e = cc
  insert-not_above total same m k v (Some w) g e = ap (λ b. map.insert m k (cond b v w)) e ∙ insert-same total same m k w g

  raised_by_test : IsTotalOrder R → IsAntisymmetric R → (b : Bool) (es ns : List (K × ℤ)) (k : K) (v : ℤ) → is_sorted R es ≡ true → b ≡ is_higher (find R k es) v
      → MatchBool b (ns ≡ insert_entry R es k v) (ns ≡ es)
      → (is_sorted R ns ≡ true) × (from_sorted {R = R} ns ≡ raised_at (from_sorted {R = R} es) k v) × (b ≡ is_higher (map.get (from_sorted {R = R} es) k) v)
  raised_by_test total same true es ns k v h e new =
      let got : map.get (from_sorted {R = R} es) k ≡ find R k es = get-from_sorted R es k (holds_of _ h) in
      let inserted = from_sorted-insert_entry total es ns k v h new in
      let above : true ≡ is_higher (map.get (from_sorted {R = R} es) k) v = e ∙ ap (λ o. is_higher o v) (sym got) in
      (inserted.0, inserted.1 ∙ ap (map.insert (from_sorted {R = R} es) k) (sym (higher-above _ v (sym above))), above)
  raised_by_test total same false es ns k v h e new =
      let got : map.get (from_sorted {R = R} es) k ≡ find R k es = get-from_sorted R es k (holds_of _ h) in
      let not_above : false ≡ is_higher (map.get (from_sorted {R = R} es) k) v = e ∙ ap (λ o. is_higher o v) (sym got) in
      (ap (is_sorted R) new ∙ h, ap (λ xs. from_sorted {R = R} xs) new ∙ sym (insert-not_above total same (from_sorted {R = R} es) k v _ refl (sym not_above)), not_above)

  -- what a value that was raised among the entries leaves, as a map; z is the value as it was passed
  pub raised_by : IsTotalOrder R → IsAntisymmetric R → (b : Bool) (es ns : List (K × ℤ)) (k : K) (v z : ℤ) → z ≡ v → is_sorted R es ≡ true → b ≡ is_higher (find R k es) z
      → MatchBool b (ns ≡ insert_entry R es k z) (ns ≡ es)
      → (is_sorted R ns ≡ true) × (from_sorted {R = R} ns ≡ raised_at (from_sorted {R = R} es) k v) × (b ≡ is_higher (map.get (from_sorted {R = R} es) k) v)
  raised_by total same b es ns k v z e h was new =
      raised_by_test total same b es ns k v h (was ∙ ap (is_higher (find R k es)) e) (subst (λ x. MatchBool b (ns ≡ insert_entry R es k x) (ns ≡ es)) e new)

  pub from_sorted-empty : {X : Type 0} → from_sorted {R = R} [] ≡ map.empty {X = X} {R = R}
  from_sorted-empty = map.empty_of_len _ (map.len-entries _ ∙ ap length (entries-from_sorted R [] tt))
