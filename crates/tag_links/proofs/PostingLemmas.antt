-- The ordinals of one tag, in their order.
use Rattle.std.proofs.Common.{◌≡◌, ℕ, ◌<◌, List, [], ◌∷◌, refl, ap, ◌∙◌, subst, inl, inr, Bool, true, false, ◌||◌, arith}
use Rattle.std.specs.Prelude.{◌⊎◌}
use Rattle.std.specs.List.{list_any, AllByRecursion}
use Rattle.std.specs.List.Sorted.{IsStrictlySortedBy}
use Rattle.std.specs.Ordering.{nat_cmp}
use Rattle.std.specs.BTreeMap.{is_at}
use Rattle.std.specs.declared.cmp.Ordering.TheVariants.{Less}
use Rattle.std.proofs.lemmas.Bool.Decides.{nat_tests}
use Rattle.std.proofs.Math.Bool.{or-true}
use Rattle.m3_model.specs.Ascends.{Ascends}
use Rattle.m3_model.specs.Members.{IsIn}

below_all : (o p : ℕ) (ks : List ℕ) → AllByRecursion (λ k. nat_cmp o k ≡ Less) ks → IsIn ks p → o < p
below_all o p [] h m = absurd m
below_all o p (k ∷ ks) h m =
    let less : nat_cmp o k ≡ Less = h.0 in
    let below : o < k = grind (arith, nat_tests) in
    elim m as (λ _. o < p) [ inl same ↦ subst (λ n. o < n) same below | inr later ↦ below_all o p ks h.1 later ]

-- the ordinals of a set ascend
pub ordinals_ascend : (ks : List ℕ) → IsStrictlySortedBy nat_cmp ks → Ascends ◌<◌ ks
unfolding IsStrictlySortedBy
ordinals_ascend [] h = tt
ordinals_ascend (k ∷ ks) h = ((λ p m. below_all k p ks h.0 m), ordinals_ascend ks h.1)

-- an ordinal is found exactly where it is there
pub found_ordinal : (ks : List ℕ) (o : ℕ) → list_any (is_at (nat_cmp o)) ks ≡ true → IsIn ks o
found_ordinal [] o e = cc
found_ordinal (k ∷ ks) o e = by_test (is_at (nat_cmp o) k) refl (found_ordinal ks o) e
  where
    by_test : (b : Bool) → is_at (nat_cmp o) k ≡ b → (list_any (is_at (nat_cmp o)) ks ≡ true → IsIn ks o) → (b || list_any (is_at (nat_cmp o)) ks) ≡ true → (k ≡ o) ⊎ IsIn ks o
    by_test true t later e = inl (grind (arith, nat_tests))
    by_test false t later e = inr (later e)

pub ordinal_found : (ks : List ℕ) (o : ℕ) → IsIn ks o → list_any (is_at (nat_cmp o)) ks ≡ true
ordinal_found [] o h = absurd h
ordinal_found (k ∷ ks) o h =
    elim h as (λ _. (is_at (nat_cmp o) k || list_any (is_at (nat_cmp o)) ks) ≡ true) [
      | inl same ↦ let at : is_at (nat_cmp o) k ≡ true = grind (arith, nat_tests) in ap (λ b. b || list_any (is_at (nat_cmp o)) ks) at
      | inr later ↦ ap (λ b. is_at (nat_cmp o) k || b) (ordinal_found ks o later) ∙ or-true _
    ]
