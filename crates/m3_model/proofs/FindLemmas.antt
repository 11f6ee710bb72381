-- The entries of a finite map and what it has at a key.
use Rattle.std.proofs.Common.{◌≡◌, List, [], ◌∷◌, refl, sym, ap, ◌∙◌, inl, inr, Bool, true, false, cond, ◌&&◌, T}
use Rattle.std.specs.Prelude.{◌⊎◌, Some}
use Rattle.std.specs.FinMap as finite
use Rattle.std.specs.FinMap.{FinMap, IsAntisymmetric, find, is_sorted, entries, entries_sorted, get-entries}
use Rattle.std.specs.FinMap.Entries.{below_all}
use Rattle.std.specs.Ordering.{eq_by_cmp, is_eq, is_lt, ordering_reverse}
use Rattle.std.specs.Cmp.{IsTotalOrder, tied_itself}
use Rattle.std.specs.declared.cmp.Ordering.{Ordering}
use Rattle.std.specs.declared.cmp.Ordering.TheVariants.{Less}
use Rattle.m3_model.specs.Members.{IsIn}
use Rattle.m3_model.specs.Ascends.{Ascends}
use Rattle.m3_model.proofs.Keyed.{equal_of}
use Rattle.m3_model.proofs.Orders.{less_of}

pub both_hold : (a b : Bool) → T (a && b) → T a × T b
both_hold true b h = (tt, h)
both_hold false b h = absurd h

not_tied : {K : Type 0} (R : K → K → Ordering) → IsTotalOrder R → (x q : K) → R x q ≡ Less → eq_by_cmp R q x ≡ false
not_tied R total x q e = ap is_eq (total.antisymm q x ∙ ap ordering_reverse e)

module _ {K X : Type 0} (R : K → K → Ordering) (total : IsTotalOrder R) (anti : IsAntisymmetric R) where
  found_in : (q : K) (x : K × X) (es : List (K × X)) (v : X) → (find R q es ≡ Some v → IsIn es (q, v)) → (b : Bool) → eq_by_cmp R q x.0 ≡ b
      → cond b (Some x.1) (find R q es) ≡ Some v → (x ≡ (q, v)) ⊎ IsIn es (q, v)
  found_in q x es v later true t f = let key : q ≡ x.0 = anti q x.0 (equal_of _ t) in let value : x.1 ≡ v = cc in inl (λ i. (sym key i, value i))
  found_in q x es v later false t f = inr (later f)

  find-IsIn : (q : K) (es : List (K × X)) (v : X) → find R q es ≡ Some v → IsIn es (q, v)
  find-IsIn q [] v e = cc
  find-IsIn q (x ∷ es) v e = found_in q x es v (find-IsIn q es v) (eq_by_cmp R q x.0) refl e

  pub below_member : (x q : K) (v : X) (es : List (K × X)) → T (below_all R x es) → IsIn es (q, v) → R x q ≡ Less
  below_member x q v [] h m = absurd m
  below_member x q v (e ∷ es) h m =
      let parts = both_hold (is_lt (R x e.0)) (below_all R x es) h in
      elim m as (λ _. R x q ≡ Less) [
        | inl same ↦ ap (λ (p : K × X). R x p.0) (sym same) ∙ less_of _ parts.0
        | inr rest ↦ below_member x q v es parts.1 rest
      ]

  IsIn-find : (q : K) (es : List (K × X)) (v : X) → T (is_sorted R es) → IsIn es (q, v) → find R q es ≡ Some v
  IsIn-find q [] v h m = absurd m
  IsIn-find q (e ∷ es) v h m =
      let parts = both_hold (below_all R e.0 es) (is_sorted R es) h in
      elim m as (λ _. cond (eq_by_cmp R q e.0) (Some e.1) (find R q es) ≡ Some v) [
        | inl same ↦ ap (λ b. cond b (Some e.1) (find R q es)) (ap (λ (p : K × X). eq_by_cmp R q p.0) same ∙ ap is_eq (tied_itself total q)) ∙ ap (λ (p : K × X). Some p.1) same
        | inr rest ↦ ap (λ b. cond b (Some e.1) (find R q es)) (not_tied R total e.0 q (below_member e.0 q v es parts.0 rest)) ∙ IsIn-find q es v parts.1 rest
      ]

  -- what the map has at a key is an entry
  pub get-IsIn : (m : FinMap R X) (q : K) (v : X) → finite.get m q ≡ Some v → IsIn (entries m) (q, v)
  get-IsIn m q v e = find-IsIn q (entries m) v (sym (get-entries m q) ∙ e)

  -- the map has an entry's value at its key
  pub IsIn-get : (m : FinMap R X) (q : K) (v : X) → IsIn (entries m) (q, v) → finite.get m q ≡ Some v
  IsIn-get m q v h = get-entries m q ∙ IsIn-find q (entries m) v (entries_sorted m) h

  sorted_ascends : (es : List (K × X)) → T (is_sorted R es) → Ascends (λ (a b : K × X). R a.0 b.0 ≡ Less) es
  sorted_ascends [] h = tt
  sorted_ascends (e ∷ es) h = let parts = both_hold (below_all R e.0 es) (is_sorted R es) h in ((λ y m. below_member e.0 y.0 y.1 es parts.0 m), sorted_ascends es parts.1)

  -- the keys of the entries ascend strictly
  pub entries_ascend : (m : FinMap R X) → Ascends (λ (a b : K × X). R a.0 b.0 ≡ Less) (entries m)
  entries_ascend m = sorted_ascends (entries m) (entries_sorted m)
