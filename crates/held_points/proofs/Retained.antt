-- What `retain` keeps of a list, where its test says what holds.
use Rattle.std.proofs.Common.{◌≡◌, List, [], ◌∷◌, length, refl, sym, subst, inl, inr, Bool, true, false, IsTrue, ◌↔◌, arith}
use Rattle.std.specs.Prelude.{◌⊎◌}
use Rattle.std.specs.List.{items_where_true}
use Rattle.std.specs.List.Retain.{ReturnsInTurn, IsFiltered}
use Rattle.m3_model.specs.Ascends.{Ascends}
use Rattle.m3_model.specs.Members.{IsIn}

some_in : {X : Type 0} (bs : List Bool) (xs : List X) (x : X) → IsIn (items_where_true bs xs) x → IsIn xs x
some_in [] xs x m = absurd m
some_in (b ∷ bs) [] x m = absurd m
some_in (true ∷ bs) (y ∷ xs) x m = elim m as (λ _. (y ≡ x) ⊎ IsIn xs x) [ inl e ↦ inl e | inr r ↦ inr (some_in bs xs x r) ]
some_in (false ∷ bs) (y ∷ xs) x m = inr (some_in bs xs x m)

some_ascend : {X : Type 0} (Before : X → X → Type 0) (bs : List Bool) (xs : List X) → Ascends Before xs → Ascends Before (items_where_true bs xs)
some_ascend Before [] xs h = tt
some_ascend Before (b ∷ bs) [] h = tt
some_ascend Before (true ∷ bs) (x ∷ xs) h = ((λ y m. h.0 y (some_in bs xs y m)), some_ascend Before bs xs h.1)
some_ascend Before (false ∷ bs) (x ∷ xs) h = some_ascend Before bs xs h.1

-- what is kept ascends as before
pub retained_ascend : {X F : Type 0} (R : F → X → Bool → F → Type 0) (Before : X → X → Type 0) (f : F) (xs ys : List X) → IsFiltered R f xs ys → Ascends Before xs → Ascends Before ys
retained_ascend R Before f xs ys k h = subst (Ascends Before) (sym k.4) (some_ascend Before k.0 xs h)

module _ {X F : Type 0} (R : F → X → Bool → F → Type 0) (P : X → Type 0) (f : F) (h : (x : X) (b : Bool) (f' : F) → R f x b f' → (IsTrue b ↔ P x) × (f' ≡ f)) where
  kept_holds : (bs : List Bool) (xs : List X) (q : F) → ReturnsInTurn R f bs xs q → (x : X) → IsIn (items_where_true bs xs) x → IsIn xs x × P x
  kept_holds [] xs q t x m = absurd m
  kept_holds (b ∷ bs) [] q t x m = absurd t
  kept_holds (true ∷ bs) (y ∷ xs) q t x m =
      let one = h y true t.0 t.1 in
      elim m as (λ _. ((y ≡ x) ⊎ IsIn xs x) × P x) [
        | inl e ↦ (inl e, subst P e (one.0.0 refl))
        | inr r ↦ let later = kept_holds bs xs q (subst (λ (p : F). ReturnsInTurn R p bs xs q) one.1 t.2) x r in (inr later.0, later.1)
      ]
  kept_holds (false ∷ bs) (y ∷ xs) q t x m =
      let later = kept_holds bs xs q (subst (λ (p : F). ReturnsInTurn R p bs xs q) (h y false t.0 t.1).1 t.2) x m in (inr later.0, later.1)

  holds_kept : (bs : List Bool) (xs : List X) (q : F) → length bs ≡ length xs → ReturnsInTurn R f bs xs q → (x : X) → IsIn xs x → P x → IsIn (items_where_true bs xs) x
  holds_kept [] [] q e t x m p = absurd m
  holds_kept [] (y ∷ xs) q e t x m p = absurd (omega arith)
  holds_kept (b ∷ bs) [] q e t x m p = absurd t
  holds_kept (true ∷ bs) (y ∷ xs) q e t x m p =
      elim m as (λ _. (y ≡ x) ⊎ IsIn (items_where_true bs xs) x) [
        | inl same ↦ inl same
        | inr r ↦ inr (holds_kept bs xs q (omega arith) (subst (λ (p : F). ReturnsInTurn R p bs xs q) (h y true t.0 t.1).1 t.2) x r p)
      ]
  holds_kept (false ∷ bs) (y ∷ xs) q e t x m p =
      let one = h y false t.0 t.1 in
      elim m as (λ _. IsIn (items_where_true bs xs) x) [
        | inl same ↦ let wrong : false ≡ true = one.0.1 (subst P (sym same) p) in absurd (cc)
        | inr r ↦ holds_kept bs xs q (omega arith) (subst (λ (p : F). ReturnsInTurn R p bs xs q) one.1 t.2) x r p
      ]

  -- what is kept are the elements for which P holds
  pub retained : (xs ys : List X) → IsFiltered R f xs ys → (x : X) → IsIn ys x ↔ (IsIn xs x × P x)
  retained xs ys k x = (
    (λ m. kept_holds k.0 xs k.1 k.3 x (subst (λ zs. IsIn zs x) k.4 m)),
    (λ m. subst (λ zs. IsIn zs x) (sym k.4) (holds_kept k.0 xs k.1 k.2 k.3 x m.0 m.1)),
  )
