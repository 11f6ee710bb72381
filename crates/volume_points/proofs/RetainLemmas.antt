-- What `retain` keeps of a list is a filter of it.
use Rattle.std.proofs.Common.{◌≡◌, List, [], ◌∷◌, length, refl, ap, ◌∙◌, subst, Bool, true, false, cond, arith}
use Rattle.std.specs.Prelude.{filter}
use Rattle.std.specs.List.{items_where_true}
use Rattle.std.specs.List.Retain.{ReturnsInTurn, IsFiltered}

module _ {X F : Type 0} (R : F → X → Bool → F → Type 0) (test : X → Bool) (f : F) (h : (x : X) (b : Bool) (f' : F) → R f x b f' → (b ≡ test x) × (f' ≡ f)) where
  where_true : (bs : List Bool) (xs : List X) (q : F) → length bs ≡ length xs → ReturnsInTurn R f bs xs q → items_where_true bs xs ≡ filter test xs
  where_true [] [] q e t = refl
  where_true [] (y ∷ xs) q e t = absurd (omega arith)
  where_true (b ∷ bs) [] q e t = absurd t
  where_true (true ∷ bs) (y ∷ xs) q e t =
      let one = h y true t.0 t.1 in
      ap (λ (l : List X). y ∷ l) (where_true bs xs q (omega arith) (subst (λ (p : F). ReturnsInTurn R p bs xs q) one.1 t.2)) ∙ ap (λ b. cond b (y ∷ filter test xs) (filter test xs)) one.0
  where_true (false ∷ bs) (y ∷ xs) q e t =
      let one = h y false t.0 t.1 in
      where_true bs xs q (omega arith) (subst (λ (p : F). ReturnsInTurn R p bs xs q) one.1 t.2) ∙ ap (λ b. cond b (y ∷ filter test xs) (filter test xs)) one.0

  pub filtered : (xs ys : List X) → IsFiltered R f xs ys → ys ≡ filter test xs
  filtered xs ys k = k.4 ∙ where_true k.0 xs k.1 k.2 k.3
