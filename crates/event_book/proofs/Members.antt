-- Lists with one member changed or added.
use Rattle.std.proofs.Common.{◌≡◌, ℕ, zero, suc, ◌≢◌, ◌⊎◌, inl, inr, List, [], ◌∷◌, ◌++◌, length, set, refl, ap, sym, subst, ⊎_elim}
use mathlib.Core.Option.{some, some-injective, some-ne-none}
use lib.ListN.{get_elem?}
use Rattle.atomic_table.proofs.Lists.{at_set}

module _ {A : Type 0} where
  at_end : (l : List A) (a b : A) (j : ℕ) → get_elem? (l ++ a ∷ []) j ≡ some b → (get_elem? l j ≡ some b) ⊎ ((j ≡ length l) × (a ≡ b))
  at_end [] a b zero e = inr (refl, some-injective a b e)
  at_end [] a b (suc j) e = absurd (some-ne-none b (sym e))
  at_end (x ∷ xs) a b zero e = inl e
  at_end (x ∷ xs) a b (suc j) e = ⊎_elim inl (λ (t : (j ≡ length xs) × (a ≡ b)). inr (ap suc t.0, t.1)) (at_end xs a b j e)

  -- a fact about each member, after one member was changed
  pub each_set : (P : ℕ → A → Type 0) (l : List A) (i : ℕ) (b : A) → P i b → ((j : ℕ) (a : A) → j ≢ i → get_elem? l j ≡ some a → P j a)
      → (j : ℕ) (a : A) → get_elem? (set l i b) j ≡ some a → P j a
  each_set P l i b here others j a at = ⊎_elim
      (λ (t : (j ≡ i) × (b ≡ a)). subst (λ (k : ℕ). P k a) (sym t.0) (subst (λ (x : A). P i x) t.1 here))
      (λ (t : (j ≢ i) × (get_elem? l j ≡ some a)). others j a t.0 t.1)
      (at_set l i j b a at)

  -- a fact about each two members, after one member was changed
  pub pair_set : (P : ℕ → ℕ → A → A → Type 0) (l : List A) (i : ℕ) (b : A) → P i i b b
      → ((k : ℕ) (c : A) → k ≢ i → get_elem? l k ≡ some c → P i k b c)
      → ((j : ℕ) (a : A) → j ≢ i → get_elem? l j ≡ some a → P j i a b)
      → ((j k : ℕ) (a c : A) → get_elem? l j ≡ some a → get_elem? l k ≡ some c → P j k a c)
      → (j k : ℕ) (a c : A) → get_elem? (set l i b) j ≡ some a → get_elem? (set l i b) k ≡ some c → P j k a c
  pair_set P l i b self left right rest j k a c p q =
      each_set (λ (x : ℕ) (y : A). P x k y c) l i b
      (each_set (λ (x : ℕ) (y : A). P i x b y) l i b self left k c q)
      (λ j' a' n at. each_set (λ (x : ℕ) (y : A). P j' x a' y) l i b (right j' a' n at) (λ k' c' m at'. rest j' k' a' c' at at') k c q)
      j a p

  -- a fact about each member, after one was added
  pub each_end : (P : ℕ → A → Type 0) (l : List A) (b : A) → P (length l) b → ((j : ℕ) (a : A) → get_elem? l j ≡ some a → P j a)
      → (j : ℕ) (a : A) → get_elem? (l ++ b ∷ []) j ≡ some a → P j a
  each_end P l b here others j a at = ⊎_elim (others j a)
      (λ (t : (j ≡ length l) × (b ≡ a)). subst (λ (k : ℕ). P k a) (sym t.0) (subst (λ (x : A). P (length l) x) t.1 here))
      (at_end l b a j at)

  -- a fact about each two members, after one was added
  pub pair_end : (P : ℕ → ℕ → A → A → Type 0) (l : List A) (b : A) → P (length l) (length l) b b
      → ((k : ℕ) (c : A) → get_elem? l k ≡ some c → P (length l) k b c)
      → ((j : ℕ) (a : A) → get_elem? l j ≡ some a → P j (length l) a b)
      → ((j k : ℕ) (a c : A) → get_elem? l j ≡ some a → get_elem? l k ≡ some c → P j k a c)
      → (j k : ℕ) (a c : A) → get_elem? (l ++ b ∷ []) j ≡ some a → get_elem? (l ++ b ∷ []) k ≡ some c → P j k a c
  pair_end P l b self left right rest j k a c p q =
      each_end (λ (x : ℕ) (y : A). P x k y c) l b (each_end (λ (x : ℕ) (y : A). P (length l) x b y) l b self left k c q)
      (λ j' a' at. each_end (λ (x : ℕ) (y : A). P j' x a' y) l b (right j' a' at) (λ k' c' at'. rest j' k' a' c' at at') k c q) j a p
