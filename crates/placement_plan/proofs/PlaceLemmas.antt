-- Lists read by position, as loops read them.
use Rattle.std.proofs.Common.{◌≡◌, ◌<◌, ◌≤◌, ◌⊎◌, ℕ, zero, suc, ◌+◌, List, [], ◌∷◌, ◌++◌, length, get_or, slice_get, Some, None, refl, sym, subst, ap, ◌∙◌, inl, inr, arith, length-append}
use Rattle.placement_core.specs.m3_model.declared.placement.Assignment.{Assignment}
use Rattle.placement_core.specs.m3_model.declared.placement.ShardState.TheVariants.{Initializing}
use Rattle.std.proofs.lemmas.Bool.{cases_eq}
use Rattle.placement_core.specs.m3_model.Members.{IsIn}
use Rattle.placement_core.proofs.ListLemmas.{index-from_IsIn, at_index, same_at}
use Rattle.placement_plan.specs.Plans.{MakesAll}

-- the fact is false of each of the first elements
abbrev pub NoneBelow : {X : Type 0} → (X → Type 0) → List X → ℕ → Type 0
NoneBelow P xs n = (k : ℕ) (x : _) → k < n → slice_get xs k ≡ Some x → ¬ P x

pub none_more : {X : Type 0} (P : X → Type 0) (xs : List X) (n : ℕ) (y : X) → slice_get xs n ≡ Some y → ¬ P y → NoneBelow P xs n → NoneBelow P xs (n + 1)
none_more P xs n y at not below k x lt is =
    elim (cases_eq k n) as (λ _. ¬ P x) [
      | inl e ↦ λ p. not (subst P (same_at xs n x y (ap (slice_get xs) (sym e) ∙ is) at) p)
      | inr ne ↦ below k x (omega (arith, lt, ne)) is
    ]

pub in_at : {X : Type 0} (xs : List X) (x : X) → IsIn xs x → (k : ℕ) × (k < length xs) × (slice_get xs k ≡ Some x)
in_at xs x m = let i = index-from_IsIn xs x m in (i.0, i.1, at_index xs i.0 x i.1 (sym (i.2 x)))

pub none_all : {X : Type 0} (P : X → Type 0) (xs : List X) (n : ℕ) → length xs ≤ n → NoneBelow P xs n → (x : X) → IsIn xs x → ¬ P x
none_all P xs n many below x m = let i = in_at xs x m in below i.0 x (omega (arith, i.1, many)) i.2

-- the assignment of zeros, which stands where a list has ended
abbrev pub blank : Assignment
blank = record { node = 0; tenure = 0; state = Initializing; source = None }

-- ---- lists that are made element by element from others

-- the first elements were made
pub record MadeBelow {X Y : Type 0} (Made : ℕ → X → Y → Type 0) (old : List X) (next : List Y) (n : ℕ) : Type 0 where
  pub many : length next ≡ n
  pub each : (k : ℕ) (a : X) (b : Y) → slice_get old k ≡ Some a → slice_get next k ≡ Some b → Made k a b

pub made_none : {X Y : Type 0} (Made : ℕ → X → Y → Type 0) (old : List X) → MadeBelow Made old [] 0
made_none Made old = record { many = refl; each = λ k a b ea eb. cc }

pub push_cases : {X : Type 0} (xs : List X) (y : X) (k : ℕ) (x : X) → slice_get (xs ++ y ∷ []) k ≡ Some x → (slice_get xs k ≡ Some x) ⊎ ((k ≡ length xs) × (y ≡ x))
push_cases [] y zero x e = inr (refl, cc)
push_cases [] y (suc k) x e = cc
push_cases (z ∷ xs) y zero x e = inl e
push_cases (z ∷ xs) y (suc k) x e = elim (push_cases xs y k x e) as (λ _. (slice_get xs k ≡ Some x) ⊎ ((suc k ≡ length (z ∷ xs)) × (y ≡ x))) [ inl h ↦ inl h | inr h ↦ inr (omega (arith, h.0), h.1) ]

pub made_more : {X Y : Type 0} (Made : ℕ → X → Y → Type 0) (old : List X) (next : List Y) (n : ℕ) (a : X) (b : Y) → slice_get old n ≡ Some a → Made n a b → MadeBelow Made old next n → MadeBelow Made old (next ++ b ∷ []) (n + 1)
made_more Made old next n a b at made below = record {
  many = omega (arith, length-append next (b ∷ []), below.many);
  each = λ k x y ex ey. elim (push_cases next b k y ey) as (λ _. Made k x y) [
    | inl h ↦ below.each k x y ex h
    | inr h ↦
        let k_is : k ≡ n = h.0 ∙ below.many in
        let x_is : a ≡ x = same_at old n a x at (ap (slice_get old) (sym k_is) ∙ ex) in
        subst (λ j. Made j x y) (sym k_is) (subst (λ z. Made n z y) x_is (subst (Made n a) h.1 made))
  ];
}

-- the same of the list that a push leaves, where the item was read in a loop
pub made_push : {X Y : Type 0} (Made : ℕ → X → Y → Type 0) (old : List X) (next pushed : List Y) (n : ℕ) (a : X) (b : Y) → pushed ≡ next ++ b ∷ [] → n < length old → a ≡ get_or old n a → Made n a b → MadeBelow Made old next n → MadeBelow Made old pushed (n + 1)
made_push Made old next pushed n a b is lt read made below = subst (λ xs. MadeBelow Made old xs (n + 1)) (sym is) (made_more Made old next n a b (at_index old n a lt read) made below)

pub made_all : {X : Type 0} (Made : ℕ → X → X → Type 0) (old next : List X) (n : ℕ) → n ≤ length old → length old ≤ n → MadeBelow Made old next n → MakesAll Made old next
made_all Made old next n le ge below = record { count = omega (arith, below.many, le, ge); each = below.each }
