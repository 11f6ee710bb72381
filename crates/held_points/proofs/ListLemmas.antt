-- Elements of lists, lists that ascend, and the keys of ordered sets.
use Rattle.std.proofs.Common.{◌≡◌, ◌<◌, List, [], ◌∷◌, ◌++◌, length, refl, subst, inl, inr, arith}
use Rattle.std.specs.Prelude.{◌⊎◌}
use Rattle.std.specs.List.{AllByRecursion}
use Rattle.std.specs.List.Sorted.{IsStrictlySortedBy}
use Rattle.std.specs.BTreeSet.{insert_key}
use Rattle.std.specs.FinMap.{IsAntisymmetric}
use Rattle.std.specs.Ordering.{match_ordering}
use Rattle.std.specs.declared.cmp.Ordering.{Ordering}
use Rattle.std.specs.declared.cmp.Ordering.TheVariants.{Less, Equal, Greater}
use Rattle.m3_model.specs.Ascends.{Ascends}
use Rattle.m3_model.specs.Members.{IsIn}
use Rattle.m3_model.proofs.MemberLemmas.{IsIn-append_cases}

-- a list that isn't empty has an element
pub some_element : {X : Type 0} (xs : List X) → 0 < length xs → (x : X) × IsIn xs x
some_element [] h = absurd (omega arith)
some_element (x ∷ xs) h = (x, inl refl)

pub ascends_append : {X : Type 0} (Before : X → X → Type 0) (xs ys : List X) → Ascends Before xs → Ascends Before ys → ((x y : X) → IsIn xs x → IsIn ys y → Before x y) → Ascends Before (xs ++ ys)
ascends_append Before [] ys h g between = g
ascends_append Before (x ∷ xs) ys h g between = (
  (λ y m. elim (IsIn-append_cases xs ys y m) as (λ _. Before x y) [ inl a ↦ h.0 y a | inr b ↦ between x y (inl refl) b ]),
  ascends_append Before xs ys h.1 g (λ a b m n. between a b (inr m) n),
)

-- what stands earlier in a list that ascends is before
pub ascends_before : {X : Type 0} (Before : X → X → Type 0) (xs : List X) (y : X) (ys : List X) → Ascends Before (xs ++ y ∷ ys) → (x : X) → IsIn xs x → Before x y
ascends_before Before [] y ys h x m = absurd m
ascends_before Before (z ∷ xs) y ys h x m =
    elim m as (λ _. Before x y) [
      | inl same ↦ subst (λ w. Before w y) same (h.0 y (middle xs))
      | inr rest ↦ ascends_before Before xs y ys h.1 x rest
    ]
  where
    middle : (zs : List _) → IsIn (zs ++ y ∷ ys) y
    middle [] = inl refl
    middle (w ∷ zs) = inr (middle zs)

all_members : {X : Type 0} (P : X → Type 0) (xs : List X) → AllByRecursion P xs → (x : X) → IsIn xs x → P x
all_members P [] h x m = absurd m
all_members P (y ∷ xs) h x m = elim m as (λ _. P x) [ inl same ↦ subst P same h.0 | inr rest ↦ all_members P xs h.1 x rest ]

-- the keys of an ordered set ascend
pub sorted_ascends : {K : Type 0} (cmp : K → K → Ordering) (ks : List K) → IsStrictlySortedBy cmp ks → Ascends (λ a b. cmp a b ≡ Less) ks
unfolding IsStrictlySortedBy
sorted_ascends cmp [] h = tt
sorted_ascends cmp (k ∷ ks) h = (all_members (λ y. cmp k y ≡ Less) ks h.0, sorted_ascends cmp ks h.1)

-- the keys after one more was put in are those before and that one
pub insert_key-IsIn : {K : Type 0} (cmp : K → K → Ordering) → IsAntisymmetric cmp → (ks : List K) (k x : K) → IsIn (insert_key cmp ks k) x → IsIn ks x ⊎ (k ≡ x)
insert_key-IsIn cmp anti [] k x m = elim m as (λ _. IsIn [] x ⊎ (k ≡ x)) [ inl same ↦ inr same | inr none ↦ absurd none ]
insert_key-IsIn cmp anti (y ∷ ks) k x m = by_order (cmp k y) (insert_key-IsIn cmp anti ks k x) m
  where
    by_order : (o : Ordering) → (IsIn (insert_key cmp ks k) x → IsIn ks x ⊎ (k ≡ x)) → IsIn (match_ordering o (k ∷ y ∷ ks) (y ∷ ks) (y ∷ insert_key cmp ks k)) x → ((y ≡ x) ⊎ IsIn ks x) ⊎ (k ≡ x)
    by_order Less later m = elim m as (λ _. ((y ≡ x) ⊎ IsIn ks x) ⊎ (k ≡ x)) [ inl same ↦ inr same | inr rest ↦ inl rest ]
    by_order Equal later m = inl m
    by_order Greater later m =
        elim m as (λ _. ((y ≡ x) ⊎ IsIn ks x) ⊎ (k ≡ x)) [
          | inl same ↦ inl (inl same)
          | inr rest ↦ elim (later rest) as (λ _. ((y ≡ x) ⊎ IsIn ks x) ⊎ (k ≡ x)) [ inl old ↦ inl (inr old) | inr new ↦ inr new ]
        ]

pub IsIn-insert_key : {K : Type 0} (cmp : K → K → Ordering) → IsAntisymmetric cmp → (ks : List K) (k x : K) → IsIn ks x ⊎ (k ≡ x) → IsIn (insert_key cmp ks k) x
IsIn-insert_key cmp anti [] k x h = elim h as (λ _. (k ≡ x) ⊎ IsIn [] x) [ inl none ↦ absurd none | inr same ↦ inl same ]
IsIn-insert_key cmp anti (y ∷ ks) k x h = by_order (cmp k y) refl (IsIn-insert_key cmp anti ks k x) h
  where
    by_order : (o : Ordering) → cmp k y ≡ o → (IsIn ks x ⊎ (k ≡ x) → IsIn (insert_key cmp ks k) x) → ((y ≡ x) ⊎ IsIn ks x) ⊎ (k ≡ x) → IsIn (match_ordering o (k ∷ y ∷ ks) (y ∷ ks) (y ∷ insert_key cmp ks k)) x
    by_order Less e later h = elim h as (λ _. (k ≡ x) ⊎ ((y ≡ x) ⊎ IsIn ks x)) [ inl old ↦ inr old | inr new ↦ inl new ]
    by_order Equal e later h = elim h as (λ _. (y ≡ x) ⊎ IsIn ks x) [ inl old ↦ old | inr new ↦ inl (subst (λ z. z ≡ x) (anti k y e) new) ]
    by_order Greater e later h =
        elim h as (λ _. (y ≡ x) ⊎ IsIn (insert_key cmp ks k) x) [
          | inl old ↦ elim old as (λ _. (y ≡ x) ⊎ IsIn (insert_key cmp ks k) x) [ inl same ↦ inl same | inr rest ↦ inr (later (inl rest)) ]
          | inr new ↦ inr (later (inr new))
        ]
