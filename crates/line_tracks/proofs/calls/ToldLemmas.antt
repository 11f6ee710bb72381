-- What was told of nodes: which of them answered, and why the others didn't.
use Rattle.std.proofs.Common.{◌≡◌, ◌+◌, ◌<◌, ℕ, List, [], ◌∷◌, map, length, refl, sym, ap, ap₂, subst, ◌∙◌, inl, inr, arith, IsPermutation, swap}
use Rattle.std.specs.Prelude.{◌⊎◌, Some, None, Ok, Err}
use Rattle.std.specs.Result.{result_err}
use Rattle.std.proofs.lemmas.List.Edits.{length-swap}
use Rattle.std.proofs.lemmas.List.Sorted.{IsPermutation-keeps, IsPermutation-sym}
use Rattle.m3_model.specs.Ascends.{Ascends}
use Rattle.m3_model.specs.Members.{IsIn}
use Rattle.m3_model.specs.declared.reason.Reason.{Reason}
use Rattle.m3_model.proofs.MemberLemmas.{IsIn-map}
use Rattle.placement_core.proofs.ListLemmas.{IsIn-from_index, index-from_IsIn}
use Rattle.placement_core.proofs.OrderLemmas.{came}
use Rattle.session_net.specs.Messages.{Heard}
use Rattle.session_net.specs.Outcomes.{NodeOutcome, answering, refusing, told_of}

-- a node that answered was told of no reason
pub answering-told : (told : List NodeOutcome) (n : ℕ) → IsIn (answering told) n → IsIn told (n, None)
answering-told [] n h = absurd h
answering-told ((m, None) ∷ told) n h = elim h as (λ _. IsIn ((m, None) ∷ told) (n, None)) [ inl e ↦ inl (ap (λ k. (k, None)) e) | inr r ↦ inr (answering-told told n r) ]
answering-told ((m, Some why) ∷ told) n h = inr (answering-told told n h)

-- and one that didn't, of its reason
pub refusing-told : (told : List NodeOutcome) (r : ℕ × Reason) → IsIn (refusing told) r → IsIn told (r.0, Some r.1)
refusing-told [] r h = absurd h
refusing-told ((m, None) ∷ told) r h = inr (refusing-told told r h)
refusing-told ((m, Some why) ∷ told) r h = elim h as (λ _. IsIn ((m, Some why) ∷ told) (r.0, Some r.1)) [ inl e ↦ inl (ap (λ (x : ℕ × Reason). (x.0, Some x.1)) e) | inr rest ↦ inr (refusing-told told r rest) ]

same_reason : (x why : Reason) → Some x ≡ Some why → x ≡ why
same_reason x why e = cc

reason_of : (m n : ℕ) (x why : Reason) → ◌≡◌ {A = NodeOutcome} (m, Some x) (n, Some why) → ◌≡◌ {A = ℕ × Reason} (m, x) (n, why)
reason_of m n x why e = ap₂ (λ (a : ℕ) (b : Reason). (a, b)) (ap (λ (t : NodeOutcome). t.0) e) (same_reason x why (ap (λ (t : NodeOutcome). t.1) e))

-- what was told of a reason is among the reasons
pub told-refusing : (told : List NodeOutcome) (n : ℕ) (why : Reason) → IsIn told (n, Some why) → IsIn (refusing told) (n, why)
told-refusing [] n why h = absurd h
told-refusing ((m, None) ∷ told) n why h = elim h as (λ _. IsIn (refusing told) (n, why)) [ inl e ↦ (let bad : None ≡ Some why = ap (λ (x : NodeOutcome). x.1) e in cc) | inr r ↦ told-refusing told n why r ]
told-refusing ((m, Some x) ∷ told) n why h = elim h as (λ _. IsIn ((m, x) ∷ refusing told) (n, why)) [ inl e ↦ inl (reason_of m n x why e) | inr r ↦ inr (told-refusing told n why r) ]

answering-asked : (told : List NodeOutcome) (n : ℕ) → IsIn (answering told) n → IsIn (map (λ (x : NodeOutcome). x.0) told) n
answering-asked [] n h = absurd h
answering-asked ((m, None) ∷ told) n h = elim h as (λ _. (m ≡ n) ⊎ IsIn (map (λ (x : NodeOutcome). x.0) told) n) [ inl e ↦ inl e | inr r ↦ inr (answering-asked told n r) ]
answering-asked ((m, Some why) ∷ told) n h = inr (answering-asked told n h)

refusing-asked : (told : List NodeOutcome) (r : ℕ × Reason) → IsIn (refusing told) r → IsIn (map (λ (x : NodeOutcome). x.0) told) r.0
refusing-asked [] r h = absurd h
refusing-asked ((m, None) ∷ told) r h = inr (refusing-asked told r h)
refusing-asked ((m, Some why) ∷ told) r h = elim h as (λ _. (m ≡ r.0) ⊎ IsIn (map (λ (x : NodeOutcome). x.0) told) r.0) [ inl e ↦ inl (ap (λ (x : ℕ × Reason). x.0) e) | inr rest ↦ inr (refusing-asked told r rest) ]

-- those that answered, and those that didn't, are in the order of all
pub answering_ascend : (R : ℕ → ℕ → Type 0) (told : List NodeOutcome) → Ascends R (map (λ (x : NodeOutcome). x.0) told) → Ascends R (answering told)
answering_ascend R [] h = tt
answering_ascend R ((m, None) ∷ told) h = (λ n i. h.0 n (answering-asked told n i), answering_ascend R told h.1)
answering_ascend R ((m, Some why) ∷ told) h = answering_ascend R told h.1

pub refusing_ascend : (R : ℕ → ℕ → Type 0) (told : List NodeOutcome) → Ascends R (map (λ (x : NodeOutcome). x.0) told) → Ascends (λ a b. R a.0 b.0) (refusing told)
refusing_ascend R [] h = tt
refusing_ascend R ((m, None) ∷ told) h = refusing_ascend R told h.1
refusing_ascend R ((m, Some why) ∷ told) h = (λ r i. h.0 r.0 (refusing-asked told r i), refusing_ascend R told h.1)

-- each node that was asked answered, or didn't
pub one_or_other : (told : List NodeOutcome) → length (answering told) + length (refusing told) ≡ length told
one_or_other [] = refl
one_or_other ((m, None) ∷ told) = let rest = one_or_other told in omega (arith, rest)
one_or_other ((m, Some why) ∷ told) = let rest = one_or_other told in omega (arith, rest)

-- ---- of what was heard

-- the nodes that were told of are those that were heard
pub told_nodes : {X : Type 0} (heard : List (Heard X)) → map (λ (x : NodeOutcome). x.0) (map told_of heard) ≡ map (λ x. x.0) heard
told_nodes [] = refl
told_nodes (x ∷ heard) = ap (λ ns. x.0 ∷ ns) (told_nodes heard)

-- a node that answered was heard to say so
pub heard_ok : {X : Type 0} (heard : List (Heard X)) (n : ℕ) → IsIn (answering (map told_of heard)) n → (y : X) × IsIn heard (n, Ok y)
heard_ok {X} heard n m =
    let from = IsIn-map told_of heard (n, None) (answering-told (map told_of heard) n m) in
    by from.0 from.1 (ap (λ (x : NodeOutcome). x.0) from.2) (ap (λ (x : NodeOutcome). x.1) from.2)
  where
    by : (x : Heard X) → IsIn heard x → x.0 ≡ n → result_err x.1 ≡ None → (y : X) × IsIn heard (n, Ok y)
    by (k, Ok y) i e none = (y, subst (λ j. IsIn heard (j, Ok y)) e i)
    by (k, Err why) i e none = cc

-- and one that didn't, its reason
pub heard_err : {X : Type 0} (heard : List (Heard X)) (r : ℕ × Reason) → IsIn (refusing (map told_of heard)) r → IsIn heard (r.0, Err r.1)
heard_err {X} heard r m =
    let from = IsIn-map told_of heard (r.0, Some r.1) (refusing-told (map told_of heard) r m) in
    by from.0 from.1 (ap (λ (x : NodeOutcome). x.0) from.2) (ap (λ (x : NodeOutcome). x.1) from.2)
  where
    by : (x : Heard X) → IsIn heard x → x.0 ≡ r.0 → result_err x.1 ≡ Some r.1 → IsIn heard (r.0, Err r.1)
    by (k, Ok y) i e some = cc
    by (k, Err why) i e some = subst (λ w. IsIn heard (r.0, Err w)) (same_reason why r.1 some) (subst (λ j. IsIn heard (j, Err why)) e i)

-- ---- a list in another order

-- an exchange brings no new element
swap_in : {X : Type 0} (xs : List X) (i j : ℕ) (x : X) → i < length xs → j < length xs → IsIn (swap xs i j) x → IsIn xs x
swap_in xs i j x li lj h =
    let at = index-from_IsIn (swap xs i j) x h in
    let size = length-swap xs i j in
    let from = came xs i j at.0 x li lj (omega (arith, at.1, size)) in
    subst (IsIn xs) (sym from.3 ∙ at.2 x) (IsIn-from_index xs from.0 x from.1)

pub permuted-IsIn : {X : Type 0} (xs ys : List X) → IsPermutation xs ys → (x : X) → IsIn ys x → IsIn xs x
permuted-IsIn {X} xs ys p = IsPermutation-keeps xs (λ l. (x : X) → IsIn l x → IsIn xs x) (λ x h. h) (λ l i j li lj keeps x h. keeps x (swap_in l i j x li lj h)) ys p

pub IsIn-permuted : {X : Type 0} (xs ys : List X) → IsPermutation xs ys → (x : X) → IsIn xs x → IsIn ys x
IsIn-permuted xs ys p = permuted-IsIn ys xs (IsPermutation-sym xs ys p)
