-- What a pass over two ascending lists keeps.
use Rattle.std.proofs.Common.{◌≡◌, ℕ, ◌<◌, ◌≤◌, ◌++◌, append_assoc, List, [], ◌∷◌, refl, sym, ap, ◌∙◌, inl, inr, Bool, true, false, cond, not, ◌||◌, arith, ◌↔◌}
use Rattle.std.specs.Prelude.{◌⊎◌, nat_eq, nat_lt}
use mathlib.Core.Bool.{beq}
use Rattle.std.proofs.lemmas.Bool.{eqb-true}
use Rattle.std.proofs.lemmas.List.{append-nil}
use Rattle.std.proofs.lemmas.Bool.Decides.{nat_tests}
use Rattle.std.proofs.Math.Bool.{or-true}
use Rattle.m3_model.specs.Ascends.{Ascends}
use Rattle.m3_model.specs.Members.{IsIn}
use Rattle.m3_model.proofs.Lists.{filter-IsIn, IsIn-filter, IsIn-filter_passes}
use Rattle.tag_query.specs.Lists.{is_in, is_first, is_wanted, not_below, sifted}

same_as : (x : ℕ) → nat_eq x x ≡ true
same_as x = grind (arith, nat_tests)

-- an element is found
pub IsIn-is_in : (ys : List ℕ) (x : ℕ) → IsIn ys x → is_in ys x ≡ true
IsIn-is_in [] x h = absurd h
IsIn-is_in (y ∷ ys) x h =
    elim h as (λ _. (nat_eq y x || is_in ys x) ≡ true) [
      | inl e ↦ ap (λ z. nat_eq z x || is_in ys x) e ∙ ap (λ b. b || is_in ys x) (same_as x)
      | inr r ↦ ap (λ b. nat_eq y x || b) (IsIn-is_in ys x r) ∙ or-true (nat_eq y x)
    ]

-- what is found is an element
pub is_in-IsIn : (ys : List ℕ) (x : ℕ) → is_in ys x ≡ true → IsIn ys x
is_in-IsIn [] x h = cc
is_in-IsIn (y ∷ ys) x h = by_test (nat_eq y x) refl (is_in-IsIn ys x) h
  where
    by_test : (b : Bool) → nat_eq y x ≡ b → (is_in ys x ≡ true → IsIn ys x) → (b || is_in ys x) ≡ true → (y ≡ x) ⊎ IsIn ys x
    by_test true e later found = inl (eqb-true y x e)
    by_test false e later found = inr (later found)

-- what is below all of a list isn't in it
pub not_in : (ys : List ℕ) (x : ℕ) → ((y : ℕ) → IsIn ys y → x < y) → is_in ys x ≡ false
not_in [] x h = refl
not_in (y ∷ ys) x h =
    let below = h y (inl refl) in
    let apart : nat_eq y x ≡ false = grind (arith, nat_tests) in
    ap (λ b. b || is_in ys x) apart ∙ not_in ys x (λ z m. h z (inr m))

-- what isn't below x is still found
pub found_above : (x z : ℕ) (ys : List ℕ) → x ≤ z → is_in (not_below x ys) z ≡ is_in ys z
found_above x z [] h = refl
found_above x z (y ∷ ys) h = by_test (nat_lt y x) refl (found_above x z ys h)
  where
    by_test : (b : Bool) → nat_lt y x ≡ b → is_in (not_below x ys) z ≡ is_in ys z → is_in (cond b (not_below x ys) (y ∷ ys)) z ≡ (nat_eq y z || is_in ys z)
    by_test true e later =
        let apart : nat_eq y z ≡ false = grind (arith, nat_tests) in
        later ∙ sym (ap (λ b. b || is_in ys z) apart)
    by_test false e later = refl

pub ascends_above : (x : ℕ) (ys : List ℕ) → Ascends ◌<◌ ys → Ascends ◌<◌ (not_below x ys)
ascends_above x [] h = h
ascends_above x (y ∷ ys) h = by_test (nat_lt y x) (ascends_above x ys h.1)
  where
    by_test : (b : Bool) → Ascends ◌<◌ (not_below x ys) → Ascends ◌<◌ (cond b (not_below x ys) (y ∷ ys))
    by_test true later = later
    by_test false later = h

-- in the list from x on, x is found exactly where it is the first
pub first_found : (x : ℕ) (ys : List ℕ) → Ascends ◌<◌ ys → is_first (not_below x ys) x ≡ is_in ys x
first_found x [] h = refl
first_found x (y ∷ ys) h = by_test (nat_lt y x) refl (first_found x ys h.1)
  where
    or_false : (b : Bool) → b ≡ (b || false)
    or_false true = refl
    or_false false = refl

    by_test : (b : Bool) → nat_lt y x ≡ b → is_first (not_below x ys) x ≡ is_in ys x → is_first (cond b (not_below x ys) (y ∷ ys)) x ≡ (nat_eq y x || is_in ys x)
    by_test true e later =
        let apart : nat_eq y x ≡ false = grind (arith, nat_tests) in
        later ∙ sym (ap (λ b. b || is_in ys x) apart)
    by_test false e later =
        let above : x ≤ y = grind (arith, nat_tests) in
        let none : is_in ys x ≡ false = not_in ys x (λ z m. let up = h.0 z m in omega arith) in
        or_false (nat_eq y x) ∙ sym (ap (λ b. nat_eq y x || b) none)

-- later elements are sifted alike by the list from x on
pub sifted_above : (wanted : Bool) (x : ℕ) (later ys : List ℕ) → ((z : ℕ) → IsIn later z → x < z) → sifted wanted later (not_below x ys) ≡ sifted wanted later ys
sifted_above wanted x [] ys h = refl
sifted_above wanted x (z ∷ later) ys h =
    let above = h z (inl refl) in
    let here : is_in (not_below x ys) z ≡ is_in ys z = found_above x z ys (omega arith) in
    let rest = sifted_above wanted x later ys (λ w m. h w (inr m)) in
    ap (λ b. cond (is_wanted wanted b) (z ∷ sifted wanted later (not_below x ys)) (sifted wanted later (not_below x ys))) here
    ∙ ap (λ zs. cond (is_wanted wanted (is_in ys z)) (z ∷ zs) zs) rest

-- the elements that both lists have
pub in_both : (xs ys : List ℕ) (x : ℕ) → IsIn (sifted true xs ys) x ↔ (IsIn xs x × IsIn ys x)
in_both xs ys x = (
  (λ m. (IsIn-filter (λ x. is_in ys x) xs x m, is_in-IsIn ys x (IsIn-filter_passes (λ x. is_in ys x) xs x m))),
  (λ m. filter-IsIn (λ x. is_in ys x) xs x m.0 (IsIn-is_in ys x m.1)),
)

absent : (ys : List ℕ) (x : ℕ) (b : Bool) → is_in ys x ≡ b → (IsIn ys x → ⊥) → not b ≡ true
absent ys x true e none = absurd (none (is_in-IsIn ys x e))
absent ys x false e none = refl

missing : (ys : List ℕ) (x : ℕ) → not (is_in ys x) ≡ true → IsIn ys x → ⊥
missing ys x e m = let wrong : not true ≡ true = ap not (sym (IsIn-is_in ys x m)) ∙ e in cc

-- the elements that the first list has alone
pub in_first : (xs ys : List ℕ) (x : ℕ) → IsIn (sifted false xs ys) x ↔ (IsIn xs x × ¬ IsIn ys x)
in_first xs ys x = (
  (λ m. (IsIn-filter (λ x. not (is_in ys x)) xs x m, missing ys x (IsIn-filter_passes (λ x. not (is_in ys x)) xs x m))),
  (λ m. filter-IsIn (λ x. not (is_in ys x)) xs x m.0 (absent ys x (is_in ys x) refl m.1)),
)

-- one step of the pass
pub one_more : (wanted t : Bool) (kept later ys : List ℕ) (x : ℕ) → Ascends ◌<◌ (x ∷ later) → Ascends ◌<◌ ys → t ≡ is_wanted wanted (is_first (not_below x ys) x)
    → (kept ++ cond t (x ∷ []) []) ++ sifted wanted later (not_below x ys) ≡ kept ++ sifted wanted (x ∷ later) ys
one_more wanted t kept later ys x ascends ys_ascend e =
    ap (λ zs. (kept ++ cond t (x ∷ []) []) ++ zs) (sifted_above wanted x later ys ascends.0)
    ∙ by_test t (e ∙ ap (is_wanted wanted) (first_found x ys ys_ascend))
  where
    by_test : (t : Bool) → t ≡ is_wanted wanted (is_in ys x) → (kept ++ cond t (x ∷ []) []) ++ sifted wanted later ys ≡ kept ++ cond (is_wanted wanted (is_in ys x)) (x ∷ sifted wanted later ys) (sifted wanted later ys)
    by_test true e = append_assoc kept (x ∷ []) (sifted wanted later ys) ∙ ap (λ b. kept ++ cond b (x ∷ sifted wanted later ys) (sifted wanted later ys)) e
    by_test false e = ap (λ zs. zs ++ sifted wanted later ys) (append-nil kept) ∙ ap (λ b. kept ++ cond b (x ∷ sifted wanted later ys) (sifted wanted later ys)) e

-- the code's comparison with what is wanted
pub same_wanted : (answer wanted : Bool) → beq answer wanted ≡ is_wanted wanted answer
same_wanted true true = refl
same_wanted true false = refl
same_wanted false true = refl
same_wanted false false = refl
