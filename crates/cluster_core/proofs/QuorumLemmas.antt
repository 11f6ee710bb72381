-- Two majorities of one base share a member.
use Rattle.std.proofs.Common.{◌≡◌, ℕ, suc, ◌+◌, ◌≤◌, List, [], ◌∷◌, ◌++◌, length, refl, sym, ap, ◌∙◌, subst, inl, inr, arith, length-append}
use Rattle.std.specs.Prelude.{◌⊎◌}
use Rattle.std.proofs.lemmas.Bool.{cases_eq}
use Rattle.m3_model.specs.Members.{IsIn}
use Rattle.m3_model.proofs.MemberLemmas.{IsIn-append_cases}
use Rattle.placement_core.specs.Majorities.{IsMajority}
use Rattle.cluster_core.specs.Lists.{IsDistinct}

pub dec_in : (n : ℕ) (ns : List ℕ) → IsIn ns n ⊎ (IsIn ns n → ⊥)
dec_in n [] = inr (λ h. h)
dec_in n (m ∷ ms) =
    elim (cases_eq m n) as (λ _. ((m ≡ n) ⊎ IsIn ms n) ⊎ (((m ≡ n) ⊎ IsIn ms n) → ⊥)) [
      | inl e ↦ inl (inl e)
      | inr ne ↦ elim (dec_in n ms) as (λ _. ((m ≡ n) ⊎ IsIn ms n) ⊎ (((m ≡ n) ⊎ IsIn ms n) → ⊥)) [
        | inl h ↦ inl (inr h)
        | inr nh ↦ inr (λ x. elim x as (λ _. ⊥) [ inl e ↦ ne e | inr h ↦ nh h ])
      ]
    ]

-- the list with one position of n left out
drop_one : (n : ℕ) (ns : List ℕ) → IsIn ns n → (rest : List ℕ) × (length ns ≡ suc (length rest)) × ((m : ℕ) → IsIn ns m → (m ≡ n → ⊥) → IsIn rest m)
drop_one n [] h = absurd h
drop_one n (m ∷ ms) h =
    elim h as (λ _. (rest : List ℕ) × (suc (length ms) ≡ suc (length rest)) × ((k : ℕ) → (m ≡ k) ⊎ IsIn ms k → (k ≡ n → ⊥) → IsIn rest k)) [
      | inl e ↦ (ms, refl, λ k x ne. elim x as (λ _. IsIn ms k) [ inl f ↦ absurd (ne (sym f ∙ e)) | inr y ↦ y ])
      | inr y ↦ let less = drop_one n ms y in
          (m ∷ less.0, ap suc less.1, λ k x ne. elim x as (λ _. (m ≡ k) ⊎ IsIn less.0 k) [ inl f ↦ inl f | inr z ↦ inr (less.2 k z ne) ])
    ]

-- distinct members are no more than the base
pub distinct_within : (ms base : List ℕ) → IsDistinct ms → ((n : ℕ) → IsIn ms n → IsIn base n) → length ms ≤ length base
distinct_within [] base d h = omega arith
distinct_within (m ∷ ms) base d h =
    let less = drop_one m base (h m (inl refl)) in
    let within : (n : ℕ) → IsIn ms n → IsIn less.0 n = λ n x. less.2 n (h n (inr x)) (λ e. d.0 n x (sym e)) in
    omega (arith, less.1, distinct_within ms less.0 d.1 within)

pub distinct-append : (xs ys : List ℕ) → IsDistinct xs → IsDistinct ys → ((n : ℕ) → IsIn xs n → IsIn ys n → ⊥) → IsDistinct (xs ++ ys)
distinct-append [] ys d e apart = e
distinct-append (x ∷ xs) ys d e apart =
    (λ y h same. elim (IsIn-append_cases xs ys y h) as (λ _. ⊥) [ inl a ↦ d.0 y a same | inr b ↦ apart x (inl refl) (subst (IsIn ys) (sym same) b) ], distinct-append xs ys d.1 e (λ n a b. apart n (inr a) b))

shared : (xs ys : List ℕ) → ((n : ℕ) × IsIn xs n × IsIn ys n) ⊎ ((n : ℕ) → IsIn xs n → IsIn ys n → ⊥)
shared [] ys = inr (λ n h _. h)
shared (x ∷ xs) ys =
    elim (dec_in x ys) as (λ _. ((n : ℕ) × ((x ≡ n) ⊎ IsIn xs n) × IsIn ys n) ⊎ ((n : ℕ) → (x ≡ n) ⊎ IsIn xs n → IsIn ys n → ⊥)) [
      | inl h ↦ inl (x, inl refl, h)
      | inr nh ↦ elim (shared xs ys) as (λ _. ((n : ℕ) × ((x ≡ n) ⊎ IsIn xs n) × IsIn ys n) ⊎ ((n : ℕ) → (x ≡ n) ⊎ IsIn xs n → IsIn ys n → ⊥)) [
        | inl s ↦ inl (s.0, inr s.1, s.2)
        | inr apart ↦ inr (λ n a b. elim a as (λ _. ⊥) [ inl e ↦ nh (subst (IsIn ys) (sym e) b) | inr c ↦ apart n c b ])
      ]
    ]

-- two majorities of a base of at most rf members share one
pub meet : (rf : ℕ) (base xs ys : List ℕ) → length base ≤ rf → IsMajority rf base xs → IsMajority rf base ys → (n : ℕ) × IsIn xs n × IsIn ys n
meet rf base xs ys few x y =
    elim (shared xs ys) as (λ _. (n : ℕ) × IsIn xs n × IsIn ys n) [
      | inl s ↦ s
      | inr apart ↦
          let within : (n : ℕ) → IsIn (xs ++ ys) n → IsIn base n = λ n h. elim (IsIn-append_cases xs ys n h) as (λ _. IsIn base n) [ inl a ↦ x.within n a | inr b ↦ y.within n b ] in
          let least : length (xs ++ ys) ≤ length base = distinct_within (xs ++ ys) base (distinct-append xs ys x.distinct y.distinct apart) within in
          let both : length (xs ++ ys) ≡ length xs + length ys = length-append xs ys in
          absurd (omega (arith, x.enough, y.enough))
    ]
