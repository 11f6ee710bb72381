-- Slots in another order: each stands there as often.
use Rattle.std.proofs.Common.{◌≡◌, ◌≤◌, ℕ, zero, suc, List, [], ◌∷◌, refl, sym, ap, subst, ◌⊎◌, inl, inr, arith, Bool, true, false, cond, IsPermutation}
use Rattle.std.specs.Prelude.{nat_eq, ◌&&◌}
use Rattle.std.specs.List.{sum_by}
use Rattle.std.proofs.lemmas.Bool.{and_parts, and_from, eq-eqb, eqb-true}
use Rattle.std.proofs.lemmas.List.Sums.{sum_by-cons}
use Rattle.std.proofs.lemmas.List.Sorted.{sum_by-IsPermutation}
use Rattle.m3_model.specs.Members.{IsIn}
use Rattle.node_calls.specs.replica_exchange.declared.slot.Slot.{Slot}
use Rattle.first_cluster.specs.Slots.{AreApart}

abbrev is_at : Slot → Slot → Bool
is_at s x = nat_eq x.shard s.shard && nat_eq x.node s.node

at_same : (s x : Slot) → is_at s x ≡ true → x ≡ s
at_same s x is = let parts = and_parts (nat_eq x.shard s.shard) (nat_eq x.node s.node) is in λ i. record { shard = eqb-true x.shard s.shard parts.0 i; node = eqb-true x.node s.node parts.1 i }

same_at : (s x : Slot) → x ≡ s → is_at s x ≡ true
same_at s x is = and_from (nat_eq x.shard s.shard) (nat_eq x.node s.node) (eq-eqb x.shard s.shard (ap (λ (q : Slot). q.shard) is)) (eq-eqb x.node s.node (ap (λ (q : Slot). q.node) is))

-- how often the slot stands in the list
abbrev times : Slot → List Slot → ℕ
times s xs = sum_by (λ x. cond (is_at s x) 1 0) xs

times_here : (s x : Slot) (xs : List Slot) → x ≡ s → times s (x ∷ xs) ≡ suc (times s xs)
times_here s x xs is = let one : ◌≡◌ {A = ℕ} (cond (is_at s x) 1 0) 1 = ap (λ t. cond {A = ℕ} t 1 0) (same_at s x is) in let e = sum_by-cons (λ y. cond (is_at s y) 1 0) x xs in omega (arith, one, e)

times_other : (s x : Slot) (xs : List Slot) → is_at s x ≡ false → times s (x ∷ xs) ≡ times s xs
times_other s x xs is = let none : ◌≡◌ {A = ℕ} (cond (is_at s x) 1 0) 0 = ap (λ t. cond {A = ℕ} t 1 0) is in let e = sum_by-cons (λ y. cond (is_at s y) 1 0) x xs in omega (arith, none, e)

-- one that stands there
pub times_in : (s : Slot) (xs : List Slot) → IsIn xs s → 1 ≤ times s xs
times_in s [] i = absurd i
times_in s (x ∷ xs) (inl is) = let e = times_here s x xs is in omega (arith, e)
times_in s (x ∷ xs) (inr i) = let rest = times_in s xs i in by (is_at s x) refl rest
  where
    by : (t : Bool) → is_at s x ≡ t → 1 ≤ times s xs → 1 ≤ times s (x ∷ xs)
    by true is rest = let e = times_here s x xs (at_same s x is) in omega (arith, e)
    by false is rest = let e = times_other s x xs is in omega (arith, e, rest)

in_times : (s : Slot) (xs : List Slot) → 1 ≤ times s xs → IsIn xs s
in_times s [] some_ = absurd (omega (arith, some_))
in_times s (x ∷ xs) some_ = by (is_at s x) refl (in_times s xs)
  where
    by : (t : Bool) → is_at s x ≡ t → (1 ≤ times s xs → IsIn xs s) → (x ≡ s) ⊎ IsIn xs s
    by true is rest = inl (at_same s x is)
    by false is rest = inr (rest (let e = times_other s x xs is in omega (arith, e, some_)))

-- one that doesn't
times_none : (s : Slot) (xs : List Slot) → (IsIn xs s → ⊥) → times s xs ≡ 0
times_none s xs none = by (times s xs) refl
  where
    by : (n : ℕ) → times s xs ≡ n → times s xs ≡ 0
    by zero is = is
    by (suc n) is = absurd (none (in_times s xs (omega (arith, is))))

-- of slots that stand once
times_once : (xs : List Slot) → AreApart xs → (s : Slot) → times s xs ≤ 1
times_once [] apart s = omega arith
times_once (x ∷ xs) apart s = by (is_at s x) refl (times_once xs apart.1 s)
  where
    by : (t : Bool) → is_at s x ≡ t → times s xs ≤ 1 → times s (x ∷ xs) ≤ 1
    by true is rest =
        let same = at_same s x is in
        let none = times_none s xs (λ i. apart.0 s i same) in
        let e = times_here s x xs same in
        omega (arith, e, none)
    by false is rest = let e = times_other s x xs is in omega (arith, e, rest)

once_apart : (xs : List Slot) → ((s : Slot) → times s xs ≤ 1) → AreApart xs
once_apart [] once = tt
once_apart (x ∷ xs) once = (
  λ y i same.
      let some_ = times_in x xs (subst (IsIn xs) (sym same) i) in
      let e = times_here x x xs refl in
      let most = once x in
      omega (arith, some_, e, most),
  once_apart xs (λ s. let most = once s in less s (is_at s x) refl),
)
  where
    less : (s : Slot) (t : Bool) → is_at s x ≡ t → times s xs ≤ 1
    less s true is = let e = times_here s x xs (at_same s x is) in let most = once s in omega (arith, e, most)
    less s false is = let e = times_other s x xs is in let most = once s in omega (arith, e, most)

module _ (xs ys : List Slot) (same : IsPermutation xs ys) where
  same_times : (s : Slot) → times s ys ≡ times s xs
  same_times s = sum_by-IsPermutation (λ x. cond (is_at s x) 1 0) xs ys same

  pub apart_again : AreApart xs → AreApart ys
  apart_again apart = once_apart ys (λ s. let e = same_times s in let most = times_once xs apart s in omega (arith, e, most))

  pub in_again : (s : Slot) → IsIn xs s → IsIn ys s
  in_again s i = in_times s ys (let e = same_times s in let some_ = times_in s xs i in omega (arith, e, some_))

  pub in_before : (s : Slot) → IsIn ys s → IsIn xs s
  in_before s i = in_times s xs (let e = same_times s in let some_ = times_in s ys i in omega (arith, e, some_))
