-- What a search for the end of the first elements that pass a test gives, and parts of lists that ascend.
use Rattle.std.proofs.Common.{◌≡◌, ℕ, zero, suc, ◌<◌, ◌≤◌, List, [], ◌∷◌, ◌++◌, length, take, drop, get_or, Bool, true, false, refl, sym, ap, ◌∙◌, subst, inl, inr, arith}
use Rattle.std.specs.Prelude.{◌⊎◌}
use Rattle.std.specs.List.Sorted.{IsPartitionedBy, IsPartitionPoint}
use Rattle.m3_model.specs.Ascends.{Ascends}
use Rattle.m3_model.specs.Members.{IsIn}
use Rattle.m3_model.proofs.Lists.{IsIn-get_or}
use Rattle.m3_model.proofs.MemberLemmas.{IsIn-append_left}

module _ {X : Type 0} (R : X → X → Type 0) (p : X → Bool) (lower : (x y : X) → R x y → p y ≡ true → p x ≡ true) where
  -- where elements before those that pass pass, the elements that pass come first
  pub partitioned : (xs : List X) → Ascends R xs → IsPartitionedBy p xs
  partitioned [] h i j d le lt pass = absurd (omega arith)
  partitioned (x ∷ xs) h zero zero d le lt pass = pass
  partitioned (x ∷ xs) h zero (suc j) d le lt pass = lower x (get_or xs j d) (h.0 (get_or xs j d) (IsIn-get_or xs j d (omega arith))) pass
  partitioned (x ∷ xs) h (suc i) zero d le lt pass = absurd (omega arith)
  partitioned (x ∷ xs) h (suc i) (suc j) d le lt pass = partitioned xs h.1 i j d (omega arith) (omega arith) pass

module _ {X : Type 0} (p : X → Bool) where
  pub before_passes : (xs : List X) (i : ℕ) → i ≤ length xs → ((k : ℕ) (d : X) → k < i → p (get_or xs k d) ≡ true) → (x : X) → IsIn (take i xs) x → p x ≡ true
  before_passes xs zero bound each x m = absurd m
  before_passes [] (suc i) bound each x m = absurd m
  before_passes (y ∷ xs) (suc i) bound each x (inl e) = subst (λ z. p z ≡ true) e (each 0 y (omega arith))
  before_passes (y ∷ xs) (suc i) bound each x (inr m) = before_passes xs i (omega arith) (λ k d lt. each (suc k) d (omega arith)) x m

  pub behind_fails : (xs : List X) (i : ℕ) → i ≤ length xs → ((k : ℕ) (d : X) → i ≤ k → k < length xs → p (get_or xs k d) ≡ false) → (x : X) → IsIn (drop i xs) x → p x ≡ false
  behind_fails [] zero bound each x m = absurd m
  behind_fails [] (suc i) bound each x m = absurd m
  behind_fails (y ∷ xs) zero bound each x (inl e) = subst (λ z. p z ≡ false) e (each 0 y (omega arith) (omega arith))
  behind_fails (y ∷ xs) zero bound each x (inr m) = behind_fails xs zero (omega arith) (λ k d le lt. each (suc k) d (omega arith) (omega arith)) x m
  behind_fails (y ∷ xs) (suc i) bound each x m = behind_fails xs i (omega arith) (λ k d le lt. each (suc k) d (omega arith) (omega arith)) x m

  pub found_before : (xs : List X) (i : ℕ) → i ≤ length xs → IsPartitionPoint (λ y. p y ≡ true) (λ y. p y ≡ false) xs i → (x : X) → IsIn (take i xs) x → p x ≡ true
  found_before xs i bound h = before_passes xs i bound (λ k d lt. h.0 k d (omega arith) lt)

  pub found_behind : (xs : List X) (i : ℕ) → i ≤ length xs → IsPartitionPoint (λ y. p y ≡ true) (λ y. p y ≡ false) xs i → (x : X) → IsIn (drop i xs) x → p x ≡ false
  found_behind xs i bound h = behind_fails xs i bound (λ k d le lt. h.1 k d le lt)

-- ---- parts of a list that ascends

pub front_ascends : {X : Type 0} (R : X → X → Type 0) (xs ys : List X) → Ascends R (xs ++ ys) → Ascends R xs
front_ascends R [] ys h = tt
front_ascends R (x ∷ xs) ys h = (λ y m. h.0 y (IsIn-append_left xs ys y m), front_ascends R xs ys h.1)

pub back_ascends : {X : Type 0} (R : X → X → Type 0) (xs ys : List X) → Ascends R (xs ++ ys) → Ascends R ys
back_ascends R [] ys h = h
back_ascends R (x ∷ xs) ys h = back_ascends R xs ys h.1
