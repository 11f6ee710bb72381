-- Lists and tests that differ.
use Rattle.std.proofs.Common.{◌≡◌, ℕ, ◌+◌, List, [], ◌∷◌, ◌++◌, length, length-append, ap, arith, true, false}

-- two lists of different lengths are none
pub longer : {X : Type 0} (xs ys : List X) (n m : ℕ) → length xs ≡ n → length ys ≡ m → (n ≡ m → ⊥) → xs ≡ ys → ⊥
longer xs ys n m of_xs of_ys differ is = differ (let same = ap length is in omega (arith, of_xs, of_ys, same))

-- nor are they behind others
pub longer_behind : {X : Type 0} (front xs ys : List X) (n m : ℕ) → length xs ≡ n → length ys ≡ m → (n ≡ m → ⊥) → front ++ xs ≡ front ++ ys → ⊥
longer_behind front xs ys n m of_xs of_ys differ is =
    differ (let same = ap length is in let left = length-append front xs in let right = length-append front ys in omega (arith, of_xs, of_ys, same, left, right))

pub true_not : true ≡ false → ⊥
true_not e = cc

pub false_not : false ≡ true → ⊥
false_not e = cc

-- what ends with something isn't empty
pub not_nothing : {X : Type 0} (xs : List X) (x : X) → [] ≡ xs ++ x ∷ [] → ⊥
not_nothing xs x is = let size = ap length is in let parts = length-append xs (x ∷ []) in omega (arith, size, parts)

-- the first byte of the first line
unfoldable pub first_byte : List (List ℕ) → ℕ
first_byte ((b ∷ line) ∷ lines) = b
first_byte _ = 0
