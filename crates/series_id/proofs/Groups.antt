-- One whole group more in a hash.
use Rattle.std.proofs.Common.{◌≡◌, ℕ, ◌+◌, ◌-◌, ◌*◌, ◌^◌, ◌≤◌, List, [], ◌∷◌, length, take, drop, get_or, ap, arith}
use Rattle.std.proofs.lemmas.List.{take_all}
use Rattle.m3_model.specs.Hash.{stirred, hash_of_groups}

pub groups_more : (hash : ℕ) (xs : List ℕ) → 4 ≤ length xs
    → hash_of_groups (stirred hash (get_or xs 0 0 + 2 ^ 8 * get_or xs 1 0 + 2 ^ 16 * get_or xs 2 0 + 2 ^ 24 * get_or xs 3 0)) (take (length xs - 4) (drop 4 xs)) ≡ hash_of_groups hash xs
groups_more hash [] h = absurd (omega arith)
groups_more hash (a ∷ []) h = absurd (omega arith)
groups_more hash (a ∷ b ∷ []) h = absurd (omega arith)
groups_more hash (a ∷ b ∷ c ∷ []) h = absurd (omega arith)
groups_more hash (a ∷ b ∷ c ∷ d ∷ rest) h = ap (hash_of_groups (stirred hash (a + 2 ^ 8 * b + 2 ^ 16 * c + 2 ^ 24 * d))) (take_all _ rest (omega arith))
