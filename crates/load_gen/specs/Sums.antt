-- Sums that fit.
use Rattle.std.specs.Prelude.{ℕ, ◌*◌, ◌^◌, ℤ, ◌≤ℤ◌, neg_ℤ, pos}

-- the sum of at most so many 64-bit values
abbrev pub IsSumOfFew : ℕ → ℤ → Type 0
IsSumOfFew count sum = (neg_ℤ (pos (count * 2 ^ 63)) ≤ℤ sum) × (sum ≤ℤ pos (count * 2 ^ 63))
