-- The positions of a group.
use Rattle.std.proofs.Common.{◌≡◌, ℕ, ◌+◌, ◌*◌, ◌-◌, ◌^◌, ◌<◌, ◌≤◌, arith}
use Rattle.std.specs.Prelude.{min}
use Rattle.block_buffer.specs.Spots.{group_of}

pub in_group : (group first end len p : ℕ) → first ≡ min (group * 16) (2 ^ 64 - 1) → end ≡ min (group * 16 + 16) len → len < 2 ^ 64 → first ≤ p → p < end → group_of p ≡ group
in_group group first end len p one two fits low high = omega (arith, one, two, fits, low, high)

pub end_within : (group end len p : ℕ) → end ≡ min (group * 16 + 16) len → p < end → p < len
end_within group end len p two high = omega (arith, two, high)

pub of_group : (group first end len p : ℕ) → first ≡ min (group * 16) (2 ^ 64 - 1) → end ≡ min (group * 16 + 16) len → len < 2 ^ 64 → p < len → group_of p ≡ group → (first ≤ p) × (p < end)
of_group group first end len p one two fits below is = (omega (arith, one, fits, below, is), omega (arith, two, below, is))
