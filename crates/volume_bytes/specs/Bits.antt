-- Bits in their order.
use Rattle.std.specs.Prelude.{◌≡◌, ℕ, zero, suc, ◌+◌, ◌*◌, ◌<◌, Bool, false, if◌then◌else◌, List, length, get_or}
use Rattle.wire_bytes.specs.m3_model.declared.point.Series.{Series}
use Rattle.wire_bytes.specs.Volumes.{is_set}

-- so many of the bits from this one on as a number, the first of them the lowest
abbrev pub number_at : List Bool → ℕ → ℕ → ℕ
number_at bits at zero = 0
number_at bits at (suc count) = (if get_or bits at false then 1 else 0) + 2 * number_at bits (at + 1) count

-- the bits are those of the rows' identifiers, 16 for each row
pub record AreBitsOf (rows : List Series) (bits : List Bool) : Type 0 where
  pub long : length bits ≡ 16 * length rows
  pub set : (k : ℕ) → k < 16 * length rows → get_or bits k false ≡ is_set (16 * length rows) rows k
