-- Numbers in a fixed count of bytes, the highest byte first.
use Rattle.std.specs.Prelude.{◌≡◌, ℕ, ◌≤◌, List}
use Rattle.byteorder.specs.Endian.{big_bytes}

-- a number from low to high in so many bytes
pub record ANumber (width low high : ℕ) (bytes : List ℕ) : Type 0 where
  pub n : ℕ
  pub least : low ≤ n
  pub most : n ≤ high
  pub spelled : bytes ≡ big_bytes width n
