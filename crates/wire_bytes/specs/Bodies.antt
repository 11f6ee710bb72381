-- What follows an entry's first byte.
use Rattle.std.specs.Prelude.{◌≡◌, ℕ, zero, suc, ◌≤◌, List, [], ◌++◌}
use Rattle.byteorder.specs.Endian.{big_bytes}
use Rattle.m3_model.specs.declared.limits.TheConstants.{MOST_PAGE_POINTS}
use Rattle.wire_bytes.specs.Points.{APoint}

-- so many points, one after another
pub record PointThen (Later : List ℕ → Type 0) (bytes : List ℕ) : Type 0 where
  pub a : List ℕ
  pub b : List ℕ
  pub point : APoint a
  pub later : Later b
  pub joined : bytes ≡ a ++ b

abbrev pub SomePoints : ℕ → List ℕ → Type 0
SomePoints zero bytes = bytes ≡ []
SomePoints (suc n) bytes = PointThen (SomePoints n) bytes

-- a count and so many points
pub record SomeCounted (bytes : List ℕ) : Type 0 where
  pub n : ℕ
  pub b : List ℕ
  pub least : 1 ≤ n
  pub most : n ≤ MOST_PAGE_POINTS
  pub points : SomePoints n b
  pub joined : bytes ≡ big_bytes 2 n ++ b
