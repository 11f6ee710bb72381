-- Points as bytes.
use Rattle.std.specs.Prelude.{◌≡◌, ℕ, ℤ, ◌+◌, ◌<◌, ◌≤◌, List, ◌++◌, length, IsUtf8, FitsSigned}
use Rattle.std.specs.Int.{w64, cast_unsigned}
use Rattle.byteorder.specs.Endian.{big_bytes}
use Rattle.m3_model.specs.declared.limits.TheConstants.{MOST_ID_BYTES, MOST_NAMESPACES, TIME_END}
use Rattle.wire_bytes.specs.Fields.{Stands}
use Rattle.wire_bytes.specs.declared.points.PointAt.{PointAt}

-- the values that a point may have
pub record IsPoint (ns : ℕ) (id : List ℕ) (t : ℕ) (v : ℤ) : Type 0 where
  pub namespace : ns < MOST_NAMESPACES
  pub some : 1 ≤ length id
  pub most : length id ≤ MOST_ID_BYTES
  pub utf8 : IsUtf8 id
  pub time : t < TIME_END
  pub value : FitsSigned w64 v

-- its namespace, the length of its identifier, the identifier, its time and its value
abbrev pub point_bytes : ℕ → List ℕ → ℕ → ℤ → List ℕ
point_bytes ns id t v = big_bytes 1 ns ++ (big_bytes 2 (length id) ++ (id ++ (big_bytes 8 t ++ big_bytes 8 (cast_unsigned w64 v))))

-- a point's bytes
pub record APoint (bytes : List ℕ) : Type 0 where
  pub ns : ℕ
  pub id : List ℕ
  pub t : ℕ
  pub v : ℤ
  pub values : IsPoint ns id t v
  pub spelled : bytes ≡ point_bytes ns id t v

-- this point stands at the offset, with its identifier and its end where it says
pub record PointStands (bytes : List ℕ) (at : ℕ) (p : PointAt) : Type 0 where
  pub id : List ℕ
  pub values : IsPoint p.ns id p.t p.v
  pub stands : Stands (point_bytes p.ns id p.t p.v) bytes at p.next
  pub named : Stands id bytes p.id_from p.id_to
  pub from : p.id_from ≡ at + 3
