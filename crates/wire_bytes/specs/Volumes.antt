-- A volume as bytes: what stands in each of its seven files is a function of its head and of its rows.
use Rattle.std.specs.Prelude.{◌≡◌, ◌⊎◌, ℕ, ℤ, zero, suc, ◌+◌, ◌*◌, ◌%◌, ◌<◌, ◌≤◌, ◌^◌, Bool, if◌then◌else◌, ◌==◌, List, [], ◌∷◌, ◌++◌, length, drop, flat_map, map, sum_by, IsUtf8, FitsSigned}
use Rattle.std.specs.List.{list_any}
use Rattle.std.specs.Int.{w64, cast_unsigned}
use Rattle.byteorder.specs.Endian.{big_bytes, big_number}
use Rattle.sha2.specs.Sha256.{sha256}
use Rattle.m3_model.specs.Ascends.{Ascends}
use Rattle.m3_model.specs.Members.{IsIn}
use Rattle.m3_model.specs.Tags.{IsBelow}
use Rattle.m3_model.specs.declared.limits.TheConstants.{DURATION_END, MOST_ID_BYTES, MOST_NAMESPACES, NUMBER_END, TIME_END}
use Rattle.m3_model.specs.declared.point.Point.{Point}
use Rattle.m3_model.specs.declared.point.Series.{Series}

-- which volume of a disk it is: its format, its namespace, the start and the size of its block, and its number
pub record VolumeHead : Type 0 where
  pub format : ℕ
  pub ns : ℕ
  pub start : ℕ
  pub size : ℕ
  pub number : ℕ

-- ---- what a volume may have

-- a series of a block: its times ascend and lie in the block, and each of its counts fits its field
pub record IsRow (start size : ℕ) (s : Series) : Type 0 where
  pub some : 1 ≤ length s.id
  pub most : length s.id ≤ MOST_ID_BYTES
  pub utf8 : IsUtf8 s.id
  pub counted : length s.points < 2 ^ 32
  pub long : 6 + length s.id + 16 * length s.points < 2 ^ 32
  pub low : (x : ℕ × ℤ) → IsIn s.points x → start ≤ x.0
  pub high : (x : ℕ × ℤ) → IsIn s.points x → x.0 < start + size
  pub time : (x : ℕ × ℤ) → IsIn s.points x → x.0 < TIME_END
  pub value : (x : ℕ × ℤ) → IsIn s.points x → FitsSigned w64 x.1
  pub times : Ascends (λ a b. a.0 < b.0) s.points

-- in format 2 each series has a point; in format 1 one may have none
abbrev pub IsFilled : ℕ → Series → Type 0
IsFilled format s = format ≡ 2 → 1 ≤ length s.points

-- the number of points of all rows
abbrev pub count_of : List Series → ℕ
count_of rows = sum_by (λ s. length s.points) rows

-- ---- the data and its index

-- a time and a value
abbrev pub pair_bytes : ℕ × ℤ → List ℕ
pair_bytes x = big_bytes 8 x.0 ++ big_bytes 8 (cast_unsigned w64 x.1)

-- an identifier behind its length
abbrev pub id_bytes : List ℕ → List ℕ
id_bytes id = big_bytes 2 (length id) ++ id

-- a series in the data: its identifier, the number of its points, and these
abbrev pub row_bytes : Series → List ℕ
row_bytes s = id_bytes s.id ++ (big_bytes 4 (length s.points) ++ flat_map pair_bytes s.points)

abbrev pub data_bytes : List Series → List ℕ
data_bytes rows = flat_map row_bytes rows

abbrev pub first_time : List (ℕ × ℤ) → ℕ
first_time [] = 0
first_time (x ∷ xs) = x.0

abbrev pub last_time : List (ℕ × ℤ) → ℕ
last_time [] = 0
last_time (x ∷ []) = x.0
last_time (x ∷ xs) = last_time xs

-- in format 2 an entry of the index ends with the first and the last time of its series
abbrev pub span_bytes : ℕ → Series → List ℕ
span_bytes format s = if format == 2 then big_bytes 8 (first_time s.points) ++ big_bytes 8 (last_time s.points) else []

-- a series in the index, which begins at this offset of the data
abbrev pub index_entry : ℕ → ℕ → Series → List ℕ
index_entry format at s = id_bytes s.id ++ (big_bytes 8 at ++ (big_bytes 4 (length (row_bytes s)) ++ span_bytes format s))

-- the series from this offset of the data on
abbrev pub index_from : ℕ → ℕ → List Series → List ℕ
index_from format at [] = []
index_from format at (s ∷ rows) = index_entry format at s ++ index_from format (at + length (row_bytes s)) rows

abbrev pub index_bytes : ℕ → List Series → List ℕ
index_bytes format rows = index_from format 0 rows

-- every sixteenth series with the offset of its entry in the index; so many others come before the first of these
abbrev pub summaries_from : ℕ → ℕ → ℕ → List Series → List ℕ
summaries_from format others at [] = []
summaries_from format zero at (s ∷ rows) = (id_bytes s.id ++ big_bytes 8 at) ++ summaries_from format 15 (at + length (index_entry format 0 s)) rows
summaries_from format (suc others) at (s ∷ rows) = summaries_from format others (at + length (index_entry format 0 s)) rows

abbrev pub summaries_bytes : ℕ → List Series → List ℕ
summaries_bytes format rows = summaries_from format 0 0 rows

-- ---- the bloom filter

-- the bits of an identifier among m: the four numbers in the first 16 bytes of its digest, each modulo m
abbrev pub bits_of : ℕ → List ℕ → List ℕ
bits_of m id = let d = sha256 id in big_number 4 d % m ∷ big_number 4 (drop 4 d) % m ∷ big_number 4 (drop 8 d) % m ∷ big_number 4 (drop 12 d) % m ∷ []

-- whether this bit of m is one of a series
abbrev pub is_set : ℕ → List Series → ℕ → Bool
is_set m rows bit = list_any (λ (s : Series). list_any (λ b. b == bit) (bits_of m s.id)) rows

-- so many bits from this one on as a number, the first of them the lowest
abbrev pub number_of_bits : ℕ → List Series → ℕ → ℕ → ℕ
number_of_bits m rows bit zero = 0
number_of_bits m rows bit (suc count) = (if is_set m rows bit then 1 else 0) + 2 * number_of_bits m rows (bit + 1) count

-- so many bytes of bits, from this bit on
abbrev pub bits_from : ℕ → List Series → ℕ → ℕ → List ℕ
bits_from m rows bit zero = []
bits_from m rows bit (suc count) = number_of_bits m rows bit 8 ∷ bits_from m rows (bit + 8) count

-- 16 bits a series: their number, and then they
abbrev pub bloom_bytes : List Series → List ℕ
bloom_bytes rows = let m = 16 * length rows in big_bytes 4 m ++ bits_from m rows 0 (2 * length rows)

-- ---- all seven

-- the info of a volume of so many series and points
abbrev pub info_of : VolumeHead → ℕ → ℕ → List ℕ
info_of v series points = big_bytes 1 v.format ++ (big_bytes 1 v.ns ++ (big_bytes 8 v.start ++ (big_bytes 8 v.size ++ (big_bytes 8 v.number ++ (big_bytes 4 series ++ big_bytes 8 points)))))

abbrev pub info_bytes : VolumeHead → List Series → List ℕ
info_bytes v rows = info_of v (length rows) (count_of rows)

-- the digests of info, summaries, index, data and bloom filter
abbrev pub digests_bytes : VolumeHead → List Series → List ℕ
digests_bytes v rows = sha256 (info_bytes v rows) ++ (sha256 (summaries_bytes v.format rows) ++ (sha256 (index_bytes v.format rows) ++ (sha256 (data_bytes rows) ++ sha256 (bloom_bytes rows))))

-- an open gate and the digest of these bytes
abbrev pub checkpoint_bytes : List ℕ → List ℕ
checkpoint_bytes bytes = 1 ∷ sha256 bytes

-- the files of a volume
pub data Part : Type 0 where
  Info : Part
  Summaries : Part
  Index : Part
  Data : Part
  Bloom : Part
  Digests : Part
  Checkpoint : Part

-- the bytes of one of them
abbrev pub part_bytes : Part → VolumeHead → List Series → List ℕ
part_bytes Info v rows = info_bytes v rows
part_bytes Summaries v rows = summaries_bytes v.format rows
part_bytes Index v rows = index_bytes v.format rows
part_bytes Data v rows = data_bytes rows
part_bytes Bloom v rows = bloom_bytes rows
part_bytes Digests v rows = digests_bytes v rows
part_bytes Checkpoint v rows = checkpoint_bytes (digests_bytes v rows)

-- what a head has lies within the bounds of its fields
pub record IsHead (v : VolumeHead) : Type 0 where
  pub format : (v.format ≡ 1) ⊎ (v.format ≡ 2)
  pub ns : v.ns < MOST_NAMESPACES
  pub start : v.start < TIME_END
  pub size_low : 1 ≤ v.size
  pub size_high : v.size < DURATION_END
  pub number : v.number < NUMBER_END

-- there is a series, they ascend by identifier, and each number of a part fits its field
pub record IsVolume (v : VolumeHead) (rows : List Series) : Type 0 where
  pub head : IsHead v
  pub some : 1 ≤ length rows
  pub counted : 16 * length rows < 2 ^ 32
  pub points : count_of rows < 2 ^ 64
  pub row : (s : Series) → IsIn rows s → IsRow v.start v.size s
  pub filled : (s : Series) → IsIn rows s → IsFilled v.format s
  pub small : length (data_bytes rows) < 2 ^ 64
  pub ids : Ascends (λ a b. IsBelow a.id b.id) rows

-- the points of a series of this namespace
abbrev pub points_of_row : ℕ → Series → List Point
points_of_row ns s = map (λ x. record { ns = ns; id = s.id; t = x.0; v = x.1 }) s.points

-- the points of rows of this namespace
abbrev pub points_of_rows : ℕ → List Series → List Point
points_of_rows ns rows = flat_map (points_of_row ns) rows
