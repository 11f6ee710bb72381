-- How many bytes entries of an index have.
use Rattle.std.proofs.Common.{◌≡◌, inl, inr, ℕ, zero, suc, ◌+◌, ◌*◌, ◌<◌, ◌≤◌, ◌^◌, Bool, true, false, if◌then◌else◌, ◌==◌, List, [], ◌∷◌, ◌++◌, length, take, drop, refl, ap, ◌∙◌, arith, length-append}
use Rattle.byteorder.specs.Endian.{big_bytes}
use Rattle.wire_bytes.specs.m3_model.Members.{IsIn}
use Rattle.wire_bytes.specs.m3_model.declared.limits.TheConstants.{MOST_ID_BYTES}
use Rattle.wire_bytes.specs.m3_model.declared.point.Series.{Series}
use Rattle.wire_bytes.specs.Volumes.{VolumeHead, IsVolume, id_bytes, row_bytes, index_entry, index_from, span_bytes, summaries_from, first_time, last_time}
use Rattle.wire_bytes.proofs.NumberLemmas.{length_number}

pub length_id : (id : List ℕ) → length (id_bytes id) ≡ 2 + length id
length_id id = let a = length_number 2 (length id) in length-append (big_bytes 2 (length id)) id ∙ omega (arith, a)

-- an entry is as long wherever its series stands
pub length_entry : (format at : ℕ) (s : Series) → length (index_entry format at s) ≡ 14 + length s.id + length (span_bytes format s)
length_entry format at s =
    let more : List ℕ = big_bytes 4 (length (row_bytes s)) ++ span_bytes format s in
    let a = length_id s.id in
    let b = length_number 8 at in
    let d = length_number 4 (length (row_bytes s)) in
    let x = length-append (id_bytes s.id) (big_bytes 8 at ++ more) in
    let y = length-append (big_bytes 8 at) more in
    let z = length-append (big_bytes 4 (length (row_bytes s))) (span_bytes format s) in
    omega (arith, a, b, d, x, y, z)

length_span : (format : ℕ) (s : Series) → length (span_bytes format s) ≤ 16
length_span format s = by (format == 2)
  where
    a : List ℕ
    a = big_bytes 8 (first_time s.points)

    b : List ℕ
    b = big_bytes 8 (last_time s.points)

    by : (two : Bool) → length (if two then big_bytes 8 (first_time s.points) ++ big_bytes 8 (last_time s.points) else []) ≤ 16
    by true =
        let x = length_number 8 (first_time s.points) in
        let y = length_number 8 (last_time s.points) in
        let z = length-append (big_bytes 8 (first_time s.points)) (big_bytes 8 (last_time s.points)) in
        omega (arith, x, y, z)
    by false = omega arith

-- the bytes of the entries of these rows
abbrev pub size : ℕ → List Series → ℕ
size format [] = 0
size format (s ∷ rows) = length (index_entry format 0 s) + size format rows

pub length_from : (format at : ℕ) (rows : List Series) → length (index_from format at rows) ≡ size format rows
length_from format at [] = refl
length_from format at (s ∷ rows) =
    let next = at + length (row_bytes s) in
    let later = length_from format next rows in
    let here = length_entry format at s in
    let there = length_entry format 0 s in
    length-append (index_entry format at s) (index_from format next rows) ∙ omega (arith, later, here, there)

pub size_append : (format : ℕ) (xs ys : List Series) → size format (xs ++ ys) ≡ size format xs + size format ys
size_append format [] ys = omega arith
size_append format (x ∷ xs) ys = let later = size_append format xs ys in omega (arith, later)

-- so many rows of which no summary is kept are passed
pub skip : (format others at : ℕ) (rows : List Series) → summaries_from format others at rows ≡ summaries_from format 0 (at + size format (take others rows)) (drop others rows)
skip format zero at rows = let e : at ≡ at + 0 = omega arith in ap (λ (n : ℕ). summaries_from format 0 n rows) e
skip format (suc others) at [] = refl
skip format (suc others) at (s ∷ rows) =
    let len = length (index_entry format 0 s) in
    let e : at + len + size format (take others rows) ≡ at + (len + size format (take others rows)) = omega arith in
    skip format others (at + len) rows ∙ ap (λ (n : ℕ). summaries_from format 0 n (drop others rows)) e

most_size : (format : ℕ) (rows : List Series) → ((s : Series) → IsIn rows s → length s.id ≤ MOST_ID_BYTES) → size format rows ≤ 542 * length rows
most_size format [] most = omega arith
most_size format (s ∷ rows) most =
    let later = most_size format rows (λ r m. most r (inr m)) in
    let here = length_entry format 0 s in
    let span = length_span format s in
    let id = most s (inl refl) in
    omega (arith, later, here, span, id)

-- offsets in the index of a volume fit eight bytes
pub offsets_fit : (v : VolumeHead) (rows done later : List Series) → IsVolume v rows → rows ≡ done ++ later → size v.format done < 2 ^ 64
offsets_fit v rows done later is split =
    let all = most_size v.format rows (λ s m. (is.row s m).most) in
    let some : size v.format rows ≡ size v.format done + size v.format later = ap (size v.format) split ∙ size_append v.format done later in
    let few = is.counted in
    omega (arith, all, some, few)
