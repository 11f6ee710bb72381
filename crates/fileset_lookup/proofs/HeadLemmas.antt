-- A field at the head of some bytes.
use Rattle.std.proofs.Common.{◌≡◌, ◌≢◌, ℕ, ◌+◌, ◌-◌, ◌<◌, Bool, true, false, ◌==◌, List, ◌++◌, length, take, drop, sym, ap, ◌∙◌, arith, length-append, length-drop}
use Rattle.std.proofs.lemmas.Bool.{eqb-true, eqb-false}
use Rattle.std.proofs.lemmas.List.{drop_at, take_all}
use Rattle.byteorder.specs.Endian.{big_bytes}
use Rattle.wire_bytes.specs.Fields.{Stands}
use Rattle.wire_bytes.proofs.NumberLemmas.{length_number}

-- what is behind a number
pub behind_number : (w n : ℕ) (bytes rest : List ℕ) → bytes ≡ big_bytes w n ++ rest → drop w bytes ≡ rest
behind_number w n bytes rest e = ap (λ (l : List ℕ). drop w l) e ∙ drop_at (big_bytes w n) rest w (length_number w n)

pub number_first : (w n : ℕ) (bytes rest : List ℕ) → bytes ≡ big_bytes w n ++ rest → Stands (big_bytes w n) bytes 0 (0 + w)
number_first w n bytes rest e =
    let long = length_number w n in
    let sum = length-append (big_bytes w n) rest in
    let all : length bytes ≡ length (big_bytes w n ++ rest) = ap length e in
    let offset : 0 + w ≡ w = omega arith in
    record {
      split = e ∙ ap (λ (l : List ℕ). big_bytes w n ++ l) (sym (ap (λ (k : ℕ). drop k bytes) offset ∙ behind_number w n bytes rest e));
      ends = omega (arith, long);
      within = omega (arith, long, sum, all);
    }

-- the rest of a slice from an offset on is what is behind it
pub rest_of : (w : ℕ) (bytes : List ℕ) → take (length bytes - w) (drop w bytes) ≡ drop w bytes
rest_of w bytes = take_all (length bytes - w) (drop w bytes) (rw length-drop (omega arith))

-- what `is_empty` tells
pub filled : (l : List ℕ) (empty : Bool) → empty ≡ (length l == 0) → empty ≡ false → 0 < length l
filled l empty is not = let some : length l ≢ 0 = eqb-false (length l) 0 (sym is ∙ not) in omega (arith, some)

pub unfilled : (l : List ℕ) (empty : Bool) → empty ≡ (length l == 0) → empty ≡ true → length l ≡ 0
unfilled l empty is one = eqb-true (length l) 0 (sym is ∙ one)
