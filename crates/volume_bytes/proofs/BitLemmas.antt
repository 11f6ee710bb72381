-- Bits of rows, one row and one byte after another.
use Rattle.std.proofs.Common.{◌≡◌, ℕ, zero, suc, ◌+◌, ◌*◌, ◌<◌, ◌≤◌, Bool, true, false, cond, ◌==◌, ◌||◌, List, [], ◌∷◌, ◌++◌, length, get_or, refl, sym, ap, ◌∙◌, arith, if◌then◌else◌}
use Rattle.std.specs.List.{list_any}
use Rattle.wire_bytes.specs.m3_model.declared.point.Series.{Series}
use Rattle.wire_bytes.specs.Volumes.{bits_of, is_set, number_of_bits, bits_from}
use Rattle.volume_bytes.specs.Bits.{number_at, AreBitsOf}

swap : (a b c : Bool) → (a || (b || c)) ≡ (b || (a || c))
swap true true c = refl
swap true false c = refl
swap false true c = refl
swap false false c = refl

-- one row more
pub is_set_more : (m : ℕ) (rows : List Series) (s : Series) (k : ℕ) → is_set m (rows ++ s ∷ []) k ≡ (list_any (λ b. b == k) (bits_of m s.id) || is_set m rows k)
is_set_more m [] s k = refl
is_set_more m (r ∷ rows) s k =
    ap (λ (b : Bool). list_any (λ b. b == k) (bits_of m r.id) || b) (is_set_more m rows s k)
    ∙ swap (list_any (λ b. b == k) (bits_of m r.id)) (list_any (λ b. b == k) (bits_of m s.id)) (is_set m rows k)

-- bits that are those of rows make up the same numbers
pub number_is : (rows : List Series) (bits : List Bool) → AreBitsOf rows bits → (bit count : ℕ) → bit + count ≤ 16 * length rows → number_at bits bit count ≡ number_of_bits (16 * length rows) rows bit count
number_is rows bits are bit zero le = refl
number_is rows bits are bit (suc count) le =
    let here = are.set bit (omega (arith, le)) in
    let later = number_is rows bits are (bit + 1) count (omega (arith, le)) in
    ap (λ (b : Bool). (if b then 1 else 0) + 2 * number_at bits (bit + 1) count) here
    ∙ ap (λ n. (if is_set (16 * length rows) rows bit then 1 else 0) + 2 * n) later

bits_suc : (m : ℕ) (rows : List Series) (bit n : ℕ) → bits_from m rows bit (suc n) ≡ bits_from m rows bit n ++ number_of_bits m rows (bit + 8 * n) 8 ∷ []
bits_suc m rows bit zero = ap (λ k. number_of_bits m rows k 8 ∷ []) (omega arith)
bits_suc m rows bit (suc n) =
    let next : bit + 8 + 8 * n ≡ bit + 8 * suc n = omega arith in
    ap (λ (l : List ℕ). number_of_bits m rows bit 8 ∷ l) (bits_suc m rows (bit + 8) n ∙ ap (λ k. bits_from m rows (bit + 8) n ++ number_of_bits m rows k 8 ∷ []) next)

-- one byte more
pub bits_more : (m : ℕ) (rows : List Series) (n : ℕ) → bits_from m rows 0 (n + 1) ≡ bits_from m rows 0 n ++ number_of_bits m rows (8 * n) 8 ∷ []
bits_more m rows n =
    let same : n + 1 ≡ suc n = omega arith in
    let at : 0 + 8 * n ≡ 8 * n = omega arith in
    ap (bits_from m rows 0) same ∙ bits_suc m rows 0 n ∙ ap (λ k. bits_from m rows 0 n ++ number_of_bits m rows k 8 ∷ []) at
