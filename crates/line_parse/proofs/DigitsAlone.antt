-- The number that digits alone write.
use Rattle.std.proofs.Common.{◌≡◌, ℕ, ◌^◌, ◌<◌, List, [], ◌∷◌, ◌++◌, length, get_or, false, Some, refl, sym, ap, subst, ◌∙◌, arith, append-nil, lt-ltb, ne_eqb}
use Rattle.std.specs.Char.{digit_value}
use Rattle.std.specs.Str.Parse.{AllDigits, IsNumeral, digits_value, without_leading_plus}
use Rattle.fast_float.specs.Text.{Parts, scan, IsWellFormed}
use Rattle.fast_float.proofs.Writing.{scan-text_of}
use Rattle.serde_json.specs.Data.{unsigned}
use Rattle.serde_json.specs.Read.{number_of, number_from}

abbrev digits : List ℕ → Parts
digits ds = record { whole = ds; point = false; fraction = []; exponent_negative = false; exponent = []; len = length (ds ++ []) }

scan-digits : (ds : List ℕ) → AllDigits 10 ds → scan ds ≡ digits ds
scan-digits ds h =
    let formed : IsWellFormed (digits ds) = record { whole_digits = h; fraction_digits = tt; exponent_digits = tt; no_point = λ _. refl; no_exponent = λ _. refl; len_is = refl } in
    ap scan (sym (append-nil ds)) ∙ scan-text_of (digits ds) formed

no_minus : (ds : List ℕ) → AllDigits 10 ds → 0 < length ds → get_or ds 0 0 ≡ 45 → ⊥
no_minus [] h some e = omega arith
no_minus (d ∷ ds) h some e = let digit : digit_value d < 10 = h.0 in let is : d ≡ 45 = e in grind arith

-- digits alone write an integer, where it fits 64 bits
pub number_of-digits : (ds : List ℕ) → IsNumeral 10 ds → digits_value 10 ds < 2 ^ 64 → number_of ds ≡ Some (unsigned (digits_value 10 ds))
unfolding number_of
number_of-digits ds h fits =
    let read : number_from false (digits ds) ≡ Some (unsigned (digits_value 10 ds)) = rw (append-nil ds, lt-ltb _ _ h.0, lt-ltb _ _ fits) in
    rw (ne_eqb (get_or ds 0 0) 45 (no_minus ds h.1 h.0)) (ap (number_from false) (scan-digits ds h.1) ∙ read)

-- so does a text that reads as an integer of 64 bits without a plus
pub number_of-parsed : (bs : List ℕ) (n : ℕ) → (get_or bs 0 0 ≡ 43 → ⊥)
    → (IsNumeral 10 (without_leading_plus bs) × (digits_value 10 (without_leading_plus bs) < 2 ^ 64)) × (n ≡ digits_value 10 (without_leading_plus bs)) → number_of bs ≡ Some (unsigned n)
number_of-parsed bs n plain h =
    let same : without_leading_plus bs ≡ bs = rw (ne_eqb (get_or bs 0 0) 43 plain) refl in
    let own = subst (λ ds. (IsNumeral 10 ds × (digits_value 10 ds < 2 ^ 64)) × (n ≡ digits_value 10 ds)) same h in
    number_of-digits bs own.0.0 own.0.1 ∙ ap (λ m. Some (unsigned m)) (sym own.1)
