-- Texts of numbers, as `parse` reads them.
use Rattle.std.proofs.Common.{◌≡◌, ℕ, ◌<◌, ◌^◌, List, [], ◌∷◌, true, refl, ap}
use Rattle.std.specs.Prelude.{Option, Some, None, nat_lt, ◌&&◌}
use Rattle.std.specs.List.{list_all}
use Rattle.std.specs.Char.{digit_value}
use Rattle.std.specs.Str.Parse.{AllDigits, IsNumeral, ParsesUnsigned, ExplainsUnsignedError, HasUnsignedDigitsIfOk, digits_value, without_leading_plus}
use Rattle.std.proofs.lemmas.Bool.{false_from_ne_true, lt-ltb, ltb-true}
use Rattle.clap.specs.Words.{ReadsOne, Text}
use Rattle.clap.specs.ValueTests.{is_numeral}
use Rattle.clap.proofs.WalkLemmas.{both}
use Rattle.command_words.specs.Tasks.{number_by}

digits_from : (ds : List ℕ) → list_all (λ d. nat_lt (digit_value d) 10) ds ≡ true → AllDigits 10 ds
digits_from [] e = tt
digits_from (d ∷ ds) e = let parts = both _ _ e in (ltb-true _ _ parts.0, digits_from ds parts.1)

pub digits_back : (ds : List ℕ) → AllDigits 10 ds → list_all (λ d. nat_lt (digit_value d) 10) ds ≡ true
digits_back [] h = refl
digits_back (d ∷ ds) h = rw (lt-ltb (digit_value d) 10 h.0) (digits_back ds h.1)

-- one digit or more, and the number below 2^32
pub fits : (ds : List ℕ) → IsNumeral 10 ds → digits_value 10 ds < 2 ^ 32 → (is_numeral ds && nat_lt (digits_value 10 ds) (2 ^ 32)) ≡ true
fits ds h low = rw (lt-ltb _ _ h.0, digits_back ds h.1, lt-ltb _ _ low) refl

fits_back : (ds : List ℕ) → (is_numeral ds && nat_lt (digits_value 10 ds) (2 ^ 32)) ≡ true → IsNumeral 10 ds × (digits_value 10 ds < 2 ^ 32)
fits_back ds e =
    let parts = both _ _ e in
    let numeral = both _ _ parts.0 in
    ((ltb-true _ _ numeral.0, digits_from ds numeral.1), ltb-true _ _ parts.1)

-- what `parse` reads of a text
pub number_read : (t : Text) (r : Option ℕ) → ReadsOne (λ bs o. ParsesUnsigned 32 10 bs o × ExplainsUnsignedError 10 bs o × HasUnsignedDigitsIfOk bs o) t r → r ≡ number_by t
number_read t (Some v) (is, why, digits) = rw (fits (without_leading_plus t) is.0.0 is.0.1) (ap Some is.1)
number_read t None (e, said) =
    let no = false_from_ne_true _ (λ yes. said.0 (fits_back (without_leading_plus t) yes)) in
    rw no refl
