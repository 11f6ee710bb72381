-- A short numeral without an exponent is a number: it is below 10 ^ 300, which a float of 64 bits holds.
use Rattle.std.proofs.Common.{◌≡◌, ℕ, zero, suc, ◌+◌, ◌*◌, ◌^◌, ◌<◌, ◌≤◌, Bool, true, false, cond, eqb, ltb, T, List, [], ◌∷◌, ◌++◌, length, get_or, drop, Option, Some, is_some, refl, sym, subst, ◌∙◌, inl, inr, arith, length-append, length-drop, get_or-drop, ne_eqb, le-mul_of_pos_right, true≢false}
use Rattle.std.proofs.Math.Nat.{one-le-pow, pow-le-pow_right}
use Rattle.std.proofs.lemmas.Bool.{cases_Bool, cases_lt, eqb-true}
use Rattle.std.proofs.lemmas.List.{get_or_past}
use Rattle.std.proofs.lemmas.List.Sums.{prefix_len-le-length}
use Rattle.std.proofs.lemmas.Int.Digits.{digits_value-lt}
use Rattle.std.specs.Char.{is_ascii_digit}
use Rattle.std.specs.Float.{binary64, float_is_finite}
use Rattle.std.specs.Float.Numeral.{digits_end, has_exponent, scan_numeral}
use Rattle.std.specs.Str.Parse.{AllDigits, digits_value}
use Rattle.fast_float.specs.Text.{Parts, scan, nearest}
use Rattle.fast_float.proofs.Reading.{scan_numeral-AllDigits, scan_numeral-digits_fit}
use Rattle.serde_json.specs.Data.{Num}
use Rattle.serde_json.specs.Read.{number_of, number_from, float_of}
use lib.Ieee.{Float, Format, nan, inf, fin, prec, low, emax, odd, units, round, lt, le, eq}
use lib.Ieee.Fits.{round_is}
use lib.Ieee.Order.{round_mono}

-- ---- a float that is no larger than one that is finite

finite_cases : (f : Format) (s : Bool) (q k : ℕ) (b : Bool) → float_is_finite (cond b (odd (suc (prec f)) s q k (low f)) (inf s)) ≡ b
unfolding odd float_is_finite
finite_cases f s zero k true = refl
finite_cases f s (suc q) k true = refl
finite_cases f s q k false = refl

finite-units : (f : Format) (s : Bool) (q k : ℕ) → float_is_finite (units f s q k) ≡ ltb (q * 2 ^ k) (2 ^ (low f + suc (emax f)))
unfolding units
finite-units f s q k = finite_cases f s q k _

under_finite : (c : Bool) (x z : Float) → T (le (cond c x (inf false)) z) → float_is_finite z ≡ true → c ≡ true
unfolding le lt eq float_is_finite
under_finite true x z t e = refl
under_finite false x nan t e = absurd t
under_finite false x (inf s) t e = absurd (true≢false (sym e))
under_finite false x (fin s m d) t e = absurd t

le_units : (f : Format) (s : Bool) (q k : ℕ) (y : Float) → T (le (units f false q k) y) → float_is_finite y ≡ true → float_is_finite (units f s q k) ≡ true
unfolding units
le_units f s q k y t finite = finite-units f s q k ∙ under_finite _ _ y t finite

le_round : (f : Format) (s : Bool) (a b : ℕ) (y : Float) → T (le (round f false a b) y) → float_is_finite y ≡ true → float_is_finite (round f s a b) ≡ true
le_round f s a b y t finite = rw (round_is f s a b) (le_units f s _ _ y (subst (λ (x : Float). T (le x y)) (round_is f false a b) t) finite)

-- ---- the digits of a numeral

finite-top : float_is_finite (round binary64 false (10 ^ 300) 1) ≡ true
unfolding round float_is_finite
finite-top = refl

finite_below : (s : Bool) (m n k : ℕ) → m ≡ 10 ^ 300 → n ≤ m → 0 < k → float_is_finite (round binary64 s n k) ≡ true
finite_below s m n k is few some =
    let wide : n * 1 ≤ m * k = grind (arith, le-mul_of_pos_right m some) in
    le_round binary64 s n k (round binary64 false m 1) (round_mono binary64 n k m 1 some (omega arith) wide) (rw is finite-top)

-- the digits of a numeral that has no more than 300, and no exponent
finite_digits : (s : Bool) (ds : List ℕ) (k : ℕ) → AllDigits 10 ds → length ds ≤ 300 → float_is_finite (round binary64 s (digits_value 10 ds * 1) (10 ^ k)) ≡ true
finite_digits s ds k digits few =
    let below : digits_value 10 ds < 10 ^ length ds = digits_value-lt 10 ds digits in
    let most : 10 ^ length ds ≤ 10 ^ 300 = pow-le-pow_right (omega arith) few in
    finite_below s (10 ^ 300) (digits_value 10 ds * 1) (10 ^ k) refl (omega (arith, below, most)) (one-le-pow k 10 (omega arith))

digits_append : (ds es : List ℕ) → AllDigits 10 ds → AllDigits 10 es → AllDigits 10 (ds ++ es)
digits_append [] es h k = k
digits_append (d ∷ ds) es h k = (h.0, digits_append ds es h.1 k)

finite_parts : (s : Bool) (p : Parts) → AllDigits 10 p.whole → AllDigits 10 p.fraction → length p.whole + length p.fraction ≤ 300 → p.exponent ≡ [] → p.exponent_negative ≡ false
    → float_is_finite (nearest binary64 s p) ≡ true
finite_parts s p whole fraction few none positive =
    let all : AllDigits 10 (p.whole ++ p.fraction) = digits_append p.whole p.fraction whole fraction in
    rw (none, positive) (finite_digits s (p.whole ++ p.fraction) (length p.fraction + 0) all (omega (arith, length-append p.whole p.fraction)))

-- ---- what a scan finds

abbrev HasNoExponent : List ℕ → Type 0
HasNoExponent bs = (i : ℕ) → i < length bs → get_or bs i 0 ≤ 57

no_exponent : (bs : List ℕ) → HasNoExponent bs → (at : ℕ) → has_exponent bs at ≡ false
no_exponent bs h at =
    let low : get_or bs at 0 ≤ 57 = elim (cases_lt at (length bs)) [ inl a ↦ h at a | inr a ↦ omega (arith, get_or_past bs at 0 a) ] in
    rw (ne_eqb (get_or bs at 0) 101 (λ e. omega arith), ne_eqb (get_or bs at 0) 69 (λ e. omega arith))

digits_within : (bs : List ℕ) (from : ℕ) → from ≤ length bs → digits_end bs from ≤ length bs
digits_within bs from h = omega (arith, prefix_len-le-length is_ascii_digit (drop from bs), length-drop from bs)

point_within : (bs : List ℕ) (a : ℕ) → eqb (get_or bs a 0) 46 ≡ true → a + 1 ≤ length bs
point_within bs a e = elim (cases_lt a (length bs)) [ inl l ↦ omega arith | inr l ↦ absurd (omega (arith, get_or_past bs a 0 l, eqb-true (get_or bs a 0) 46 e)) ]

fraction_within : (bs : List ℕ) (a : ℕ) → a ≤ length bs → cond (eqb (get_or bs a 0) 46) (digits_end bs (a + 1)) a ≤ length bs
fraction_within bs a h = elim (cases_Bool (eqb (get_or bs a 0) 46)) [ inl e ↦ rw e (digits_within bs (a + 1) (point_within bs a e)) | inr e ↦ rw e h ]

record IsShort (p : Parts) : Type 0 where
  whole : AllDigits 10 p.whole
  fraction : AllDigits 10 p.fraction
  few : length p.whole + length p.fraction ≤ 300
  none : p.exponent ≡ []
  positive : p.exponent_negative ≡ false

scan_short : (bs : List ℕ) → length bs ≤ 300 → HasNoExponent bs → IsShort (scan bs)
unfolding scan_numeral
scan_short bs short h =
    let a = digits_end bs 0 in
    let b = cond (eqb (get_or bs a 0) 46) (digits_end bs (a + 1)) a in
    let within : b ≤ length bs = fraction_within bs a (digits_within bs 0 (omega arith)) in
    let none : has_exponent bs b ≡ false = no_exponent bs h b in
    let digits = scan_numeral-AllDigits bs in
    let len : (scan_numeral bs).len ≤ length bs = rw none within in
    record {
      whole = digits.0;
      fraction = digits.1;
      few = omega (arith, scan_numeral-digits_fit bs, len);
      none = rw none refl;
      positive = rw none refl;
    }

-- ---- its number

either_some : (c : Bool) (n : Num) (o : Option Num) → is_some o ≡ true → is_some (cond c (Some n) o) ≡ true
either_some true n o h = refl
either_some false n o h = h

float_some : (s : Bool) (p : Parts) → float_is_finite (nearest binary64 s p) ≡ true → is_some (float_of s p) ≡ true
float_some s p finite = rw finite refl

from_short : (s : Bool) (p : Parts) → IsShort p → is_some (number_from s p) ≡ true
from_short true p h = either_some _ _ _ (float_some true p (finite_parts true p h.whole h.fraction h.few h.none h.positive))
from_short false p h = either_some _ _ _ (float_some false p (finite_parts false p h.whole h.fraction h.few h.none h.positive))

both_some : (c : Bool) (o p : Option Num) → is_some o ≡ true → is_some p ≡ true → is_some (cond c o p) ≡ true
both_some true o p h k = h
both_some false o p h k = k

no_exponent_after : (bs : List ℕ) → HasNoExponent bs → HasNoExponent (drop 1 bs)
no_exponent_after bs h i l = rw (get_or-drop 1 bs i 0) (h (1 + i) (omega (arith, length-drop 1 bs)))

-- whatever else it is: no more than 300 bytes of which none is above a `9`
pub number_of-short : (bs : List ℕ) → length bs ≤ 300 → HasNoExponent bs → is_some (number_of bs) ≡ true
unfolding number_of
number_of-short bs short h =
    both_some _ _ _ (from_short true _ (scan_short (drop 1 bs) (omega (arith, length-drop 1 bs)) (no_exponent_after bs h))) (from_short false _ (scan_short bs short h))
