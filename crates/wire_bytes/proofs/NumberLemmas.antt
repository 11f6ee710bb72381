-- The bytes of numbers: their parts, and which numbers begin with which bytes.
use Rattle.std.proofs.Common.{◌≡◌, ◌⊎◌, inl, inr, ℕ, zero, suc, ◌+◌, ◌-◌, ◌*◌, ◌/◌, ◌%◌, ◌^◌, ◌<◌, ◌≤◌, List, [], ◌∷◌, ◌++◌, length, take, drop, get_or, refl, sym, ap, subst, ◌∙◌, arith, length-append, length-drop}
use Rattle.std.proofs.Math.Nat.{div-div-eq-div-mul, div-one, mod-eq_of_lt, one-le-pow, pow-suc, div-lt_iff_lt-mul, le-div_iff_mul-le, mul-div_cancel, mul-le-mul_right, div-mul-le_self, mul_assoc, mul_comm, mul-add-mod_self_right, mul-add-div_right, pow-le-pow_right}
use Rattle.std.proofs.lemmas.List.{take_at, take-append-drop, take_all, drop-drop, take_more, nil_from_length}
use Rattle.std.proofs.lemmas.Bool.{cases_eq}
use Rattle.std.proofs.lemmas.Nat.{pow-add, div-mul-add}
use Rattle.std.specs.Int.{byte_at}
use Rattle.byteorder.specs.Endian.{big_bytes, big_from}
use Rattle.byteorder.specs.Numbers.{length-bytes_high_first, big_number-reads_back, big_from-cons, big_from-lt}
use Rattle.wire_bytes.specs.Fields.{Stands, Begins, GoesOn, Misfits}
use Rattle.wire_bytes.specs.Numbers.{ANumber}
use Rattle.wire_bytes.proofs.FieldLemmas.{EndsItself}

pub length_number : (w n : ℕ) → length (big_bytes w n) ≡ w
length_number w n = length-bytes_high_first w n

pow_pos : (k : ℕ) → 0 < 256 ^ k
pow_pos k = let h = one-le-pow k 256 (omega arith) in omega arith

byte_of : (k n : ℕ) → byte_at k n ≡ n / 256 ^ k % 256
byte_of zero n = ap (λ (y : ℕ). y % 256) (sym (div-one n))
byte_of (suc k) n = refl

byte_above : (i k n : ℕ) → byte_at (i + k) n ≡ byte_at i (n / 256 ^ k)
byte_above i k n = byte_of (i + k) n ∙ ap (λ (p : ℕ). n / p % 256) (pow-add 256 i k ∙ mul_comm (256 ^ i) (256 ^ k)) ∙ ap (λ (q : ℕ). q % 256) (sym (div-div-eq-div-mul n (256 ^ k) (256 ^ i))) ∙ sym (byte_of i (n / 256 ^ k))

-- a number's bytes are those of its upper part, and then the lower ones
pub bytes_split : (i k n : ℕ) → big_bytes (i + k) n ≡ big_bytes i (n / 256 ^ k) ++ big_bytes k n
bytes_split zero k n = let e : 0 + k ≡ k = omega arith in ap (λ (j : ℕ). big_bytes j n) e
bytes_split (suc i) k n =
    let e : suc i + k ≡ suc (i + k) = omega arith in
    ap (λ (j : ℕ). big_bytes j n) e
    ∙ ap (λ (b : ℕ). b ∷ big_bytes (i + k) n) (byte_above i k n)
    ∙ ap (λ (l : List ℕ). byte_at i (n / 256 ^ k) ∷ l) (bytes_split i k n)

-- one byte more
pub bytes_more : (i n b : ℕ) → b < 256 → big_bytes (i + 1) (n * 256 + b) ≡ big_bytes i n ++ b ∷ []
bytes_more i n b small =
    let above : (n * 256 + b) / 256 ^ 1 ≡ n = omega arith in
    let below : (n * 256 + b) % 256 ≡ b = omega arith in
    bytes_split i 1 (n * 256 + b) ∙ ap (λ (m : ℕ). big_bytes i m ++ ((n * 256 + b) % 256) ∷ []) above ∙ ap (λ (c : ℕ). big_bytes i n ++ c ∷ []) below

-- two numbers with the same bytes are one
pub bytes_one : (w m n : ℕ) → m < 256 ^ w → n < 256 ^ w → big_bytes w m ≡ big_bytes w n → m ≡ n
bytes_one w m n p q e =
    sym (big_number-reads_back w m [] p) ∙ ap (λ (l : List ℕ). big_from 0 w (l ++ [])) e ∙ big_number-reads_back w n [] q

pub above_fits : (i k n : ℕ) → n < 256 ^ (i + k) → n / 256 ^ k < 256 ^ i
above_fits i k n h = (div-lt_iff_lt-mul (pow_pos k)).1 (subst (λ (p : ℕ). n < p) (pow-add 256 i k) h)

-- numbers of a width don't begin one another
pub number_ends : (w low high : ℕ) → EndsItself (ANumber w low high)
number_ends w low high a r f g =
    let e : length (a ++ r) ≡ w = ap length g.spelled ∙ length_number w g.n in
    let d : length a ≡ w = ap length f.spelled ∙ length_number w f.n in
    nil_from_length r (omega (arith, length-append a r))

-- some number from low to high has these upper bytes
begun : (i k low high n : ℕ) → low ≤ high → low / 256 ^ k ≤ n → n ≤ high / 256 ^ k → (m : ℕ) × (low ≤ m) × (m ≤ high) × (m / 256 ^ k ≡ n)
begun i k low high n order least most =
    let p = pow_pos k in
    elim (cases_eq (low / 256 ^ k) n) [
      | inl same ↦ (low, omega arith, order, same)
      | inr other ↦
          let lt : low < n * 256 ^ k = (div-lt_iff_lt-mul p).0 (omega arith) in
          let le : n * 256 ^ k ≤ high = (le-div_iff_mul-le p).0 most in
          (n * 256 ^ k, omega arith, le, mul-div_cancel n p)
    ]

-- such a number begins with these bytes
pub number_goes : (i k low high n : ℕ) → low ≤ high → low / 256 ^ k ≤ n → n ≤ high / 256 ^ k → 0 < k → GoesOn (ANumber (i + k) low high) (big_bytes i n)
number_goes i (suc k) low high n order least most pos =
    let m = begun i (suc k) low high n order least most in
    record {
      next = byte_at k m.0;
      rest = big_bytes k m.0;
      whole = record { n = m.0; least = m.1; most = m.2; spelled = sym (bytes_split i (suc k) m.0 ∙ ap (λ (q : ℕ). big_bytes i q ++ big_bytes (suc k) m.0) m.3) };
    }
number_goes i zero low high n order least most pos = absurd (omega arith)

div_keeps : (a b p : ℕ) → 0 < p → a ≤ b → a / p ≤ b / p
div_keeps a b p pos le = (le-div_iff_mul-le pos).1 (omega (arith, div-mul-le_self a p))

-- what begins with the bytes of n has n as its upper part
pub number_above : (i k low high n : ℕ) → n < 256 ^ i → high < 256 ^ (i + k) → Begins (ANumber (i + k) low high) (big_bytes i n) → (low / 256 ^ k ≤ n) × (n ≤ high / 256 ^ k)
number_above i k low high n small fits g =
    let m = g.whole.n in
    let e : big_bytes i n ++ g.rest ≡ big_bytes i (m / 256 ^ k) ++ big_bytes k m = g.whole.spelled ∙ bytes_split i k m in
    let same : big_bytes i n ≡ big_bytes i (m / 256 ^ k) = sym (take_at (big_bytes i n) g.rest i (length_number i n)) ∙ ap (λ (l : List ℕ). take i l) e ∙ take_at (big_bytes i (m / 256 ^ k)) (big_bytes k m) i (length_number i (m / 256 ^ k)) in
    let is : n ≡ m / 256 ^ k = bytes_one i n (m / 256 ^ k) small (above_fits i k m (omega (arith, g.whole.most))) same in
    let down : low / 256 ^ k ≤ m / 256 ^ k = div_keeps low m (256 ^ k) (pow_pos k) g.whole.least in
    let up : m / 256 ^ k ≤ high / 256 ^ k = div_keeps m high (256 ^ k) (pow_pos k) g.whole.most in
    (omega arith, omega arith)

-- any bytes that are fewer begin a number
upper_fits : (i k n : ℕ) → n < 256 ^ i → n ≤ (256 ^ (i + k) - 1) / 256 ^ k
upper_fits i k n small =
    let p = pow_pos k in
    let top : suc n * 256 ^ k ≤ 256 ^ i * 256 ^ k = mul-le-mul_right (256 ^ k) small in
    let sum : 256 ^ (i + k) ≡ 256 ^ i * 256 ^ k = pow-add 256 i k in
    (le-div_iff_mul-le p).1 (omega arith)

-- the number that the first bytes are has these bytes
head_byte : (k a y : ℕ) → a < 256 → y < 256 ^ k → byte_at k (a * 256 ^ k + y) ≡ a
head_byte k a y small fits = byte_of k (a * 256 ^ k + y) ∙ ap (λ (q : ℕ). q % 256) (div-mul-add a (256 ^ k) y fits) ∙ mod-eq_of_lt small

pub read_bytes : (w : ℕ) (l : List ℕ) → ((k : ℕ) → get_or l k 0 < 256) → w ≤ length l → big_bytes w (big_from 0 w l) ≡ take w l
read_bytes zero l small le = refl
read_bytes (suc w) [] small le = absurd (omega arith)
read_bytes (suc w) (x ∷ l) small le =
    let rest : (k : ℕ) → get_or l k 0 < 256 = λ (k : ℕ). small (suc k) in
    let moved : big_from 1 w (x ∷ l) ≡ big_from 0 w l = big_from-cons 0 w x l in
    let fits : big_from 0 w l < 256 ^ w = big_from-lt 0 w l rest in
    let low : big_bytes w (x * 256 ^ w + big_from 0 w l) ≡ big_bytes w (big_from 0 w l) = low_bytes w x (big_from 0 w l) fits in
    ap (λ (y : ℕ). big_bytes (suc w) (x * 256 ^ w + y)) moved
    ∙ ap (λ (b : ℕ). b ∷ big_bytes w (x * 256 ^ w + big_from 0 w l)) (head_byte w x (big_from 0 w l) (small 0) fits)
    ∙ ap (λ (m : List ℕ). x ∷ m) (low ∙ read_bytes w l rest (omega arith))
  where
    low_bytes : (w x y : ℕ) → y < 256 ^ w → big_bytes w (x * 256 ^ w + y) ≡ big_bytes w y
    low_bytes w x y fits = same w w (omega arith)
      where
        at_offset : (j k : ℕ) → j + suc k ≡ w → byte_at j (x * 256 ^ w + y) ≡ byte_at j y
        at_offset j k sum =
            let pow : 256 ^ w ≡ 256 ^ k * 256 * 256 ^ j = ap (λ (i : ℕ). 256 ^ i) (sym sum) ∙ pow-add 256 j (suc k) ∙ mul_comm (256 ^ j) (256 ^ suc k) ∙ ap (λ (p : ℕ). p * 256 ^ j) (pow-suc 256 k) in
            let top : x * 256 ^ w ≡ x * (256 ^ k * 256) * 256 ^ j = ap (λ (p : ℕ). x * p) pow ∙ sym (mul_assoc x (256 ^ k * 256) (256 ^ j)) in
            let quot : (x * 256 ^ w + y) / 256 ^ j ≡ x * (256 ^ k * 256) + y / 256 ^ j = ap (λ (p : ℕ). (p + y) / 256 ^ j) top ∙ mul-add-div_right (pow_pos j) (x * (256 ^ k * 256)) y in
            let split : x * (256 ^ k * 256) ≡ x * 256 ^ k * 256 = sym (mul_assoc x (256 ^ k) 256) in
            byte_of j (x * 256 ^ w + y) ∙ ap (λ (p : ℕ). p % 256) quot ∙ ap (λ (p : ℕ). (p + y / 256 ^ j) % 256) split ∙ mul-add-mod_self_right (x * 256 ^ k) 256 (y / 256 ^ j) ∙ sym (byte_of j y)

        same : (v k : ℕ) → v ≤ w → big_bytes v (x * 256 ^ w + y) ≡ big_bytes v y
        same zero k le = refl
        same (suc v) k le = ap (λ (b : ℕ). b ∷ big_bytes v (x * 256 ^ w + y)) (at_offset v (w - suc v) (omega arith)) ∙ ap (λ (l : List ℕ). byte_at v y ∷ l) (same v k (omega arith))

pub short_number : (w : ℕ) (l : List ℕ) → ((k : ℕ) → get_or l k 0 < 256) → length l < w → GoesOn (ANumber w 0 (256 ^ w - 1)) l
short_number w l small lt =
    let n = big_from 0 (length l) l in
    let k = w - length l in
    let sum : length l + k ≡ w = omega arith in
    let is : big_bytes (length l) n ≡ l = read_bytes (length l) l small (omega arith) ∙ take_all (length l) l (omega arith) in
    let fits : n < 256 ^ length l = big_from-lt 0 (length l) l small in
    let g = number_goes (length l) k 0 (256 ^ (length l + k) - 1) n (omega arith) (omega (arith, zero_div (256 ^ k) (pow_pos k))) (upper_fits (length l) k n fits) (omega arith) in
    subst (λ (m : List ℕ). GoesOn (ANumber w 0 (256 ^ w - 1)) m) is (subst (λ (j : ℕ). GoesOn (ANumber j 0 (256 ^ j - 1)) (big_bytes (length l) n)) sum g)
  where
    zero_div : (p : ℕ) → 0 < p → 0 / p ≡ 0
    zero_div p pos = omega (arith, div-mul-le_self 0 p, mul-le-mul_right (0 / p) pos)

-- what a number that stands at an offset says of the answer
pub same_number : (w m n at : ℕ) (bytes : List ℕ) → m < 256 ^ w → n < 256 ^ w → Stands (big_bytes w m) bytes at (at + w) → Stands (big_bytes w n) bytes at (at + w) → m ≡ n
same_number w m n at bytes p q a b =
    let same : big_bytes w m ≡ big_bytes w n = sym (take_at (big_bytes w m) (drop (at + w) bytes) w (length_number w m)) ∙ ap (λ (l : List ℕ). take w l) (sym a.split ∙ b.split) ∙ take_at (big_bytes w n) (drop (at + w) bytes) w (length_number w n) in
    bytes_one w m n p q same

pub stands_number : (w n at : ℕ) (bytes : List ℕ) → big_bytes w n ≡ take w (drop at bytes) → w ≤ length (drop at bytes) → 0 < w → Stands (big_bytes w n) bytes at (at + w)
stands_number w n at bytes is within pos = record {
  split = sym (take-append-drop w (drop at bytes)) ∙ ap (λ (l : List ℕ). l ++ drop w (drop at bytes)) (sym is) ∙ ap (λ (l : List ℕ). big_bytes w n ++ l) (drop-drop w at bytes);
  ends = omega (arith, length_number w n);
  within = omega (arith, length-drop at bytes);
}

-- a reading of a number that has come to its byte i
pub power_fits : (k : ℕ) → k ≤ 7 → 256 ^ k < 2 ^ 64
power_fits k le = let h : 256 ^ k ≤ 256 ^ 7 = pow-le-pow_right (omega arith) le in omega arith

pub power_pos : (k : ℕ) → 0 < 256 ^ k
power_pos k = pow_pos k

pub more_small : (i n b : ℕ) → n < 256 ^ i → b < 256 → n * 256 + b < 256 ^ (i + 1)
more_small i n b small byte =
    let top : suc n * 256 ≤ 256 ^ i * 256 = mul-le-mul_right 256 small in
    let e : i + 1 ≡ suc i = omega arith in
    subst (λ (p : ℕ). n * 256 + b < p) (sym (ap (λ (j : ℕ). 256 ^ j) e ∙ pow-suc 256 i)) (omega arith)

pub below_word : (i n : ℕ) → i < 8 → n < 256 ^ i → n * 256 + 255 < 2 ^ 64
below_word i n lt small = let le : i ≤ 7 = omega arith in let h : 256 ^ i ≤ 256 ^ 7 = pow-le-pow_right (omega arith) le in omega arith

pub more_take : (i n b : ℕ) (l : List ℕ) → b < 256 → i < length l → get_or l i 0 ≡ b → big_bytes i n ≡ take i l → big_bytes (i + 1) (n * 256 + b) ≡ take (i + 1) l
more_take i n b l byte lt is bytes =
    bytes_more i n b byte ∙ ap (λ (m : List ℕ). m ++ b ∷ []) bytes ∙ ap (λ (y : ℕ). take i l ++ y ∷ []) (sym is) ∙ sym (take_more l i 0 lt)

pub goes_at : (w low high n i : ℕ) (l : List ℕ) → low ≤ high → i < w → big_bytes i n ≡ take i l → low / 256 ^ (w - i) ≤ n → n ≤ high / 256 ^ (w - i) → GoesOn (ANumber w low high) (take i l)
goes_at w low high n i l order lt bytes least most =
    let sum : i + (w - i) ≡ w = omega arith in
    subst (GoesOn (ANumber w low high)) bytes (subst (λ (j : ℕ). GoesOn (ANumber j low high) (big_bytes i n)) sum (number_goes i (w - i) low high n order least most (omega arith)))

pub misfits_at : (w low high n i b : ℕ) (l : List ℕ) → low ≤ high → high < 256 ^ w → i < w → i < length l → b < 256 → get_or l i 0 ≡ b → n < 256 ^ i → big_bytes i n ≡ take i l
    → low / 256 ^ (w - i) ≤ n → n ≤ high / 256 ^ (w - i) → (n * 256 + b < low / 256 ^ (w - 1 - i)) ⊎ (high / 256 ^ (w - 1 - i) < n * 256 + b) → Misfits (ANumber w low high) l i
misfits_at w low high n i b l order fits lt within byte is small bytes least most outside = record {
  within = within;
  fits = goes_at w low high n i l order lt bytes least most;
  none = λ g.
      let e : suc i ≡ i + 1 = omega arith in
      let sum : (i + 1) + (w - 1 - i) ≡ w = omega arith in
      let cut : take (suc i) l ≡ big_bytes (i + 1) (n * 256 + b) = ap (λ (j : ℕ). take j l) e ∙ sym (more_take i n b l byte within is bytes) in
      let g' : Begins (ANumber w low high) (big_bytes (i + 1) (n * 256 + b)) = subst (Begins (ANumber w low high)) cut g in
      let above = number_above (i + 1) (w - 1 - i) low high (n * 256 + b) (more_small i n b small byte) (subst (λ (j : ℕ). high < 256 ^ j) (sym sum) fits)
      (subst (λ (j : ℕ). Begins (ANumber j low high) (big_bytes (i + 1) (n * 256 + b))) (sym sum) g') in
      elim outside [ inl below ↦ omega (arith, above.0) | inr over ↦ omega (arith, above.1) ];
}

-- the bounds at the start and from one byte to the next
pub bounds_start : (w low high : ℕ) → low ≤ high → high < 256 ^ w → (low / 256 ^ w ≡ 0)
bounds_start w low high order fits =
    let up : low / 256 ^ w < 1 = (div-lt_iff_lt-mul (pow_pos w)).1 (omega arith) in omega arith
