-- Bits of rows in the bytes of their filter.
use Rattle.std.proofs.Common.{◌≡◌, inl, inr, ℕ, zero, suc, ◌+◌, ◌-◌, ◌*◌, ◌/◌, ◌%◌, ◌<◌, ◌≤◌, ◌^◌, Bool, true, false, if◌then◌else◌, ◌==◌, ◌&&◌, ◌||◌, nat_lt, List, [], ◌∷◌, ◌++◌, length, take, drop, get_or, refl, ap, subst, ◌∙◌, arith, length-append}
use Rattle.std.specs.Int.{bit_at}
use Rattle.std.specs.List.{list_all, list_any}
use Rattle.std.proofs.Math.Nat.{mod-lt}
use Rattle.std.proofs.lemmas.Bool.{eq-eqb, lt-ltb, ltb-true, ltb-false}
use Rattle.std.proofs.lemmas.List.{drop_at}
use Rattle.std.proofs.Math.Bool.{or-true}
use Rattle.std.proofs.lemmas.Nat.Bits.{bit_at-suc}
use Rattle.byteorder.specs.Endian.{big_bytes, big_number}
use Rattle.byteorder.specs.Numbers.{big_number-reads_back}
use Rattle.wire_bytes.specs.m3_model.Members.{IsIn}
use Rattle.wire_bytes.specs.m3_model.declared.point.Series.{Series}
use Rattle.wire_bytes.specs.Volumes.{bits_of, is_set, number_of_bits, bits_from, bloom_bytes}
use Rattle.wire_bytes.proofs.NumberLemmas.{length_number}
use Rattle.fileset_lookup.specs.Bits.{bit_in, is_filter, may_hold}
use Rattle.fileset_lookup.proofs.HeadLemmas.{rest_of}

-- ---- bits of a number

one_or_none : (b : Bool) → ((if b then 1 else 0) == 1) ≡ b
one_or_none true = refl
one_or_none false = refl

first_bit : (b : Bool) (later : ℕ) → ((if b then 1 else 0) + 2 * later) % 2 ≡ (if b then 1 else 0)
first_bit true later = omega arith
first_bit false later = omega arith

other_bits : (b : Bool) (later : ℕ) → ((if b then 1 else 0) + 2 * later) / 2 ≡ later
other_bits true later = omega arith
other_bits false later = omega arith

-- each bit of a number made up of bits is that bit
bit_of_number : (m : ℕ) (rows : List Series) (start count i : ℕ) → i < count → (bit_at (number_of_bits m rows start count) i == 1) ≡ is_set m rows (start + i)
bit_of_number m rows start zero i h = absurd (omega (arith, h))
bit_of_number m rows start (suc count) zero h =
    let later = number_of_bits m rows (start + 1) count in
    let whole : ((if is_set m rows start then 1 else 0) + 2 * later) / 2 ^ 0 ≡ (if is_set m rows start then 1 else 0) + 2 * later = omega arith in
    let here : start ≡ start + 0 = omega arith in
    ap (λ (n : ℕ). n % 2 == 1) whole ∙ ap (λ (n : ℕ). n == 1) (first_bit (is_set m rows start) later) ∙ one_or_none (is_set m rows start) ∙ ap (is_set m rows) here
bit_of_number m rows start (suc count) (suc i) h =
    let later = number_of_bits m rows (start + 1) count in
    let offset : start + 1 + i ≡ start + suc i = omega arith in
    ap (λ (n : ℕ). n == 1) (bit_at-suc ((if is_set m rows start then 1 else 0) + 2 * later) i ∙ ap (λ (n : ℕ). bit_at n i) (other_bits (is_set m rows start) later))
    ∙ bit_of_number m rows (start + 1) count i (omega (arith, h))
    ∙ ap (is_set m rows) offset

-- ---- bits of bytes

get_zero : (b : ℕ) (bytes : List ℕ) (k : ℕ) → k ≡ 0 → get_or (b ∷ bytes) k 0 ≡ b
get_zero b bytes k e = ap (λ (n : ℕ). get_or (b ∷ bytes) n 0) e

get_suc : (b : ℕ) (bytes : List ℕ) (k n : ℕ) → k ≡ suc n → get_or (b ∷ bytes) k 0 ≡ get_or bytes n 0
get_suc b bytes k n e = ap (λ (j : ℕ). get_or (b ∷ bytes) j 0) e

-- each bit of a byte and of those behind it is that of the rows, where it is so behind it
byte_more : (m : ℕ) (rows : List Series) (start count i : ℕ) → i < 8 * suc count → ((k : ℕ) → k < 8 * count → bit_in (bits_from m rows (start + 8) count) k ≡ is_set m rows (start + 8 + k))
    → bit_in (bits_from m rows start (suc count)) i ≡ is_set m rows (start + i)
byte_more m rows start count i h behind = by (nat_lt i 8) refl
  where
    by : (b : Bool) → nat_lt i 8 ≡ b → bit_in (number_of_bits m rows start 8 ∷ bits_from m rows (start + 8) count) i ≡ is_set m rows (start + i)
    by true is =
        let small : i < 8 = ltb-true i 8 is in
        let none : i / 8 ≡ 0 = omega (arith, small) in
        let same : i % 8 ≡ i = omega (arith, small) in
        ap (λ (n : ℕ). bit_at n (i % 8) == 1) (get_zero (number_of_bits m rows start 8) (bits_from m rows (start + 8) count) (i / 8) none)
        ∙ ap (λ (k : ℕ). bit_at (number_of_bits m rows start 8) k == 1) same
        ∙ bit_of_number m rows start 8 i small
    by false is =
        let large : 8 ≤ i = ltb-false i 8 is in
        let more : i / 8 ≡ suc ((i - 8) / 8) = omega (arith, large) in
        let same : i % 8 ≡ (i - 8) % 8 = omega (arith, large) in
        let offset : start + 8 + (i - 8) ≡ start + i = omega (arith, large) in
        ap (λ (n : ℕ). bit_at n (i % 8) == 1) (get_suc (number_of_bits m rows start 8) (bits_from m rows (start + 8) count) (i / 8) ((i - 8) / 8) more)
        ∙ ap (λ (k : ℕ). bit_at (get_or (bits_from m rows (start + 8) count) ((i - 8) / 8) 0) k == 1) same
        ∙ behind (i - 8) (omega (arith, h, large))
        ∙ ap (is_set m rows) offset

-- each bit of the bytes is that of the rows
bit_is : (m : ℕ) (rows : List Series) (start count i : ℕ) → i < 8 * count → bit_in (bits_from m rows start count) i ≡ is_set m rows (start + i)
bit_is m rows start zero i h = absurd (omega (arith, h))
bit_is m rows start (suc count) i h = byte_more m rows start count i h (λ k lt. bit_is m rows (start + 8) count k lt)

length_bits : (m : ℕ) (rows : List Series) (start count : ℕ) → length (bits_from m rows start count) ≡ count
length_bits m rows start zero = refl
length_bits m rows start (suc count) = let later = length_bits m rows (start + 8) count in omega (arith, later)

-- ---- all of them

all_same : (p q : ℕ → Bool) (l : List ℕ) → ((b : ℕ) → IsIn l b → p b ≡ q b) → list_all p l ≡ list_all q l
all_same p q [] each = refl
all_same p q (b ∷ l) each = ap (λ (x : Bool). x && list_all p l) (each b (inl refl)) ∙ ap (λ (x : Bool). q b && x) (all_same p q l (λ c m. each c (inr m)))

all_true : (p : ℕ → Bool) (l : List ℕ) → ((b : ℕ) → IsIn l b → p b ≡ true) → list_all p l ≡ true
all_true p [] each = refl
all_true p (b ∷ l) each = ap (λ (x : Bool). x && list_all p l) (each b (inl refl)) ∙ all_true p l (λ c m. each c (inr m))

any_true : {X : Type 0} (p : X → Bool) (l : List X) (x : X) → IsIn l x → p x ≡ true → list_any p l ≡ true
any_true p [] x m e = absurd m
any_true p (y ∷ l) x (inl same) e = ap (λ (b : Bool). b || list_any p l) (ap p same ∙ e)
any_true p (y ∷ l) x (inr m) e = ap (λ (b : Bool). p y || b) (any_true p l x m e) ∙ or-true (p y)

bits_below : (m : ℕ) (id : List ℕ) → 0 < m → (b : ℕ) → IsIn (bits_of m id) b → b < m
bits_below m id some b (inl is) = subst (λ (c : ℕ). c < m) is (mod-lt _ some)
bits_below m id some b (inr (inl is)) = subst (λ (c : ℕ). c < m) is (mod-lt _ some)
bits_below m id some b (inr (inr (inl is))) = subst (λ (c : ℕ). c < m) is (mod-lt _ some)
bits_below m id some b (inr (inr (inr (inl is)))) = subst (λ (c : ℕ). c < m) is (mod-lt _ some)
bits_below m id some b (inr (inr (inr (inr is)))) = absurd is

-- the bits of a row's identifier are set
pub own_set : (m : ℕ) (rows : List Series) (s : Series) → IsIn rows s → list_all (is_set m rows) (bits_of m s.id) ≡ true
own_set m rows s is = all_true (is_set m rows) (bits_of m s.id) (λ b own.
    any_true (λ (r : Series). list_any (λ c. c == b) (bits_of m r.id)) rows s is (any_true (λ (c : ℕ). c == b) (bits_of m s.id) b own (eq-eqb b b refl)))

-- the parts of a filter
record AreParts (rows : List Series) (bits : List ℕ) : Type 0 where
  number : big_number 4 bits ≡ 16 * length rows
  long : length bits ≡ 4 + 2 * length rows
  rest : drop 4 bits ≡ bits_from (16 * length rows) rows 0 (2 * length rows)

parts_of : (rows : List Series) (bits : List ℕ) → 16 * length rows < 2 ^ 32 → bits ≡ bloom_bytes rows → AreParts rows bits
parts_of rows bits few is =
    let m = 16 * length rows in
    let rest = bits_from m rows 0 (2 * length rows) in
    let four = length_number 4 m in
    let sum = length-append (big_bytes 4 m) rest in
    let behind = length_bits m rows 0 (2 * length rows) in
    let all : length bits ≡ length (big_bytes 4 m ++ rest) = ap length is in
    record {
      number = ap (big_number 4) is ∙ big_number-reads_back 4 m rest few;
      long = omega (arith, four, sum, behind, all);
      rest = ap (λ (l : List ℕ). drop 4 l) is ∙ drop_at (big_bytes 4 m) rest 4 four;
    }

both_true : (a b c : Bool) → a ≡ true → b ≡ true → c ≡ true → (a && (b && c)) ≡ true
both_true a b c x y z = ap (λ (d : Bool). d && (b && c)) x ∙ ap (λ (d : Bool). d && c) y ∙ z

pub bloom_is_filter : (rows : List Series) (bits : List ℕ) → 1 ≤ length rows → 16 * length rows < 2 ^ 32 → bits ≡ bloom_bytes rows → is_filter bits ≡ true
bloom_is_filter rows bits some few is =
    let p = parts_of rows bits few is in
    let number = p.number in
    let long = p.long in
    both_true (nat_lt 4 (length bits)) (big_number 4 bits % 8 == 0) (big_number 4 bits / 8 == length bits - 4)
    (lt-ltb 4 (length bits) (omega (arith, long, some)))
    (eq-eqb (big_number 4 bits % 8) 0 (omega (arith, number)))
    (eq-eqb (big_number 4 bits / 8) (length bits - 4) (omega (arith, number, long)))

-- the bits of the identifier are looked up among those of the rows
pub bits_are : (rows : List Series) (bits id : List ℕ) → 1 ≤ length rows → 16 * length rows < 2 ^ 32 → bits ≡ bloom_bytes rows
    → list_all (bit_in (drop 4 bits)) (bits_of (big_number 4 bits) id) ≡ list_all (is_set (16 * length rows) rows) (bits_of (16 * length rows) id)
bits_are rows bits id some few is =
    let p = parts_of rows bits few is in
    let m = 16 * length rows in
    ap (λ (n : ℕ). list_all (bit_in (drop 4 bits)) (bits_of n id)) p.number
    ∙ all_same (bit_in (drop 4 bits)) (is_set m rows) (bits_of m id) (λ b own.
    let below = bits_below m id (omega (arith, some)) b own in
    let offset : 0 + b ≡ b = omega arith in
    ap (λ (l : List ℕ). bit_in l b) p.rest ∙ bit_is m rows 0 (2 * length rows) b (omega (arith, below)) ∙ ap (is_set m rows) offset)

pub in_filter : (bits id : List ℕ) → is_filter bits ≡ true → may_hold bits id ≡ list_all (bit_in (drop 4 bits)) (bits_of (big_number 4 bits) id)
in_filter bits id is = ap (λ (b : Bool). if b then list_all (bit_in (drop 4 bits)) (bits_of (big_number 4 bits) id) else true) is

-- the bits are looked up in what is behind the number
pub looked : (bits id : List ℕ) (count : ℕ) (result : Bool) → count ≡ big_number 4 bits → result ≡ list_all (bit_in (take (length bits - 4) (drop 4 bits))) (bits_of count id) → result ≡ list_all (bit_in (drop 4 bits)) (bits_of (big_number 4 bits) id)
looked bits id count result counted is = is ∙ ap (λ (l : List ℕ). list_all (bit_in l) (bits_of count id)) (rest_of 4 bits) ∙ ap (λ (n : ℕ). list_all (bit_in (drop 4 bits)) (bits_of n id)) counted

pub one_row : (rows : List Series) (s : Series) → IsIn rows s → 1 ≤ length rows
one_row [] s m = absurd m
one_row (r ∷ rows) s m = omega arith
