-- Names as bytes.
use Rattle.std.proofs.Common.{◌≡◌, ◌⊎◌, ⊎_elim, ℕ, zero, suc, ◌+◌, ◌-◌, ◌<◌, ◌≤◌, List, [], ◌∷◌, ◌++◌, length, take, drop, get_or, true, false, ◌&&◌, ◌||◌, refl, sym, ap, subst, ◌∙◌, arith, IsUtf8, length-drop, Result, Ok, Err, MatchResult}
use Rattle.std.specs.Prelude.{nat_le, ◌==◌, IsOk}
use Rattle.std.specs.List.{list_all}
use Rattle.std.proofs.Math.Nat.{mod-eq_of_lt}
use Rattle.std.proofs.lemmas.Bool.{leb-true, eqb-true, or_cases, and_parts}
use Rattle.std.proofs.lemmas.List.{get_or-drop, drop_more, take_more}
use Rattle.std.proofs.Math.ListN.{drop_of_length-le}
use Rattle.std.proofs.lemmas.Str.{IsUtf8-nil}
use Rattle.byteorder.specs.Endian.{big_bytes}
use Rattle.m3_model.specs.Names.{is_letter, is_digit, is_name_byte}
use Rattle.wire_bytes.specs.Fields.{Stands, GoesOn, Misfits, IsFault}
use Rattle.wire_bytes.specs.declared.wire_err.WireErr.{WireErr}
use Rattle.wire_bytes.specs.declared.wire_err.WireErr.TheVariants as errors
use Rattle.wire_bytes.proofs.Characters.{with_first1}
use Rattle.meta_bytes.specs.Forms.{Number, Byte, Times, HasForm, StandsAs}
use Rattle.meta_bytes.specs.States.{name_form, name_bytes}
use Rattle.meta_bytes.proofs.FormLemmas.{count_stands, times_later, form_ends}

below : (low high b : ℕ) → high < 128 → (nat_le low b && nat_le b high) ≡ true → b < 128
below low high b small e = let h = leb-true b high (and_parts (nat_le low b) (nat_le b high) e).1 in omega (arith, h, small)

-- each byte of a name is below 128
pub small_byte : (b : ℕ) → is_name_byte b ≡ true → b < 128
small_byte b e =
    ⊎_elim (λ (p : (is_letter b || is_digit b) ≡ true).
    ⊎_elim (λ (q : is_letter b ≡ true). ⊎_elim (below 97 122 b (omega arith)) (below 65 90 b (omega arith)) (or_cases (nat_le 97 b && nat_le b 122) (nat_le 65 b && nat_le b 90) q))
    (λ (q : is_digit b ≡ true). below 48 57 b (omega arith) q) (or_cases (is_letter b) (is_digit b) p))
    (λ (p : (b == 95 || b == 45) ≡ true). ⊎_elim (λ q. let h = eqb-true b 95 q in omega (arith, h)) (λ q. let h = eqb-true b 45 q in omega (arith, h)) (or_cases (b == 95) (b == 45) p))
    (or_cases (is_letter b || is_digit b) (b == 95 || b == 45) e)

abbrev NameByte : List ℕ → Type 0
NameByte = HasForm (Byte is_name_byte)

one_byte : (b : ℕ) → b < 256 → big_bytes 1 b ≡ b ∷ []
one_byte b lt = ap (λ (c : ℕ). c ∷ []) (mod-eq_of_lt lt)

-- a byte of a name, as a field
pub name_byte : (b : ℕ) → is_name_byte b ≡ true → NameByte (b ∷ [])
name_byte b e = let lt = small_byte b e in record { n = b; small = omega (arith, lt); passed = e; spelled = sym (one_byte b (omega (arith, lt))) }

pub letters : (l : List ℕ) → list_all is_name_byte l ≡ true → Times (length l) NameByte l
letters [] e = refl
letters (b ∷ l) e = let p = and_parts (is_name_byte b) (list_all is_name_byte l) e in record { a = b ∷ []; b = l; first = name_byte b p.0; second = letters l p.1; joined = refl }

pub name_utf8 : (l : List ℕ) → list_all is_name_byte l ≡ true → IsUtf8 l
name_utf8 [] e = IsUtf8-nil
name_utf8 (b ∷ l) e = let p = and_parts (is_name_byte b) (list_all is_name_byte l) e in let lt = small_byte b p.0 in with_first1 b l (omega (arith, lt)) (name_utf8 l p.1)

pub all_more : (l : List ℕ) (b : ℕ) → list_all is_name_byte l ≡ true → is_name_byte b ≡ true → list_all is_name_byte (l ++ b ∷ []) ≡ true
all_more [] b e f = ap (λ t. t && true) f
all_more (x ∷ l) b e f = let p = and_parts (is_name_byte x) (list_all is_name_byte l) e in ap (λ t. t && list_all is_name_byte (l ++ b ∷ [])) p.0 ∙ all_more l b p.1 f

-- so many bytes of a name
a_name : (n : ℕ) → (l : List ℕ) × Times n NameByte l
a_name zero = ([], refl)
a_name (suc n) = let l = a_name n in (97 ∷ l.0, record { a = 97 ∷ []; b = l.0; first = name_byte 97 refl; second = l.1; joined = refl })

-- a name goes on where no byte of it stands yet
pub name_goes : (n : ℕ) → GoesOn (Times (suc n) NameByte) []
name_goes n = let l = a_name n in record { next = 97; rest = l.0; whole = record { a = 97 ∷ []; b = l.0; first = name_byte 97 refl; second = l.1; joined = refl } }

first_same : (a b : ℕ) (l m : List ℕ) → a ∷ l ≡ b ∷ m → a ≡ b
first_same a b l m e = ap (λ (k : List ℕ). get_or k 0 0) e

-- and not with another byte
pub name_misfits : (n : ℕ) (l : List ℕ) → 0 < length l → is_name_byte (get_or l 0 0) ≡ false → Misfits (Times (suc n) NameByte) l 0
name_misfits n [] lt e = absurd (omega arith)
name_misfits n (b ∷ l) lt e = record {
  within = lt;
  fits = name_goes n;
  none = λ g.
      let t = g.whole in
      let is : b ≡ t.first.n = first_same b t.first.n _ _ (t.joined ∙ ap (λ (k : List ℕ). k ++ t.b) (t.first.spelled ∙ one_byte t.first.n t.first.small)) in
      let passes : is_name_byte b ≡ true = ap is_name_byte is ∙ t.first.passed in
      let never : true ≡ false = sym passes ∙ e in cc;
}

-- a name behind its length
pub stands_name : (n : ℕ) (name bytes : List ℕ) (at from : ℕ) → StandsAs (Number 1 1 32) (big_bytes 1 n) bytes at from → 1 ≤ n → n ≤ 32 → Stands name bytes from (from + n) → list_all is_name_byte name ≡ true → StandsAs name_form (name_bytes name) bytes at (from + n)
stands_name n name bytes at from count least most st all =
    let long : length name ≡ n = omega (arith, st.ends) in
    let c = subst (λ (k : ℕ). Stands (big_bytes 1 k) bytes at from) (sym long) count.stands in
    count_stands 1 32 (Byte is_name_byte) (length name) name bytes at from (from + n) (omega (arith, long, least)) (omega (arith, long, most)) c (letters name all) st

-- a reading of a name that has come to an offset
abbrev Bytes : ℕ → List ℕ → Type 0
Bytes n = Times n NameByte

pub name_short : (n : ℕ) (bytes : List ℕ) (offset : ℕ) → 0 < n → length bytes ≤ offset → IsFault (Bytes n) bytes offset errors.Short
name_short zero bytes offset some le = absurd (omega arith)
name_short (suc n) bytes offset some le = subst (GoesOn (Bytes (suc n))) (sym (drop_of_length-le bytes le)) (name_goes n)

at_offset : (bytes : List ℕ) (offset : ℕ) → get_or (drop offset bytes) 0 0 ≡ get_or bytes offset 0
at_offset bytes offset = get_or-drop offset bytes 0 0 ∙ (let e : offset + 0 ≡ offset = omega arith in ap (λ (k : ℕ). get_or bytes k 0) e)

pub name_bad : (n : ℕ) (bytes : List ℕ) (offset : ℕ) → 0 < n → offset < length bytes → is_name_byte (get_or bytes offset 0) ≡ false → IsFault (Bytes n) bytes offset (errors.Bad offset)
name_bad zero bytes offset some lt e = absurd (omega arith)
name_bad (suc n) bytes offset some lt e =
    let none : 0 ≡ offset - offset = omega arith in (
      omega arith,
      subst (λ (k : ℕ). Misfits (Bytes (suc n)) (drop offset bytes) k) none (name_misfits n (drop offset bytes) (omega (arith, length-drop offset bytes)) (ap is_name_byte (at_offset bytes offset) ∙ e)),
    )

one_stands : (bytes : List ℕ) (offset : ℕ) → offset < length bytes → Stands (get_or bytes offset 0 ∷ []) bytes offset (offset + 1)
one_stands bytes offset lt = record { split = drop_more bytes offset 0 lt; ends = refl; within = omega arith }

pub name_step : (n : ℕ) (bytes : List ℕ) (offset : ℕ) (e : WireErr) → 0 < n → offset < length bytes → is_name_byte (get_or bytes offset 0) ≡ true → IsFault (Bytes (n - 1)) bytes (offset + 1) e → IsFault (Bytes n) bytes offset e
name_step zero bytes offset e some lt fits a = absurd (omega arith)
name_step (suc n) bytes offset e some lt fits a =
    let less : suc n - 1 ≡ n = omega arith in
    times_later NameByte (form_ends (Byte is_name_byte) (record { n = 97; small = omega arith; passed = refl })) n (get_or bytes offset 0 ∷ []) bytes offset (offset + 1) e (name_byte (get_or bytes offset 0) fits) (one_stands bytes offset lt)
    (subst (λ (k : ℕ). IsFault (Bytes k) bytes (offset + 1) e) less a)

pub name_so_far : (at offset : ℕ) (bytes : List ℕ) → at ≤ offset → offset < length bytes → is_name_byte (get_or bytes offset 0) ≡ true → list_all is_name_byte (take (offset - at) (drop at bytes)) ≡ true → list_all is_name_byte (take (offset + 1 - at) (drop at bytes)) ≡ true
name_so_far at offset bytes le lt fits all =
    let i : ℕ = offset - at in
    let up : i + 1 ≡ offset + 1 - at = omega arith in
    let there : get_or (drop at bytes) i 0 ≡ get_or bytes offset 0 = get_or-drop at bytes i 0 ∙ (let e : at + i ≡ offset = omega arith in ap (λ (k : ℕ). get_or bytes k 0) e) in
    let more : take (i + 1) (drop at bytes) ≡ take i (drop at bytes) ++ get_or bytes offset 0 ∷ [] = take_more (drop at bytes) i 0 (omega (arith, length-drop at bytes)) ∙ ap (λ (b : ℕ). take i (drop at bytes) ++ b ∷ []) there in
    sym (ap (λ (k : ℕ). list_all is_name_byte (take k (drop at bytes))) up) ∙ ap (list_all is_name_byte) more ∙ all_more (take i (drop at bytes)) (get_or bytes offset 0) all fits

pub byte_stands : (bytes : List ℕ) (offset : ℕ) → offset < length bytes → Stands (get_or bytes offset 0 ∷ []) bytes offset (offset + 1)
byte_stands bytes offset lt = one_stands bytes offset lt

pub same_head : (b n : ℕ) (rest : List ℕ) → n < 256 → b ∷ rest ≡ big_bytes 1 n → b ≡ n
same_head b n rest small e = first_same b n rest [] (e ∙ one_byte n small)

-- bytes that are UTF-8 are taken as a text
pub text_ok : {A E : Type 0} (P : A → Type 0) (U : Type 0) (Q : E → Type 0) (r : Result A E) → MatchResult r P (λ e. ¬ U × Q e) → U → IsOk r
text_ok P U Q (Ok x) m u = refl
text_ok P U Q (Err e) m u = absurd (m.0 u)
