-- The bytes of a character, from the first on.
use Rattle.std.proofs.Common.{◌≡◌, ◌⊎◌, inl, inr, ℕ, ◌+◌, ◌-◌, ◌*◌, ◌/◌, ◌<◌, ◌≤◌, Bool, true, false, cond, ◌&&◌, List, [], ◌∷◌, ◌++◌, drop, get_or, refl, sym, ap, subst, ◌∙◌, arith, IsUtf8}
use Rattle.std.proofs.lemmas.Bool.{cases_lt, and_parts}
use Rattle.std.proofs.lemmas.Str.{IsUtf8-append, IsUtf8-encode}
use Rattle.std.proofs.lemmas.Str.Ascii.{encode_ascii}
use lib.Utf8.{scalar, scalars, encode, encodes, next, scalar_cases, low_scalar}
use lib.Dec.{T, leb, ltb, le→leb, lt→ltb, ltb→lt}

-- the bytes of a character, by its size
taken : {X : Type 0} (y : Bool) (a b : X) → T y → cond y a b ≡ a
taken true a b t = refl
taken false a b t = absurd t

passed : {X : Type 0} (m n : ℕ) (a b : X) → n ≤ m → cond (ltb m n) a b ≡ b
passed {X} m n a b le = by_test (ltb m n) refl
  where
    by_test : (y : Bool) → ltb m n ≡ y → cond y a b ≡ b
    by_test true e = let lt : m < n = ltb→lt m n (subst T (sym e) tt) in absurd (omega arith)
    by_test false e = refl

two : (c : ℕ) → 128 ≤ c → c < 2048 → encode c ≡ (192 + c / 64) ∷ next c ∷ []
unfolding encode
two c l h = passed c 128 _ _ l ∙ taken (ltb c 2048) _ _ (lt→ltb c 2048 h)

three : (c : ℕ) → 2048 ≤ c → c < 65536 → encode c ≡ (224 + c / 4096) ∷ next (c / 64) ∷ next c ∷ []
unfolding encode
three c l h = passed c 128 _ _ (omega arith) ∙ passed c 2048 _ _ l ∙ taken (ltb c 65536) _ _ (lt→ltb c 65536 h)

four : (c : ℕ) → 65536 ≤ c → encode c ≡ (240 + c / 262144) ∷ next (c / 4096) ∷ next (c / 64) ∷ next c ∷ []
unfolding encode
four c l = passed c 128 _ _ (omega arith) ∙ passed c 2048 _ _ (omega arith) ∙ passed c 65536 _ _ l

-- the first character of a text
pub data First (b : ℕ) (l : List ℕ) : Type 0 where
  first1 : b < 128 → IsUtf8 l → First b l
  first2 : (x : ℕ) (r : List ℕ) → l ≡ x ∷ r → 194 ≤ b → b < 224 → 128 ≤ x → x < 192 → IsUtf8 r → First b l
  first3 : (x y : ℕ) (r : List ℕ) → l ≡ x ∷ y ∷ r → 224 ≤ b → b < 240 → 128 ≤ x → x < 192 → 128 ≤ y → y < 192 → (b ≡ 224 → 160 ≤ x) → (b ≡ 237 → x < 160) → IsUtf8 r → First b l
  first4 : (x y z : ℕ) (r : List ℕ) → l ≡ x ∷ y ∷ z ∷ r → 240 ≤ b → b < 245 → 128 ≤ x → x < 192 → 128 ≤ y → y < 192 → 128 ≤ z → z < 192 → (b ≡ 240 → 144 ≤ x) → (b ≡ 244 → x < 144) → IsUtf8 r → First b l

head_same : (x y : ℕ) (r s : List ℕ) → x ∷ r ≡ y ∷ s → x ≡ y
head_same x y r s e = ap (λ (l : List ℕ). get_or l 0 0) e

tail_same : (x y : ℕ) (r s : List ℕ) → x ∷ r ≡ y ∷ s → r ≡ s
tail_same x y r s e = ap (λ (l : List ℕ). drop 1 l) e

scalar_below : (c : ℕ) → scalar c ≡ true → c < 1114112
scalar_below c e = elim (scalar_cases c e) [ inl h ↦ omega arith | inr h ↦ h.1 ]

gap : (c : ℕ) → scalar c ≡ true → (c < 55296) ⊎ (57344 ≤ c)
gap c e = elim (scalar_cases c e) [ inl h ↦ inl h | inr h ↦ inr h.0 ]

module _ (b : ℕ) (l : List ℕ) (c : ℕ) (cs : List ℕ) (ok : scalar c ≡ true) (rest : IsUtf8 (encodes cs)) where
  by1 : c < 128 → encode c ++ encodes cs ≡ b ∷ l → First b l
  by1 h e =
      let whole : c ∷ encodes cs ≡ b ∷ l = ap (λ (p : List ℕ). p ++ encodes cs) (sym (encode_ascii c h)) ∙ e in
      let is : c ≡ b = head_same c b (encodes cs) l whole in
      first1 (omega arith) (subst IsUtf8 (tail_same c b (encodes cs) l whole) rest)

  by2 : 128 ≤ c → c < 2048 → encode c ++ encodes cs ≡ b ∷ l → First b l
  by2 low h e =
      let whole : (192 + c / 64) ∷ next c ∷ encodes cs ≡ b ∷ l = ap (λ (p : List ℕ). p ++ encodes cs) (sym (two c low h)) ∙ e in
      let is : 192 + c / 64 ≡ b = head_same (192 + c / 64) b (next c ∷ encodes cs) l whole in
      first2 (next c) (encodes cs) (sym (tail_same (192 + c / 64) b (next c ∷ encodes cs) l whole)) (omega arith) (omega arith) (omega arith) (omega arith) rest

  by3 : 2048 ≤ c → c < 65536 → encode c ++ encodes cs ≡ b ∷ l → First b l
  by3 low h e =
      let whole : (224 + c / 4096) ∷ next (c / 64) ∷ next c ∷ encodes cs ≡ b ∷ l = ap (λ (p : List ℕ). p ++ encodes cs) (sym (three c low h)) ∙ e in
      let is : 224 + c / 4096 ≡ b = head_same (224 + c / 4096) b (next (c / 64) ∷ next c ∷ encodes cs) l whole in
      let cut = gap c ok in
      first3 (next (c / 64)) (next c) (encodes cs) (sym (tail_same (224 + c / 4096) b (next (c / 64) ∷ next c ∷ encodes cs) l whole)) (omega arith) (omega arith)
      (omega arith) (omega arith) (omega arith) (omega arith) (λ at. omega arith) (λ at. elim cut [ inl small ↦ omega arith | inr big ↦ omega arith ]) rest

  by4 : 65536 ≤ c → encode c ++ encodes cs ≡ b ∷ l → First b l
  by4 low e =
      let whole : (240 + c / 262144) ∷ next (c / 4096) ∷ next (c / 64) ∷ next c ∷ encodes cs ≡ b ∷ l = ap (λ (p : List ℕ). p ++ encodes cs) (sym (four c low)) ∙ e in
      let is : 240 + c / 262144 ≡ b = head_same (240 + c / 262144) b (next (c / 4096) ∷ next (c / 64) ∷ next c ∷ encodes cs) l whole in
      let top = scalar_below c ok in
      first4 (next (c / 4096)) (next (c / 64)) (next c) (encodes cs) (sym (tail_same (240 + c / 262144) b (next (c / 4096) ∷ next (c / 64) ∷ next c ∷ encodes cs) l whole)) (omega arith) (omega arith)
      (omega arith) (omega arith) (omega arith) (omega arith) (omega arith) (omega arith) (λ at. omega arith) (λ at. omega arith) rest

  by_all : encode c ++ encodes cs ≡ b ∷ l → First b l
  by_all e = elim (cases_lt c 128) [
    | inl h ↦ by1 h e
    | inr h ↦ elim (cases_lt c 2048) [
      | inl k ↦ by2 h k e
      | inr k ↦ elim (cases_lt c 65536) [ inl j ↦ by3 k j e | inr j ↦ by4 j e ]
    ]
  ]

pub first_of_text : (b : ℕ) (l : List ℕ) → IsUtf8 (b ∷ l) → First b l
first_of_text b l u = by u.0 u.1.0 u.1.1
  where
    by : (cs : List ℕ) → scalars cs ≡ true → encodes cs ≡ b ∷ l → First b l
    by [] ok e = absurd (cc)
    by (c ∷ cs) ok e = let p = and_parts _ _ ok in by_all b l c cs p.0 (cs, (p.1, refl)) e

-- and back
high_scalar : (c : ℕ) → 57344 ≤ c → c < 1114112 → scalar c ≡ true
high_scalar c l h = both (ltb c 55296) (leb 57344 c) (ltb c 1114112) (le→leb 57344 c l) (lt→ltb c 1114112 h)
  where
    both : (x y z : Bool) → T y → T z → cond x true (y && z) ≡ true
    both true y z p q = refl
    both false true true p q = refl
    both false true false p q = absurd q
    both false false z p q = absurd p

with_char : (c : ℕ) (front l : List ℕ) → scalar c ≡ true → encode c ≡ front → IsUtf8 l → IsUtf8 (front ++ l)
with_char c front l ok is u = IsUtf8-append front l (subst IsUtf8 is (IsUtf8-encode c ok)) u

pub with_first1 : (b : ℕ) (l : List ℕ) → b < 128 → IsUtf8 l → IsUtf8 (b ∷ l)
with_first1 b l h u = with_char b (b ∷ []) l (low_scalar b (omega arith)) (encode_ascii b h) u

pub with_first2 : (b x : ℕ) (l : List ℕ) → 194 ≤ b → b < 224 → 128 ≤ x → x < 192 → IsUtf8 l → IsUtf8 (b ∷ x ∷ l)
with_first2 b x l low h a d u =
    let c = (b - 192) * 64 + (x - 128) in
    let least : 128 ≤ c = omega arith in
    let most : c < 2048 = omega arith in
    let first : 192 + c / 64 ≡ b = omega arith in
    let second : next c ≡ x = omega arith in
    with_char c (b ∷ x ∷ []) l (low_scalar c (omega arith)) (two c least most ∙ (λ i. first i ∷ second i ∷ [])) u

pub with_first3 : (b x y : ℕ) (l : List ℕ) → 224 ≤ b → b < 240 → 128 ≤ x → x < 192 → 128 ≤ y → y < 192 → (b ≡ 224 → 160 ≤ x) → (b ≡ 237 → x < 160) → IsUtf8 l → IsUtf8 (b ∷ x ∷ y ∷ l)
with_first3 b x y l low h a d e f under over u =
    let c = (b - 224) * 4096 + (x - 128) * 64 + (y - 128) in
    let least : 2048 ≤ c = elim (cases_lt b 225) [ inl k ↦ (let m = under (omega arith) in omega arith) | inr k ↦ omega arith ] in
    let most : c < 65536 = omega arith in
    let first : 224 + c / 4096 ≡ b = omega arith in
    let second : next (c / 64) ≡ x = omega arith in
    let third : next c ≡ y = omega arith in
    let ok : scalar c ≡ true = elim (cases_lt b 238) [
      | inl k ↦ elim (cases_lt b 237) [
        | inl j ↦ low_scalar c (omega arith)
        | inr j ↦ (let m = over (omega arith) in low_scalar c (omega arith))
      ]
      | inr k ↦ high_scalar c (omega arith) (omega arith)
    ] in
    with_char c (b ∷ x ∷ y ∷ []) l ok (three c least most ∙ (λ i. first i ∷ second i ∷ third i ∷ [])) u

pub with_first4 : (b x y z : ℕ) (l : List ℕ) → 240 ≤ b → b < 245 → 128 ≤ x → x < 192 → 128 ≤ y → y < 192 → 128 ≤ z → z < 192 → (b ≡ 240 → 144 ≤ x) → (b ≡ 244 → x < 144) → IsUtf8 l → IsUtf8 (b ∷ x ∷ y ∷ z ∷ l)
with_first4 b x y z l low h a d e f i j under over u =
    let c = (b - 240) * 262144 + (x - 128) * 4096 + (y - 128) * 64 + (z - 128) in
    let least : 65536 ≤ c = elim (cases_lt b 241) [ inl k ↦ (let m = under (omega arith) in omega arith) | inr k ↦ omega arith ] in
    let most : c < 1114112 = elim (cases_lt b 244) [ inl k ↦ omega arith | inr k ↦ (let m = over (omega arith) in omega arith) ] in
    let first : 240 + c / 262144 ≡ b = omega arith in
    let second : next (c / 4096) ≡ x = omega arith in
    let third : next (c / 64) ≡ y = omega arith in
    let fourth : next c ≡ z = omega arith in
    with_char c (b ∷ x ∷ y ∷ z ∷ []) l (high_scalar c (omega arith) most) (four c least ∙ (λ k. first k ∷ second k ∷ third k ∷ fourth k ∷ [])) u
