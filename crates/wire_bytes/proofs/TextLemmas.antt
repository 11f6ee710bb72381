-- What may follow within a text.
use Rattle.std.proofs.Common.{◌≡◌, ◌⊎◌, inl, inr, ℕ, zero, suc, ◌+◌, ◌-◌, ◌<◌, ◌≤◌, List, [], ◌∷◌, ◌++◌, length, take, drop, get_or, refl, sym, ap, subst, ◌∙◌, arith, IsUtf8, append_assoc, length-append, length-drop, ◌↔◌}
use Rattle.std.proofs.lemmas.Str.{IsUtf8-nil}
use Rattle.std.proofs.lemmas.List.{take_more, append-nil, take-append-drop, drop-drop, length-take-le}
use Rattle.wire_bytes.specs.declared.due.Due.{Due}
use Rattle.wire_bytes.specs.declared.due.Due.TheVariants.{Start, Later}
use Rattle.wire_bytes.specs.Fields.{Stands, GoesOn, Misfits}
use Rattle.wire_bytes.specs.Texts.{AText, LaterBytes, MayFollow, IsFair, needed}
use Rattle.wire_bytes.proofs.Characters.{First, first1, first2, first3, first4, first_of_text, with_first1, with_first2, with_first3, with_first4}

-- so many letters are a text
pub letters : (k : ℕ) → (r : List ℕ) × (length r ≡ k) × IsUtf8 r
letters zero = ([], refl, IsUtf8-nil)
letters (suc k) = let r = letters k in (97 ∷ r.0, ap suc r.1, with_first1 97 r.0 (omega arith) r.2)

later_fill : (low high more k : ℕ) → low ≤ high → more < k → (r : List ℕ) × (length r ≡ k) × LaterBytes low high more r
later_fill low high more zero le lt = absurd (omega arith)
later_fill low high zero (suc k) le lt = let r = letters k in (low ∷ r.0, ap suc r.1, (omega arith, le, r.2))
later_fill low high (suc more) (suc k) le lt = let r = later_fill 0x80 0xBF more k (omega arith) (omega arith) in (low ∷ r.0, ap suc r.1, (omega arith, le, r.2))

-- what may follow can have any length that ends the character
pub fill : (due : Due) (k : ℕ) → IsFair due → needed due ≤ k → (r : List ℕ) × (length r ≡ k) × MayFollow due r
fill Start k fair le = letters k
fill (Later low high more) k fair le = later_fill low high more k fair (omega arith)

later_long : (low high more : ℕ) (r : List ℕ) → LaterBytes low high more r → more < length r
later_long low high more [] f = absurd f
later_long low high zero (b ∷ r) f = omega arith
later_long low high (suc more) (b ∷ r) f = let h = later_long 0x80 0xBF more r f.2 in omega arith

pub long_enough : (due : Due) (r : List ℕ) → MayFollow due r → needed due ≤ length r
long_enough Start r f = omega arith
long_enough (Later low high more) r f = let h = later_long low high more r f in omega arith

-- behind each first byte
pub ascii : (b : ℕ) → b ≤ 127 → (l : List ℕ) → IsUtf8 l ↔ IsUtf8 (b ∷ l)
ascii b h l = (λ u. with_first1 b l (omega arith) u, λ u. back (first_of_text b l u))
  where
    back : First b l → IsUtf8 l
    back (first1 _ u) = u
    back (first2 _ _ _ k _ _ _ _) = absurd (omega arith)
    back (first3 _ _ _ _ k _ _ _ _ _ _ _ _) = absurd (omega arith)
    back (first4 _ _ _ _ _ k _ _ _ _ _ _ _ _ _ _) = absurd (omega arith)

pub second_of_two : (b : ℕ) → 194 ≤ b → b ≤ 223 → (l : List ℕ) → LaterBytes 0x80 0xBF 0 l ↔ IsUtf8 (b ∷ l)
second_of_two b low h l = (λ f. to l f, λ u. back (first_of_text b l u))
  where
    to : (l : List ℕ) → LaterBytes 0x80 0xBF 0 l → IsUtf8 (b ∷ l)
    to [] f = absurd f
    to (x ∷ l) f = with_first2 b x l low (omega arith) f.0 (omega (arith, f.1)) f.2

    back : First b l → LaterBytes 0x80 0xBF 0 l
    back (first1 k u) = absurd (omega arith)
    back (first2 x r is _ _ p q u) = subst (LaterBytes 0x80 0xBF 0) (sym is) (p, omega arith, u)
    back (first3 _ _ _ _ k _ _ _ _ _ _ _ _) = absurd (omega arith)
    back (first4 _ _ _ _ _ k _ _ _ _ _ _ _ _ _ _) = absurd (omega arith)

pub second_of_three : (b low high : ℕ) → 224 ≤ b → b ≤ 239 → 0x80 ≤ low → high ≤ 0xBF
    → ((x : ℕ) → low ≤ x → x ≤ high → (b ≡ 224 → 160 ≤ x) × (b ≡ 237 → x < 160)) → ((x : ℕ) → 128 ≤ x → x < 192 → (b ≡ 224 → 160 ≤ x) → (b ≡ 237 → x < 160) → (low ≤ x) × (x ≤ high))
    → (l : List ℕ) → LaterBytes low high 1 l ↔ IsUtf8 (b ∷ l)
second_of_three b low high least most under over narrow wide l = (λ f. to l f, λ u. back (first_of_text b l u))
  where
    to : (l : List ℕ) → LaterBytes low high 1 l → IsUtf8 (b ∷ l)
    to [] f = absurd f
    to (x ∷ []) f = absurd f.2
    to (x ∷ y ∷ l) f = let n = narrow x f.0 f.1 in with_first3 b x y l least (omega arith) (omega (arith, f.0)) (omega (arith, f.1)) f.2.0 (omega (arith, f.2.1)) n.0 n.1 f.2.2

    back : First b l → LaterBytes low high 1 l
    back (first1 k u) = absurd (omega arith)
    back (first2 _ _ _ _ k _ _ _) = absurd (omega arith)
    back (first3 x y r is _ _ p q s t m n u) = let w = wide x p q m n in subst (LaterBytes low high 1) (sym is) (w.0, w.1, (s, omega arith, u))
    back (first4 _ _ _ _ _ k _ _ _ _ _ _ _ _ _ _) = absurd (omega arith)

pub second_of_four : (b low high : ℕ) → 240 ≤ b → b ≤ 244 → 0x80 ≤ low → high ≤ 0xBF
    → ((x : ℕ) → low ≤ x → x ≤ high → (b ≡ 240 → 144 ≤ x) × (b ≡ 244 → x < 144)) → ((x : ℕ) → 128 ≤ x → x < 192 → (b ≡ 240 → 144 ≤ x) → (b ≡ 244 → x < 144) → (low ≤ x) × (x ≤ high))
    → (l : List ℕ) → LaterBytes low high 2 l ↔ IsUtf8 (b ∷ l)
second_of_four b low high least most under over narrow wide l = (λ f. to l f, λ u. back (first_of_text b l u))
  where
    to : (l : List ℕ) → LaterBytes low high 2 l → IsUtf8 (b ∷ l)
    to [] f = absurd f
    to (x ∷ []) f = absurd f.2
    to (x ∷ y ∷ []) f = absurd f.2.2
    to (x ∷ y ∷ z ∷ l) f =
        let n = narrow x f.0 f.1 in
        with_first4 b x y z l least (omega arith) (omega (arith, f.0)) (omega (arith, f.1)) f.2.0 (omega (arith, f.2.1)) f.2.2.0 (omega (arith, f.2.2.1)) n.0 n.1 f.2.2.2

    back : First b l → LaterBytes low high 2 l
    back (first1 k u) = absurd (omega arith)
    back (first2 _ _ _ _ k _ _ _) = absurd (omega arith)
    back (first3 _ _ _ _ _ k _ _ _ _ _ _ _) = absurd (omega arith)
    back (first4 x y z r is _ _ p q s t v w m n u) = let o = wide x p q m n in subst (LaterBytes low high 2) (sym is) (o.0, o.1, (s, omega arith, (v, omega arith, u)))

-- no character begins so
pub no_first : (b : ℕ) → 128 ≤ b → (b < 194) ⊎ (244 < b) → (l : List ℕ) → IsUtf8 (b ∷ l) → ⊥
no_first b high outside l u = back (first_of_text b l u)
  where
    back : First b l → ⊥
    back (first1 k _) = omega arith
    back (first2 _ _ _ k m _ _ _) = elim outside [ inl h ↦ omega arith | inr h ↦ omega arith ]
    back (first3 _ _ _ _ k m _ _ _ _ _ _ _) = elim outside [ inl h ↦ omega arith | inr h ↦ omega arith ]
    back (first4 _ _ _ _ _ k m _ _ _ _ _ _ _ _ _) = elim outside [ inl h ↦ omega arith | inr h ↦ omega arith ]

-- texts of a length don't begin one another
pub text_ends : (n : ℕ) (a r : List ℕ) → AText n a → AText n (a ++ r) → r ≡ []
text_ends n a [] f g = refl
text_ends n a (x ∷ r) f g = absurd (omega (arith, f.long, g.long, length-append a (x ∷ r)))

-- a reading of a text that has come to its byte i
pub text_goes : (n i : ℕ) (l : List ℕ) (due : Due) → i < n → i ≤ length l → IsFair due → needed due ≤ n - i → ((r : List ℕ) → MayFollow due r ↔ IsUtf8 (take i l ++ r)) → GoesOn (AText n) (take i l)
text_goes n i l due lt within fair le follow =
    let r = fill due (n - i) fair le in
    cut r.0 r.1 ((follow r.0).0 r.2)
  where
    cut : (r : List ℕ) → length r ≡ n - i → IsUtf8 (take i l ++ r) → GoesOn (AText n) (take i l)
    cut [] e u = absurd (omega arith)
    cut (x ∷ r) e u = record { next = x; rest = r; whole = record { long = omega (arith, length-append (take i l) (x ∷ r), length-take-le i l within, e); utf8 = u } }

pub text_misfits : (n i : ℕ) (l : List ℕ) (due : Due) → i < n → i < length l → IsFair due → needed due ≤ n - i → ((r : List ℕ) → MayFollow due r ↔ IsUtf8 (take i l ++ r))
    → ((r : List ℕ) → length r ≡ n - 1 - i → MayFollow due (get_or l i 0 ∷ r) → ⊥) → Misfits (AText n) l i
text_misfits n i l due lt within fair le follow none = record {
  within = within;
  fits = text_goes n i l due lt (omega arith) fair le follow;
  none = λ g.
      let e : suc i ≡ i + 1 = omega arith in
      let more : take (suc i) l ≡ take i l ++ get_or l i 0 ∷ [] = ap (λ (k : ℕ). take k l) e ∙ take_more l i 0 within in
      let whole : take (suc i) l ++ g.rest ≡ take i l ++ get_or l i 0 ∷ g.rest = ap (λ (k : List ℕ). k ++ g.rest) more ∙ append_assoc (take i l) (get_or l i 0 ∷ []) g.rest in
      let may = (follow (get_or l i 0 ∷ g.rest)).1 (subst IsUtf8 whole g.whole.utf8) in
      let long : length (take (suc i) l) + length g.rest ≡ n = sym (length-append (take (suc i) l) g.rest) ∙ g.whole.long in
      let cut : length (take (suc i) l) ≡ suc i = length-take-le (suc i) l (omega arith) in
      none g.rest (omega arith) may;
}

pub follow_more : (i : ℕ) (l : List ℕ) (due next : Due) → i < length l → ((r : List ℕ) → MayFollow due r ↔ IsUtf8 (take i l ++ r)) → ((r : List ℕ) → MayFollow next r ↔ MayFollow due (get_or l i 0 ∷ r))
    → (r : List ℕ) → MayFollow next r ↔ IsUtf8 (take (i + 1) l ++ r)
follow_more i l due next within follow step r =
    let whole : take (i + 1) l ++ r ≡ take i l ++ get_or l i 0 ∷ r = ap (λ (k : List ℕ). k ++ r) (take_more l i 0 within) ∙ append_assoc (take i l) (get_or l i 0 ∷ []) r in
    (λ f. subst IsUtf8 (sym whole) ((follow (get_or l i 0 ∷ r)).0 ((step r).0 f)), λ u. (step r).1 ((follow (get_or l i 0 ∷ r)).1 (subst IsUtf8 whole u)))

pub follow_end : (n i : ℕ) (l : List ℕ) (due : Due) → i ≡ n → i ≤ length l → needed due ≤ n - i → ((r : List ℕ) → MayFollow due r ↔ IsUtf8 (take i l ++ r)) → AText n (take i l)
follow_end n i l Start all there short follow = record { long = length-take-le i l there ∙ all; utf8 = subst IsUtf8 (append-nil (take i l)) ((follow []).0 IsUtf8-nil) }
follow_end n i l (Later low high more) all there short follow = absurd (omega arith)

pub stands_text : (n at : ℕ) (bytes : List ℕ) → n ≤ length (drop at bytes) → at ≤ length bytes → Stands (take n (drop at bytes)) bytes at (at + n)
stands_text n at bytes le within = record {
  split = sym (take-append-drop n (drop at bytes)) ∙ ap (λ (l : List ℕ). take n (drop at bytes) ++ l) (drop-drop n at bytes);
  ends = omega (arith, length-take-le n (drop at bytes) le);
  within = omega (arith, length-drop at bytes);
}
