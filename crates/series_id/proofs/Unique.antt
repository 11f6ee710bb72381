-- A text has at most one spelling.
use Rattle.std.proofs.Common.{◌≡◌, ℕ, List, [], ◌∷◌, ◌++◌, map, cond, Bool, true, false, ◌&&◌, ◌||◌, not, IsTrue, refl, sym, ap, ◌∙◌, subst, append_assoc}
use Rattle.std.specs.Prelude.{◌==◌}
use Rattle.std.specs.List.{list_all, join_with_byte}
use Rattle.std.proofs.lemmas.Bool.{and_parts, or_parts}
use Rattle.m3_model.specs.Names.{is_letter, is_digit}
use Rattle.m3_model.specs.Tags.{is_tag_name, escaped, tag_text}
use Rattle.series_id.specs.Names.{is_later_byte, ends_name}
use Rattle.series_id.specs.Faults.{escapes_nothing, MayFollow}
use Rattle.series_id.proofs.Names.{later_of_first}

true_or_false : (t : Bool) → t ≡ true → not t ≡ true → ⊥
true_or_false true e f = cc
true_or_false false e f = cc

-- a name ends where no byte of a name follows
pub same_name : (n m x y : List ℕ) → list_all is_later_byte n ≡ true → list_all is_later_byte m ≡ true → IsTrue (ends_name x) → IsTrue (ends_name y) → n ++ x ≡ m ++ y → (n ≡ m) × (x ≡ y)
same_name [] [] x y hn hm hx hy e = (refl, e)
same_name [] (b ∷ m) x y hn hm hx hy e = absurd (true_or_false (is_later_byte b) (and_parts _ _ hm).0 (subst (λ z. IsTrue (ends_name z)) e hx))
same_name (a ∷ n) [] x y hn hm hx hy e = absurd (true_or_false (is_later_byte a) (and_parts _ _ hn).0 (subst (λ z. IsTrue (ends_name z)) (sym e) hy))
same_name (a ∷ n) (b ∷ m) x y hn hm hx hy e =
    let first : a ≡ b = cc in
    let more : n ++ x ≡ m ++ y = cc in
    let rest = same_name n m x y (and_parts (is_later_byte a) _ hn).1 (and_parts (is_later_byte b) _ hm).1 hx hy more in
    (λ i. first i ∷ rest.0 i, rest.1)

pub name_bytes : (name : List ℕ) → IsTrue (is_tag_name name) → list_all is_later_byte name ≡ true
name_bytes [] h = cc
name_bytes (b ∷ bs) h =
    let parts = and_parts (is_letter b || b == 95) (list_all is_later_byte bs) h in
    ap (λ t. t && list_all is_later_byte bs) (later_of_first (is_letter b) (is_digit b) (b == 95) parts.0) ∙ parts.1

-- no further byte of a spelled value stands here
abbrev pub stops : List ℕ → Bool
stops [] = true
stops (b ∷ bs) = b == 34 || (b == 92 && escapes_nothing bs)

-- a value that goes on doesn't stop
goes_on : (b : ℕ) (w y : List ℕ) → stops (escaped (b ∷ w) ++ y) ≡ false
goes_on b w y = by_test (b == 34 || b == 92) refl
  where
    by_test : (t : Bool) → (b == 34 || b == 92) ≡ t → stops (cond t (92 ∷ b ∷ escaped w) (b ∷ escaped w) ++ y) ≡ false
    by_test true e = ap not e
    by_test false e = let both = or_parts (b == 34) (b == 92) e in ap (λ t. t || (b == 92 && escapes_nothing (escaped w ++ y))) both.0 ∙ ap (λ t. t && escapes_nothing (escaped w ++ y)) both.1

pub same_value : (v w x y : List ℕ) → stops x ≡ true → stops y ≡ true → escaped v ++ x ≡ escaped w ++ y → (v ≡ w) × (x ≡ y)
same_value [] [] x y hx hy e = (refl, e)
same_value [] (b ∷ w) x y hx hy e = let never : true ≡ false = sym hx ∙ ap stops e ∙ goes_on b w y in cc
same_value (a ∷ v) [] x y hx hy e = let never : true ≡ false = sym hy ∙ ap stops (sym e) ∙ goes_on a v x in cc
same_value (a ∷ v) (b ∷ w) x y hx hy e = by_tests (a == 34 || a == 92) (b == 34 || b == 92) refl refl e (same_value v w x y hx hy)
  where
    by_tests : (s t : Bool) → (a == 34 || a == 92) ≡ s → (b == 34 || b == 92) ≡ t
        → cond s (92 ∷ a ∷ escaped v) (a ∷ escaped v) ++ x ≡ cond t (92 ∷ b ∷ escaped w) (b ∷ escaped w) ++ y
        → (escaped v ++ x ≡ escaped w ++ y → (v ≡ w) × (x ≡ y)) → (a ∷ v ≡ b ∷ w) × (x ≡ y)
    by_tests true true sa sb f again =
        let first : a ≡ b = cc in
        let more : escaped v ++ x ≡ escaped w ++ y = cc in
        let rest = again more in
        (λ i. first i ∷ rest.0 i, rest.1)
    by_tests false false sa sb f again =
        let first : a ≡ b = cc in
        let more : escaped v ++ x ≡ escaped w ++ y = cc in
        let rest = again more in
        (λ i. first i ∷ rest.0 i, rest.1)
    by_tests true false sa sb f again =
        let first : 92 ≡ b = cc in
        let never : true ≡ false = ap (λ c. c == 34 || c == 92) first ∙ sb in
        cc
    by_tests false true sa sb f again =
        let first : 92 ≡ a = cc in
        let never : true ≡ false = ap (λ c. c == 34 || c == 92) first ∙ sa in
        cc

pub tag_text-append : (tag : List ℕ × List ℕ) (x : List ℕ) → tag_text tag ++ x ≡ tag.0 ++ (61 ∷ 34 ∷ (escaped tag.1 ++ 34 ∷ x))
tag_text-append tag x =
    append_assoc ((tag.0 ++ 61 ∷ 34 ∷ []) ++ escaped tag.1) (34 ∷ []) x ∙ append_assoc (tag.0 ++ 61 ∷ 34 ∷ []) (escaped tag.1) (34 ∷ x) ∙ append_assoc tag.0 (61 ∷ 34 ∷ []) (escaped tag.1 ++ 34 ∷ x)

-- a tag is told by the text that begins with it
pub same_tag : (t s : List ℕ × List ℕ) (x y : List ℕ) → IsTrue (is_tag_name t.0) → IsTrue (is_tag_name s.0) → tag_text t ++ x ≡ tag_text s ++ y → (t ≡ s) × (x ≡ y)
same_tag t s x y ht hs e =
    let names = same_name t.0 s.0 (61 ∷ 34 ∷ (escaped t.1 ++ 34 ∷ x)) (61 ∷ 34 ∷ (escaped s.1 ++ 34 ∷ y)) (name_bytes t.0 ht) (name_bytes s.0 hs) refl refl (sym (tag_text-append t x) ∙ e ∙ tag_text-append s y) in
    let later : 61 ∷ 34 ∷ (escaped t.1 ++ 34 ∷ x) ≡ 61 ∷ 34 ∷ (escaped s.1 ++ 34 ∷ y) = names.1 in
    let quoted : escaped t.1 ++ 34 ∷ x ≡ escaped s.1 ++ 34 ∷ y = cc in
    let values = same_value t.1 s.1 (34 ∷ x) (34 ∷ y) refl refl quoted in
    let behind : 34 ∷ x ≡ 34 ∷ y = values.1 in
    let rest : x ≡ y = cc in
    (λ i. (names.0 i, values.0 i), rest)

-- what follows the first tag
abbrev pub tail_of : List (List ℕ × List ℕ) → List ℕ
tail_of [] = 125 ∷ []
tail_of (tag ∷ tags) = 44 ∷ (tag_text tag ++ tail_of tags)

pub joined_tail : (tag : List ℕ × List ℕ) (tags : List (List ℕ × List ℕ)) → join_with_byte 44 (map tag_text (tag ∷ tags)) ++ 125 ∷ [] ≡ tag_text tag ++ tail_of tags
joined_tail tag [] = refl
joined_tail tag (u ∷ tags) = append_assoc (tag_text tag) (44 ∷ join_with_byte 44 (map tag_text (u ∷ tags))) (125 ∷ []) ∙ ap (λ xs. tag_text tag ++ 44 ∷ xs) (joined_tail u tags)

pub same_tags : (before : List ℕ) (t s : List ℕ × List ℕ) (ts ss : List (List ℕ × List ℕ)) → MayFollow before (t ∷ ts) → MayFollow before (s ∷ ss) → tag_text t ++ tail_of ts ≡ tag_text s ++ tail_of ss → t ∷ ts ≡ s ∷ ss
same_tags before t s [] [] ht hs e = let one = same_tag t s _ _ ht.0 hs.0 e in ap (λ x. x ∷ []) one.0
same_tags before t s [] (w ∷ ss) ht hs e = let one : (t ≡ s) × (125 ∷ [] ≡ 44 ∷ (tag_text w ++ tail_of ss)) = same_tag t s _ _ ht.0 hs.0 e in let never : 125 ∷ [] ≡ 44 ∷ (tag_text w ++ tail_of ss) = one.1 in cc
same_tags before t s (u ∷ ts) [] ht hs e = let one : (t ≡ s) × (44 ∷ (tag_text u ++ tail_of ts) ≡ 125 ∷ []) = same_tag t s _ _ ht.0 hs.0 e in let never : 44 ∷ (tag_text u ++ tail_of ts) ≡ 125 ∷ [] = one.1 in cc
same_tags before t s (u ∷ ts) (w ∷ ss) ht hs e =
    let one : (t ≡ s) × (44 ∷ (tag_text u ++ tail_of ts) ≡ 44 ∷ (tag_text w ++ tail_of ss)) = same_tag t s _ _ ht.0 hs.0 e in
    let next : 44 ∷ (tag_text u ++ tail_of ts) ≡ 44 ∷ (tag_text w ++ tail_of ss) = one.1 in
    let more : tag_text u ++ tail_of ts ≡ tag_text w ++ tail_of ss = cc in
    let follow : MayFollow t.0 (w ∷ ss) = subst (λ x. MayFollow x.0 (w ∷ ss)) (sym one.0) hs.2 in
    let rest : u ∷ ts ≡ w ∷ ss = same_tags t.0 u w ts ss ht.2 follow more in
    λ i. one.0 i ∷ rest i
