-- The parts of a text of tags are texts.
use Rattle.std.proofs.Common.{◌≡◌, ℕ, suc, ◌+◌, ◌<◌, List, [], ◌∷◌, ◌++◌, length, drop, get_or, cond, Bool, true, false, ◌||◌, refl, sym, ap, ◌∙◌, subst, arith, append_assoc}
use Rattle.std.specs.Prelude.{◌==◌, IsUtf8}
use lib.Utf8.{encode}
use Rattle.std.proofs.Math.Seq.{take-append_seam}
use Rattle.std.proofs.lemmas.List.{length-append}
use Rattle.std.proofs.lemmas.Str.{IsUtf8-take, IsUtf8-drop, IsUtf8-append, IsCharBoundary-before_ascii, IsCharBoundary-after_ascii}
use Rattle.std.proofs.lemmas.Bool.{eqb-true}
use Rattle.m3_model.specs.Tags.{escaped, tag_text}
use Rattle.series_id.specs.Faults.{listed}
use Rattle.series_id.proofs.Unique.{tag_text-append}

at_seam : (a c : List ℕ) (b : ℕ) → get_or (a ++ b ∷ c) (length a) 0 ≡ b
at_seam [] c b = refl
at_seam (x ∷ a) c b = at_seam a c b

after_seam : (a c : List ℕ) (b : ℕ) → drop (suc (length a)) (a ++ b ∷ c) ≡ c
after_seam [] c b = refl
after_seam (x ∷ a) c b = after_seam a c b

seam_within : (a c : List ℕ) (b : ℕ) → length a < length (a ++ b ∷ c)
seam_within a c b = omega (arith, length-append a (b ∷ c))

pub utf8_before : (a c : List ℕ) (b : ℕ) → b < 128 → IsUtf8 (a ++ b ∷ c) → IsUtf8 a
utf8_before a c b ascii u =
    let at : get_or (a ++ b ∷ c) (length a) 0 < 128 = omega (arith, at_seam a c b) in
    subst IsUtf8 (take-append_seam a (b ∷ c)) (IsUtf8-take (a ++ b ∷ c) (length a) u (IsCharBoundary-before_ascii (a ++ b ∷ c) (length a) (seam_within a c b) at))

pub utf8_after : (a c : List ℕ) (b : ℕ) → b < 128 → IsUtf8 (a ++ b ∷ c) → IsUtf8 c
utf8_after a c b ascii u =
    let at : get_or (a ++ b ∷ c) (length a) 0 < 128 = omega (arith, at_seam a c b) in
    let more : length a + 1 ≡ suc (length a) = omega arith in
    subst IsUtf8 (ap (λ n. drop n (a ++ b ∷ c)) more ∙ after_seam a c b) (IsUtf8-drop (a ++ b ∷ c) (length a + 1) u (IsCharBoundary-after_ascii (a ++ b ∷ c) (length a) u (seam_within a c b) at))

-- a text stays one where each marking `\` is left out; x stands before it
unmarked : (x v : List ℕ) → IsUtf8 (x ++ escaped v) → IsUtf8 (x ++ v)
unmarked x [] u = u
unmarked x (b ∷ v) u = by_test (b == 34 || b == 92) u (unmarked (x ++ b ∷ []) v)
  where
    shift : (w : List ℕ) → (x ++ b ∷ []) ++ w ≡ x ++ b ∷ w
    shift w = append_assoc x (b ∷ []) w

    by_test : (t : Bool) → IsUtf8 (x ++ cond t (92 ∷ b ∷ escaped v) (b ∷ escaped v)) → (IsUtf8 ((x ++ b ∷ []) ++ escaped v) → IsUtf8 ((x ++ b ∷ []) ++ v)) → IsUtf8 (x ++ b ∷ v)
    by_test false h again = subst IsUtf8 (shift v) (again (subst IsUtf8 (sym (shift (escaped v))) h))
    by_test true h again =
        let before : IsUtf8 x = utf8_before x (b ∷ escaped v) 92 (omega arith) h in
        let after : IsUtf8 (b ∷ escaped v) = utf8_after x (b ∷ escaped v) 92 (omega arith) h in
        subst IsUtf8 (shift v) (again (subst IsUtf8 (sym (shift (escaped v))) (IsUtf8-append x (b ∷ escaped v) before after)))

utf8_listed : (tags : List (List ℕ × List ℕ)) (rest : List ℕ) → IsUtf8 (listed tags ++ rest) → IsUtf8 rest
utf8_listed [] rest u = u
utf8_listed (t ∷ tags) rest u = utf8_listed tags rest (utf8_after (tag_text t) (listed tags ++ rest) 44 (omega arith) (subst IsUtf8 (append_assoc (tag_text t) (44 ∷ listed tags) rest) u))

-- the name and the value of a tag in a text
pub utf8_tag : (text : List ℕ) (tags : List (List ℕ × List ℕ)) (tag : List ℕ × List ℕ) (later : List ℕ) → IsUtf8 text → text ≡ 123 ∷ listed tags ++ (tag_text tag ++ later) → IsUtf8 tag.0 × IsUtf8 tag.1
utf8_tag text tags tag later u e =
    let inside : IsUtf8 (listed tags ++ (tag_text tag ++ later)) = utf8_after [] (listed tags ++ (tag_text tag ++ later)) 123 (omega arith) (subst IsUtf8 e u) in
    let here : IsUtf8 (tag.0 ++ (61 ∷ 34 ∷ (escaped tag.1 ++ 34 ∷ later))) = subst IsUtf8 (tag_text-append tag later) (utf8_listed tags (tag_text tag ++ later) inside) in
    let quoted : IsUtf8 (34 ∷ (escaped tag.1 ++ 34 ∷ later)) = utf8_after tag.0 (34 ∷ (escaped tag.1 ++ 34 ∷ later)) 61 (omega arith) here in
    let value : IsUtf8 (escaped tag.1) = utf8_before (escaped tag.1) later 34 (omega arith) (utf8_after [] (escaped tag.1 ++ 34 ∷ later) 34 (omega arith) quoted) in
    (utf8_before tag.0 (34 ∷ (escaped tag.1 ++ 34 ∷ later)) 61 (omega arith) here, unmarked [] tag.1 value)

drop_seam : (a c : List ℕ) (b : ℕ) → drop (length a) (a ++ b ∷ c) ≡ b ∷ c
drop_seam [] c b = refl
drop_seam (x ∷ a) c b = drop_seam a c b

utf8_from : (a c : List ℕ) (b : ℕ) → b < 128 → IsUtf8 (a ++ b ∷ c) → IsUtf8 (b ∷ c)
utf8_from a c b ascii u =
    let at : get_or (a ++ b ∷ c) (length a) 0 < 128 = omega (arith, at_seam a c b) in
    subst IsUtf8 (drop_seam a c b) (IsUtf8-drop (a ++ b ∷ c) (length a) u (IsCharBoundary-before_ascii (a ++ b ∷ c) (length a) (seam_within a c b) at))

special_ascii : (b : ℕ) → (b == 34 || b == 92) ≡ true → b < 128
special_ascii b e = by_test (b == 34) refl e
  where
    by_test : (t : Bool) → (b == 34) ≡ t → (t || b == 92) ≡ true → b < 128
    by_test true f g = omega (arith, eqb-true b 34 f)
    by_test false f g = omega (arith, eqb-true b 92 g)

-- a text stays one where it is marked by `\`; x stands before it
marked : (x v : List ℕ) → IsUtf8 (x ++ v) → IsUtf8 (x ++ escaped v)
unfolding encode
marked x [] u = u
marked x (b ∷ v) u = by_test (b == 34 || b == 92) refl (marked (x ++ b ∷ []) v) (marked (x ++ 92 ∷ b ∷ []) v)
  where
    by_test : (t : Bool) → (b == 34 || b == 92) ≡ t → (IsUtf8 ((x ++ b ∷ []) ++ v) → IsUtf8 ((x ++ b ∷ []) ++ escaped v)) → (IsUtf8 ((x ++ 92 ∷ b ∷ []) ++ v) → IsUtf8 ((x ++ 92 ∷ b ∷ []) ++ escaped v))
        → IsUtf8 (x ++ cond t (92 ∷ b ∷ escaped v) (b ∷ escaped v))
    by_test false e plain special = subst IsUtf8 (append_assoc x (b ∷ []) (escaped v)) (plain (subst IsUtf8 (sym (append_assoc x (b ∷ []) v)) u))
    by_test true e plain special =
        let before : IsUtf8 x = utf8_before x v b (special_ascii b e) u in
        let from : IsUtf8 (b ∷ v) = utf8_from x v b (special_ascii b e) u in
        let slash : IsUtf8 (92 ∷ []) = (92 ∷ [], (refl, refl)) in
        let more : IsUtf8 (x ++ 92 ∷ b ∷ v) = subst IsUtf8 (append_assoc x (92 ∷ []) (b ∷ v)) (IsUtf8-append (x ++ 92 ∷ []) (b ∷ v) (IsUtf8-append x (92 ∷ []) before slash) from) in
        subst IsUtf8 (append_assoc x (92 ∷ b ∷ []) (escaped v)) (special (subst IsUtf8 (sym (append_assoc x (92 ∷ b ∷ []) v)) more))

pub utf8_tag_text : (tag : List ℕ × List ℕ) → IsUtf8 tag.0 → IsUtf8 tag.1 → IsUtf8 (tag_text tag)
unfolding encode
utf8_tag_text tag un uv =
    let opening : IsUtf8 (61 ∷ 34 ∷ []) = (61 ∷ 34 ∷ [], (refl, refl)) in
    let quote : IsUtf8 (34 ∷ []) = (34 ∷ [], (refl, refl)) in
    let front : IsUtf8 (tag.0 ++ 61 ∷ 34 ∷ []) = IsUtf8-append tag.0 (61 ∷ 34 ∷ []) un opening in
    IsUtf8-append ((tag.0 ++ 61 ∷ 34 ∷ []) ++ escaped tag.1) (34 ∷ []) (IsUtf8-append (tag.0 ++ 61 ∷ 34 ∷ []) (escaped tag.1) front (marked [] tag.1 uv)) quote

pub utf8_mark : (mark : ℕ) (b : Bool) → mark ≡ cond b 123 44 → IsUtf8 (mark ∷ [])
unfolding encode
utf8_mark mark true e = let brace : IsUtf8 (123 ∷ []) = (123 ∷ [], (refl, refl)) in subst (λ m. IsUtf8 (m ∷ [])) (sym e) brace
utf8_mark mark false e = let comma : IsUtf8 (44 ∷ []) = (44 ∷ [], (refl, refl)) in subst (λ m. IsUtf8 (m ∷ [])) (sym e) comma

pub utf8_brace : IsUtf8 (125 ∷ [])
unfolding encode
utf8_brace = (125 ∷ [], (refl, refl))
