-- Values as they are spelled.
use Rattle.std.proofs.Common.{◌≡◌, ℕ, suc, ◌+◌, ◌<◌, ◌≤◌, List, [], ◌∷◌, ◌++◌, length, drop, get_or, cond, Bool, true, false, ◌||◌, ◌≢◌, refl, sym, ap, ◌∙◌, arith, append_assoc}
use Rattle.std.specs.Prelude.{◌==◌}
use Rattle.std.proofs.Math.Seq.{drop-cons}
use Rattle.std.proofs.lemmas.Bool.{ne_eqb, or_from, not-false}
use Rattle.std.proofs.lemmas.List.{length-append, length-drop}
use Rattle.m3_model.specs.Tags.{escaped}
use Rattle.series_id.specs.Faults.{escapes_nothing}

pub escaped-append : (v w : List ℕ) → escaped (v ++ w) ≡ escaped v ++ escaped w
escaped-append [] w = refl
escaped-append (b ∷ v) w = by_test (b == 34 || b == 92) (escaped-append v w)
  where
    by_test : (t : Bool) → escaped (v ++ w) ≡ escaped v ++ escaped w → cond t (92 ∷ b ∷ escaped (v ++ w)) (b ∷ escaped (v ++ w)) ≡ cond t (92 ∷ b ∷ escaped v) (b ∷ escaped v) ++ escaped w
    by_test true e = ap (λ xs. 92 ∷ b ∷ xs) e
    by_test false e = ap (λ xs. b ∷ xs) e

-- the first n bytes of a text spell a value
pub record IsSpelled (text : List ℕ) (n : ℕ) : Type 0 where
  pub value : List ℕ
  pub split : text ≡ escaped value ++ drop n text
  pub len : n ≡ length (escaped value)
  pub within : n ≤ length text

pub spelled_none : (text : List ℕ) → IsSpelled text 0
spelled_none text = record { value = []; split = refl; len = refl; within = omega arith }

-- a few bytes more, which spell one more
spelled_more : (text : List ℕ) (n k b : ℕ) (piece : List ℕ) → IsSpelled text n → escaped (b ∷ []) ≡ piece → drop n text ≡ piece ++ drop (n + k) text → k ≡ length piece → n + k ≤ length text → IsSpelled text (n + k)
spelled_more text n k b piece s spells more len within =
    let all : escaped (s.value ++ b ∷ []) ≡ escaped s.value ++ piece = escaped-append s.value (b ∷ []) ∙ ap (λ xs. escaped s.value ++ xs) spells in
    record {
      value = s.value ++ b ∷ [];
      split = s.split ∙ ap (λ xs. escaped s.value ++ xs) more ∙ sym (append_assoc (escaped s.value) piece (drop (n + k) text)) ∙ ap (λ xs. xs ++ drop (n + k) text) (sym all);
      len = omega (arith, s.len, ap length all, length-append (escaped s.value) piece);
      within = within;
    }

pub drop_one : (text : List ℕ) (n : ℕ) → n < length text → drop n text ≡ get_or text n 0 ∷ drop (n + 1) text
drop_one text n h = let more : suc n ≡ n + 1 = omega arith in drop-cons text n 0 h ∙ ap (λ k. get_or text n 0 ∷ drop k text) more

pub spelled_plain : (text : List ℕ) (n : ℕ) → IsSpelled text n → n < length text → get_or text n 0 ≢ 34 → get_or text n 0 ≢ 92 → IsSpelled text (n + 1)
spelled_plain text n s h quote slash =
    let b : ℕ = get_or text n 0 in
    let plain : (b == 34 || b == 92) ≡ false = or_from (b == 34) (b == 92) (ne_eqb b 34 quote) (ne_eqb b 92 slash) in
    spelled_more text n 1 b (b ∷ []) s (ap (λ t. cond t (92 ∷ b ∷ []) (b ∷ [])) plain) (drop_one text n h) refl (omega arith)

pub spelled_marked : (text : List ℕ) (n : ℕ) → IsSpelled text n → n < length text → get_or text n 0 ≡ 92 → escapes_nothing (drop (n + 1) text) ≡ false → IsSpelled text (n + 2)
spelled_marked text n s h slash marked = by_rest (drop (n + 1) text) refl marked
  where
    by_rest : (rest : List ℕ) → drop (n + 1) text ≡ rest → escapes_nothing rest ≡ false → IsSpelled text (n + 2)
    by_rest [] e m = cc
    by_rest (b ∷ rest) e m =
        let special : (b == 34 || b == 92) ≡ true = not-false (b == 34 || b == 92) m in
        let long : n + 1 < length text = omega (arith, length-drop (n + 1) text, ap length e) in
        let second : get_or text (n + 1) 0 ∷ drop (n + 1 + 1) text ≡ b ∷ rest = sym (drop_one text (n + 1) long) ∙ e in
        let first : drop n text ≡ 92 ∷ get_or text (n + 1) 0 ∷ drop (n + 1 + 1) text = drop_one text n h ∙ ap (λ x. x ∷ drop (n + 1) text) slash ∙ ap (λ xs. 92 ∷ xs) (drop_one text (n + 1) long) in
        let shift : n + 1 + 1 ≡ n + 2 = omega arith in
        spelled_more text n 2 b (92 ∷ b ∷ []) s (ap (λ t. cond t (92 ∷ b ∷ []) (b ∷ [])) special)
        (first ∙ ap (λ xs. 92 ∷ xs) (ap (λ x. x ∷ drop (n + 1 + 1) text) (cc)) ∙ ap (λ k. 92 ∷ b ∷ drop k text) shift) refl (omega arith)
