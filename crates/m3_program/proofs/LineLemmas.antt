-- The lines of an input.
use Rattle.std.proofs.Common.{◌≡◌, ℕ, ◌<◌, List, [], ◌∷◌, ◌++◌, map, length, refl, ap, ◌∙◌, inl, inr, append_assoc, arith, false, cond}
use Rattle.std.specs.Prelude.{nat_eq}
use Rattle.std.proofs.lemmas.Bool.{ne_eqb}
use Rattle.m3_model.specs.Members.{IsIn}
use Rattle.m3_program.specs.Exchanges.{Exchange}
use Rattle.m3_program.specs.Runs.{lines_of, with_byte, lines_text}
use Rattle.m3_program.specs.Streams.{NoNewline}

no_newline : (b : ℕ) (line : List ℕ) → NoNewline (b ∷ line) → nat_eq b 10 ≡ false
no_newline b line h = ne_eqb b 10 (λ e. h (inl e))

-- a line with its newline, before other bytes
pub lines_of-line : (line rest : List ℕ) → NoNewline line → lines_of ((line ++ 10 ∷ []) ++ rest) ≡ line ∷ lines_of rest
lines_of-line [] rest h = refl
lines_of-line (b ∷ line) rest h =
    ap (λ t. cond t ([] ∷ lines_of ((line ++ 10 ∷ []) ++ rest)) (with_byte b (lines_of ((line ++ 10 ∷ []) ++ rest)))) (no_newline b line h) ∙ ap (with_byte b) (lines_of-line line rest (λ m. h (inr m)))

-- a last line without newline
pub lines_of-last : (line : List ℕ) → NoNewline line → 0 < length line → lines_of line ≡ line ∷ []
lines_of-last [] h some = absurd (omega arith)
lines_of-last (b ∷ []) h some = ap (λ t. cond t ([] ∷ []) ((b ∷ []) ∷ [])) (no_newline b [] h)
lines_of-last (b ∷ c ∷ line) h some =
    ap (λ t. cond t ([] ∷ lines_of (c ∷ line)) (with_byte b (lines_of (c ∷ line)))) (no_newline b (c ∷ line) h) ∙ ap (with_byte b) (lines_of-last (c ∷ line) (λ m. h (inr m)) (omega arith))

-- lines with their newlines, before other bytes
pub lines_of-lines : (xs : List Exchange) (rest : List ℕ) → ((x : Exchange) → IsIn xs x → NoNewline x.line) → lines_of (lines_text xs ++ rest) ≡ map (λ x. x.line) xs ++ lines_of rest
lines_of-lines [] rest h = refl
lines_of-lines (x ∷ xs) rest h =
    ap lines_of (append_assoc (x.line ++ 10 ∷ []) (lines_text xs) rest) ∙ lines_of-line x.line (lines_text xs ++ rest) (h x (inl refl)) ∙ ap (λ ls. x.line ∷ ls) (lines_of-lines xs rest (λ y m. h y (inr m)))
