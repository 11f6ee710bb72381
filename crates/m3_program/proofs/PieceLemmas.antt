-- A piece of the input at its first newline.
use Rattle.std.proofs.Common.{◌≡◌, ℕ, zero, suc, ◌+◌, ◌-◌, ◌<◌, List, [], ◌∷◌, ◌++◌, take, drop, length, length-drop, get_or, sym, ap, ◌∙◌, subst, inl, inr, arith}
use Rattle.std.specs.Prelude.{Some, None}
use Rattle.std.proofs.lemmas.Bool.{eqb-true, eq-eqb}
use Rattle.std.proofs.lemmas.List.{take_all}
use Rattle.memchr.specs.Find.{IsFirstByte, is_byte}
use Rattle.m3_model.specs.Members.{IsIn}
use Rattle.m3_program.specs.Streams.{NoNewline}

position_in : (n : ℕ) (xs : List ℕ) (b : ℕ) → IsIn (take n xs) b → (j : ℕ) × (j < n) × (j < length xs) × (get_or xs j 0 ≡ b)
position_in zero xs b h = absurd h
position_in (suc n) [] b h = absurd h
position_in (suc n) (x ∷ xs) b h =
    elim h as (λ _. (j : ℕ) × (j < suc n) × (j < suc (length xs)) × (get_or (x ∷ xs) j 0 ≡ b)) [
      | inl e ↦ (0, omega arith, omega arith, e)
      | inr m ↦ let found = position_in n xs b m in (suc found.0, let less = found.1 in omega arith, let less = found.2 in omega arith, found.3)
    ]

split_here : (xs : List ℕ) (k b : ℕ) → k < length xs → get_or xs k 0 ≡ b → xs ≡ (take k xs ++ b ∷ []) ++ drop (k + 1) xs
split_here [] k b h e = absurd (omega arith)
split_here (x ∷ xs) zero b h e = ap (λ y. y ∷ xs) e
split_here (x ∷ xs) (suc k) b h e =
    let next : suc k + 1 ≡ suc (k + 1) = omega arith in
    ap (λ ys. x ∷ ys) (split_here xs k b (omega arith) e) ∙ ap (λ n. (x ∷ (take k xs ++ b ∷ [])) ++ drop n (x ∷ xs)) (sym next)

-- no newline stands before the first one
pub before_newline : (hay : List ℕ) (k : ℕ) → IsFirstByte (is_byte 10) hay (Some k) → NoNewline (take k hay)
before_newline hay k h m =
    let at = position_in k hay 10 m in
    h.0.before at.0 (omega arith) at.1 (eq-eqb (get_or hay at.0 0) 10 at.3)

-- where there is none, none is in it
pub without_newline : (hay : List ℕ) → IsFirstByte (is_byte 10) hay None → NoNewline hay
without_newline hay h m =
    let whole : take (length hay) hay ≡ hay = take_all (length hay) hay (omega arith) in
    let at = position_in (length hay) hay 10 (subst (λ l. IsIn l 10) (sym whole) m) in
    h at.0 (omega arith) at.2 (eq-eqb (get_or hay at.0 0) 10 at.3)

-- the first line of a piece, its newline and the rest
pub at_newline : (hay : List ℕ) (k : ℕ) → IsFirstByte (is_byte 10) hay (Some k) → hay ≡ (take k hay ++ 10 ∷ []) ++ take (length hay - (k + 1)) (drop (k + 1) hay)
at_newline hay k h =
    let rest : take (length hay - (k + 1)) (drop (k + 1) hay) ≡ drop (k + 1) hay = take_all _ _ (omega (arith, length-drop (k + 1) hay)) in
    split_here hay k 10 h.0.high (eqb-true (get_or hay k 0) 10 h.1) ∙ ap (λ l. (take k hay ++ 10 ∷ []) ++ l) (sym rest)
