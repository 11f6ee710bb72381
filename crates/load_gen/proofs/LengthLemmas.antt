-- How many requests a script has.
use Rattle.std.proofs.Common.{◌≡◌, ◌++◌, ◌+◌, ℕ, suc, zero, [], ◌∷◌, Bool, true, false, length, cond, refl, ap, ◌∙◌, arith, length-append}
use Rattle.std.specs.Prelude.{◌==◌, ◌%◌}
use Rattle.m3_model.specs.declared.turn.Request.{Request}
use Rattle.load_gen.specs.Draws.{drawn, after_writes}
use Rattle.load_gen.specs.Lines.{replace_line, bootstrap_line, flush_line, snapshot_line}
use Rattle.load_gen.specs.Script.{moment_of, writes, move_at, flushes_at, round, rounds, script}
use Rattle.load_gen.proofs.LeftLemmas.{rounds-none, rounds-more}

length-writes : (k moment x : ℕ) → length (writes k moment x) ≡ k
unfolding writes
length-writes zero moment x = refl
length-writes (suc k) moment x = ap suc (length-writes k moment (drawn (drawn x)))

length-two : (b : Bool) (one other : Request) → length (cond b (one ∷ other ∷ []) []) ≡ cond b 2 0
length-two true one other = refl
length-two false one other = refl

-- the length of the round of a moment, and of so many rounds with the match
abbrev round_lines : ℕ → ℕ
round_lines moment = 11 + (cond (moment == 250) 2 0 + cond (moment % 100 == 0) 2 0)

unfoldable lines_of : ℕ → ℕ
lines_of zero = 1
lines_of (suc k) = round_lines (moment_of k) + lines_of k

length-round : (moment x : ℕ) → length (round moment x) ≡ round_lines moment
length-round moment x =
    let all = length-append (writes 10 moment x) (move_at moment ++ flushes_at moment) in
    let behind = length-append (move_at moment) (flushes_at moment) in
    let ten = length-writes 10 moment x in
    let moved = length-two (moment == 250) replace_line bootstrap_line in
    let flushed = length-two (moment % 100 == 0) flush_line snapshot_line in
    omega (arith, all, behind, ten, moved, flushed)

length-rounds : (k x : ℕ) → length (rounds k x) ≡ lines_of k
unfolding lines_of
length-rounds zero x = ap length (rounds-none x)
length-rounds (suc k) x =
    ap length (rounds-more k x) ∙ length-append (round (moment_of k) x) (rounds k (after_writes 10 x))
    ∙ ap (λ n. n + length (rounds k (after_writes 10 x))) (length-round (moment_of k) x) ∙ ap (λ n. round_lines (moment_of k) + n) (length-rounds k (after_writes 10 x))

all_rounds : lines_of 500 ≡ 5513
unfolding lines_of
all_rounds = refl

pub length-script : (n : ℕ) → length (script n) ≡ 5515
length-script n = ap (λ k. suc (suc k)) (length-rounds 500 n ∙ all_rounds)
