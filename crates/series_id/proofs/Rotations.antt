-- What a rotation gives, as a sum.
use Rattle.std.proofs.Common.{◌≡◌, ℕ, ◌+◌, ◌-◌, ◌*◌, ◌/◌, ◌%◌, ◌^◌, ◌<◌, sym, ap, ◌∙◌, subst, arith, bit_or, add-zero}
use Rattle.std.specs.Int.{w32, rotate_left}
use Rattle.std.proofs.lemmas.Nat.{or_shifted, shr_below, mod-pow-add, shl-shr}
use Rattle.std.proofs.Math.Nat.{mod-eq_of_lt, mul-mod_left}
use Rattle.m3_model.specs.Hash.{rotated}

-- the lower part of a word, shifted to the left
shifted : (word k j : ℕ) → j + k ≡ 32 → (word * 2 ^ k) % 2 ^ 32 ≡ (word % 2 ^ j) * 2 ^ k
shifted word k j e =
    ap (λ n. (word * 2 ^ k) % 2 ^ n) (sym e) ∙ mod-pow-add (word * 2 ^ k) j k
    ∙ ap (λ n. (n % 2 ^ j) * 2 ^ k + (word * 2 ^ k) % 2 ^ k) (shl-shr word k)
    ∙ ap (λ n. (word % 2 ^ j) * 2 ^ k + n) (mul-mod_left word (2 ^ k)) ∙ add-zero _

pub rotate_left-rotated : (word bits : ℕ) → word < 2 ^ 32 → 0 < bits → bits < 32 → rotate_left w32 word bits ≡ rotated word bits
rotate_left-rotated word bits fits above below =
    let whole : 32 ≡ bits + (32 - bits) = omega arith in
    let low : word / 2 ^ (32 - bits) < 2 ^ bits = shr_below word bits (32 - bits) (subst (λ n. word < 2 ^ n) whole fits) in
    let high : (word * 2 ^ bits) % 2 ^ 32 ≡ (word % 2 ^ (32 - bits)) * 2 ^ bits = shifted word bits (32 - bits) (omega arith) in
    ap (λ b. bit_or ((word * 2 ^ b) % 2 ^ 32) (word / 2 ^ ((32 - b) % 32))) (mod-eq_of_lt below)
    ∙ ap (λ b. bit_or ((word * 2 ^ bits) % 2 ^ 32) (word / 2 ^ b)) (mod-eq_of_lt (omega arith))
    ∙ ap (λ x. bit_or x (word / 2 ^ (32 - bits))) high
    ∙ or_shifted (word % 2 ^ (32 - bits)) bits (word / 2 ^ (32 - bits)) low
    ∙ ap (λ x. x + word / 2 ^ (32 - bits)) (sym high)
