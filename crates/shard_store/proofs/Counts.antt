-- Counts of faults over calls.
use Rattle.std.proofs.Common.{ℕ, arith}
use Rattle.m3_outside.specs.Causes.{CountsFaults}

-- two counts, one after the other
pub counts_both : (f g : Type 0) (a b c : ℕ) → CountsFaults f a b → CountsFaults g b c → CountsFaults g a c
counts_both f g a b c one two = record { later = omega (arith, one.later, two.later); stays = λ e. two.stays (one.stays e); rose = λ h. let r = two.rose h in omega (arith, one.later, r) }

pub counts_for : (f g : Type 0) (a b : ℕ) → (g → f) → CountsFaults f a b → CountsFaults g a b
counts_for f g a b to one = record { later = one.later; stays = one.stays; rose = λ h. one.rose (to h) }
