use Rattle.std.proofs.Common.{◌≡◌, ℕ, List, length, take, arith, rules, refl, subst}
use Rattle.fileset_check.proofs.GateLemmas.{differ_at, differ_end}
use Rattle.fileset_check.proofs.gate.first_difference.Goals as goal

pub loop-i-init : goal.loop-i-init
loop-i-init c = refl

pub returns-then-due-i-clause-some : goal.returns-then-due-i-clause-some
returns-then-due-i-clause-some c =
    let both = c.min-both.ensures in
    let test = c.loop-i-test.true in
    differ_at c.args.due.now c.args.bytes.now c.loop-i.i (omega (arith, both, test)) (omega (arith, both, test)) c.loop-i.invariant c.if-due-i.true

pub returns-clause-some : goal.returns-clause-some
returns-clause-some c =
    let end = c.loop-i-test.false in
    let top = c.loop-i.auto.i-end in
    let here : c.loop-i.i ≡ c.min-both.result = omega (arith, end, top) in
    differ_end c.args.due.now c.args.bytes.now c.min-both.result (search rules) c.if-due-bytes.false (subst (λ (n : ℕ). take n c.args.bytes.now ≡ take n c.args.due.now) here c.loop-i.invariant)
