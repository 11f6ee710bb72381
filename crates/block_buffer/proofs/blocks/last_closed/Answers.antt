use Rattle.std.proofs.Common.{◌≡◌, ℕ, ◌<◌, ◌≤◌, ◌+◌, ◌-◌, ◌%◌, ap, sym, ◌∙◌, rules, arith}
use Rattle.block_buffer.proofs.ClosedTimes.{none_closed_early, none_closed, closed_up_to}
use Rattle.block_buffer.proofs.blocks.last_closed.Goals as goal

pub returns-in_err-taken_from-clause-none : goal.returns-in_err-taken_from-clause-none
returns-in_err-taken_from-clause-none c e t =
    let early : c.args.now < c.args.space.now.past = search rules in
    none_closed_early _ c.args.space.now.block c.args.space.now.past c.args.now early

pub returns-then-end-eq0-clause-none : goal.returns-then-end-eq0-clause-none
returns-then-end-eq0-clause-none c e t =
    let reached : c.args.space.now.past ≤ c.args.now = search rules in
    let is : c.in_ok-taken_from.taken_from ≡ c.args.now - c.args.space.now.past = search rules in
    none_closed c.args.space.now.block c.args.space.now.past c.args.now t c.requires reached (sym (ap (λ (n : ℕ). n - n % c.args.space.now.block) is) ∙ c.if-end-eq0.true)

pub returns-clause-some : goal.returns-clause-some
returns-clause-some c t =
    let reached : c.args.space.now.past ≤ c.args.now = search rules in
    let is : c.in_ok-taken_from.taken_from ≡ c.args.now - c.args.space.now.past = search rules in
    let m : ℕ = c.in_ok-taken_from.taken_from in
    let some = c.if-end-eq0.false in
    let last : m - m % c.args.space.now.block - 1 + 1 ≡ m - m % c.args.space.now.block = omega (arith, some) in
    closed_up_to c.args.space.now.block c.args.space.now.past c.args.now t c.requires reached (m - m % c.args.space.now.block - 1) (last ∙ ap (λ (n : ℕ). n - n % c.args.space.now.block) is)
