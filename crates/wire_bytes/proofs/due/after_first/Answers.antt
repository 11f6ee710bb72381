use Rattle.std.proofs.Common.{inl, inr, arith}
use Rattle.std.proofs.lemmas.Bool.{cases_lt}
use Rattle.wire_bytes.proofs.TextLemmas.{ascii, second_of_two, second_of_three, second_of_four, no_first}
use Rattle.wire_bytes.proofs.due.after_first.Goals as goal

pub returns-in-0-to-127-clause-steps : goal.returns-in-0-to-127-clause-steps
returns-in-0-to-127-clause-steps c = ascii c.args.byte (omega arith)

pub returns-in_default-clause-steps : goal.returns-in_default-clause-steps
returns-in_default-clause-steps c = no_first c.args.byte (omega arith) (elim (cases_lt c.args.byte 194) [ inl low ↦ inl low | inr h ↦ elim (cases_lt 244 c.args.byte) [ inl high ↦ inr high | inr k ↦ absurd (omega arith) ] ])

pub returns-in_default-2-clause-steps : goal.returns-in_default-2-clause-steps
returns-in_default-2-clause-steps c = no_first c.args.byte (omega arith) (elim (cases_lt c.args.byte 194) [ inl low ↦ inl low | inr h ↦ elim (cases_lt 244 c.args.byte) [ inl high ↦ inr high | inr k ↦ absurd (omega arith) ] ])

pub returns-in-224-clause-steps : goal.returns-in-224-clause-steps
returns-in-224-clause-steps c = second_of_three c.args.byte 160 191 (omega arith) (omega arith) (omega arith) (omega arith)
    (λ x a b. (λ e. a, λ e. omega arith)) (λ x a b m n. (m (omega arith), omega arith))

pub returns-in-237-clause-steps : goal.returns-in-237-clause-steps
returns-in-237-clause-steps c = second_of_three c.args.byte 128 159 (omega arith) (omega arith) (omega arith) (omega arith)
    (λ x a b. (λ e. omega arith, λ e. omega arith)) (λ x a b m n. (a, let h = n (omega arith) in omega arith))

pub returns-in-240-clause-steps : goal.returns-in-240-clause-steps
returns-in-240-clause-steps c = second_of_four c.args.byte 144 191 (omega arith) (omega arith) (omega arith) (omega arith)
    (λ x a b. (λ e. a, λ e. omega arith)) (λ x a b m n. (m (omega arith), omega arith))

pub returns-in-244-clause-steps : goal.returns-in-244-clause-steps
returns-in-244-clause-steps c = second_of_four c.args.byte 128 143 (omega arith) (omega arith) (omega arith) (omega arith)
    (λ x a b. (λ e. omega arith, λ e. omega arith)) (λ x a b m n. (a, let h = n (omega arith) in omega arith))

pub returns-in-194-to-223-clause-steps : goal.returns-in-194-to-223-clause-steps
returns-in-194-to-223-clause-steps c = second_of_two c.args.byte (omega arith) (omega arith)

pub returns-in-225-to-239-clause-steps : goal.returns-in-225-to-239-clause-steps
returns-in-225-to-239-clause-steps c = second_of_three c.args.byte 128 191 (omega arith) (omega arith) (omega arith) (omega arith)
    (λ x a b. (λ e. omega arith, λ e. omega arith)) (λ x a b m n. (a, omega arith))

pub returns-in-241-to-243-clause-steps : goal.returns-in-241-to-243-clause-steps
returns-in-241-to-243-clause-steps c = second_of_four c.args.byte 128 191 (omega arith) (omega arith) (omega arith) (omega arith)
    (λ x a b. (λ e. omega arith, λ e. omega arith)) (λ x a b m n. (a, omega arith))
