use Rattle.std.proofs.Common.{◌≡◌, ℕ, ◌+◌, ◌-◌, ◌<◌, ◌^◌, length, drop, get_or, subst, sym, ap, ◌∙◌, refl, arith}
use Rattle.std.proofs.Common.{Ok as Right}
use Rattle.std.proofs.Common.{Err as Wrong}
use Rattle.std.proofs.lemmas.List.{get_or-drop}
use Rattle.byteorder.specs.Endian.{big_bytes, big_from}
use Rattle.byteorder.specs.Numbers.{big_from-lt}
use Rattle.wire_bytes.specs.Numbers.{ANumber}
use Rattle.wire_bytes.proofs.FieldLemmas.{fault_one, no_fault}
use Rattle.wire_bytes.proofs.NumberLemmas.{short_number, read_bytes, number_ends, same_number, stands_number}
use Rattle.wire_bytes.proofs.numbers.get_number.Goals as goal

pub returns-then-rest-width-clause-err : goal.returns-then-rest-width-clause-err
returns-then-rest-width-clause-err c =
    let small : (k : ℕ) → get_or (drop c.args.at c.args.bytes.now) k 0 < 256 = λ (k : ℕ). let h = c.type_inv.bytes (c.args.at + k) in subst (λ (b : ℕ). b < 256) (sym (get_or-drop c.args.at c.args.bytes.now k 0)) (omega (arith, h)) in
    short_number c.args.width (drop c.args.at c.args.bytes.now) small (omega (arith, ap length c.rest_at-rest.ensures))

pub returns-then-rest-width-clause-fault : goal.returns-then-rest-width-clause-fault
returns-then-rest-width-clause-fault c = λ e f. ap Wrong (fault_one (ANumber c.args.width 0 (256 ^ c.args.width - 1)) c.args.bytes.now c.args.at _ e (returns-then-rest-width-clause-err c) f)

pub returns-clause-ok : goal.returns-clause-ok
returns-clause-ok c =
    let small : (k : ℕ) → get_or (drop c.args.at c.args.bytes.now) k 0 < 256 = λ (k : ℕ). let h = c.type_inv.bytes (c.args.at + k) in subst (λ (b : ℕ). b < 256) (sym (get_or-drop c.args.at c.args.bytes.now k 0)) (omega (arith, h)) in
    let le : c.args.width < length (drop c.args.at c.args.bytes.now) + 1 = omega (arith, ap length c.rest_at-rest.ensures) in
    let is : c.read_uint.result ≡ big_from 0 c.args.width (drop c.args.at c.args.bytes.now) = c.read_uint.ensures ∙ ap (big_from 0 c.args.width) c.rest_at-rest.ensures in
    stands_number c.args.width c.read_uint.result c.args.at c.args.bytes.now
    (ap (big_bytes c.args.width) is ∙ read_bytes c.args.width (drop c.args.at c.args.bytes.now) small (omega arith)) (omega arith) (omega arith)

pub returns-clause-fits : goal.returns-clause-fits
returns-clause-fits c =
    let small : (k : ℕ) → get_or (drop c.args.at c.args.bytes.now) k 0 < 256 = λ (k : ℕ). let h = c.type_inv.bytes (c.args.at + k) in subst (λ (b : ℕ). b < 256) (sym (get_or-drop c.args.at c.args.bytes.now k 0)) (omega (arith, h)) in
    let is : c.read_uint.result ≡ big_from 0 c.args.width (drop c.args.at c.args.bytes.now) = c.read_uint.ensures ∙ ap (big_from 0 c.args.width) c.rest_at-rest.ensures in
    subst (λ (n : ℕ). n < 256 ^ c.args.width) (sym is) (big_from-lt 0 c.args.width (drop c.args.at c.args.bytes.now) small)

pub returns-clause-whole : goal.returns-clause-whole
returns-clause-whole c = λ n fits st. ap Right (same_number c.args.width c.read_uint.result n c.args.at c.args.bytes.now (returns-clause-fits c) fits (returns-clause-ok c) st)

pub returns-clause-fault : goal.returns-clause-fault
returns-clause-fault c = λ e f.
    let fits = returns-clause-fits c in
    absurd (no_fault (ANumber c.args.width 0 (256 ^ c.args.width - 1)) (number_ends c.args.width 0 (256 ^ c.args.width - 1)) (big_bytes c.args.width c.read_uint.result) c.args.bytes.now c.args.at (c.args.at + c.args.width) e
    (record { n = c.read_uint.result; least = omega arith; most = omega arith; spelled = refl }) (returns-clause-ok c) f)
