use Rattle.std.proofs.Common.{◌≡◌, ◌⊎◌, inl, inr, ℕ, ◌+◌, ◌-◌, ◌*◌, ◌/◌, ◌^◌, ◌<◌, List, length, drop, take, get_or, subst, sym, ap, ◌∙◌, refl, arith}
use Rattle.std.proofs.Common.{Ok as Right}
use Rattle.std.proofs.Common.{Err as Wrong}
use Rattle.std.proofs.lemmas.List.{take_all, get_or-drop}
use Rattle.std.proofs.Math.Nat.{div-one}
use Rattle.byteorder.specs.Endian.{big_bytes}
use Rattle.wire_bytes.specs.Fields.{GoesOn, Misfits}
use Rattle.wire_bytes.specs.declared.wire_err.WireErr.TheVariants as errors
use Rattle.wire_bytes.specs.Numbers.{ANumber}
use Rattle.wire_bytes.proofs.FieldLemmas.{fault_one, no_fault}
use Rattle.wire_bytes.proofs.NumberLemmas.{goes_at, misfits_at, more_take, more_small, below_word, power_fits, power_pos, number_ends, same_number, stands_number, bounds_start}
use Rattle.wire_bytes.proofs.numbers.get_between.Goals as goal
use Rattle.wire_bytes.proofs.numbers.get_between.Goals.{then-n-low-via-then-n-low, then-n-low-via-else-n-low+then-high-later}

pub loop-i-init : goal.loop-i-init
loop-i-init c =
    let w : c.args.width - 0 ≡ c.args.width = omega arith in
    let low : c.args.low / 256 ^ (c.args.width - 0) ≡ 0 = ap (λ (k : ℕ). c.args.low / 256 ^ k) w ∙ bounds_start c.args.width c.args.low c.args.high c.requires.order c.requires.fits in
    record { there = omega arith; bytes = refl; small = omega arith; least = omega (arith, low); most = omega arith }

pub returns-then-i-rest-clause-err : goal.returns-then-i-rest-clause-err
returns-then-i-rest-clause-err c =
    let g = goes_at c.args.width c.args.low c.args.high c.loop-i.n c.loop-i.i c.rest_at-rest.result.now c.requires.order c.loop-i-test.true c.loop-i.invariant.bytes c.loop-i.invariant.least c.loop-i.invariant.most in
    subst (GoesOn (ANumber c.args.width c.args.low c.args.high)) (take_all c.loop-i.i c.rest_at-rest.result.now (omega arith) ∙ c.rest_at-rest.ensures) g

pub returns-then-i-rest-clause-fault : goal.returns-then-i-rest-clause-fault
returns-then-i-rest-clause-fault c = λ e f. ap Wrong (fault_one (ANumber c.args.width c.args.low c.args.high) c.args.bytes.now c.args.at _ e (returns-then-i-rest-clause-err c) f)

pub overflow_mul-n : goal.overflow_mul-n
overflow_mul-n c = let h = below_word c.loop-i.i c.loop-i.n (omega arith) c.loop-i.invariant.small in omega (arith, h)

pub overflow_add-n : goal.overflow_add-n
overflow_add-n c = let h = below_word c.loop-i.i c.loop-i.n (omega arith) c.loop-i.invariant.small in let b = c.type_inv.rest c.loop-i.i in omega (arith, h, b)

pub pow-later-requires : goal.pow-later-requires
pow-later-requires c = let h = power_fits (c.args.width - 1 - c.loop-i.i) (omega arith) in omega (arith, h)

pub nonzero_div-low : goal.nonzero_div-low
nonzero_div-low c = let h = power_pos (c.args.width - 1 - c.loop-i.i) in omega (arith, h, c.pow-later.ensures)

pub nonzero_div-high : goal.nonzero_div-high
nonzero_div-high c = let h = power_pos (c.args.width - 1 - c.loop-i.i) in omega (arith, h, c.pow-later.ensures)

pub returns-then-n-low-clause-err : goal.returns-then-n-low-clause-err
returns-then-n-low-clause-err c =
    let inv = c.loop-i.invariant in
    let byte : c.from.result < 256 = let b = c.type_inv.bytes (c.args.at + c.loop-i.i) in let is = c.from.ensures ∙ ap (λ (l : List ℕ). get_or l c.loop-i.i 0) c.rest_at-rest.ensures ∙ get_or-drop c.args.at c.args.bytes.now c.loop-i.i 0 in omega (arith, b, is) in
    let low : c.args.low / c.pow-later.result ≡ c.args.low / 256 ^ (c.args.width - 1 - c.loop-i.i) = ap (λ (p : ℕ). c.args.low / p) c.pow-later.ensures in
    let high : c.args.high / c.pow-later.result ≡ c.args.high / 256 ^ (c.args.width - 1 - c.loop-i.i) = ap (λ (p : ℕ). c.args.high / p) c.pow-later.ensures in
    let outside : (c.loop-i.n * 256 + c.from.result < c.args.low / 256 ^ (c.args.width - 1 - c.loop-i.i)) ⊎ (c.args.high / 256 ^ (c.args.width - 1 - c.loop-i.i) < c.loop-i.n * 256 + c.from.result) =
    elim c.then-n-low.branch [
      | then-n-low-via-then-n-low w ↦ inl (omega (arith, w.if-n-low.true, low))
      | then-n-low-via-else-n-low+then-high-later w ↦ inr (omega (arith, w.if-high-later.true, high))
    ] in
    let m = misfits_at c.args.width c.args.low c.args.high c.loop-i.n c.loop-i.i c.from.result c.rest_at-rest.result.now c.requires.order c.requires.fits c.loop-i-test.true (omega arith) byte (sym c.from.ensures) inv.small inv.bytes inv.least inv.most outside in
    let back : c.loop-i.i ≡ c.args.at + c.loop-i.i - c.args.at = omega arith in (
      omega arith,
      subst (λ (k : ℕ). Misfits (ANumber c.args.width c.args.low c.args.high) (drop c.args.at c.args.bytes.now) k) back
          (subst (λ (l : List ℕ). Misfits (ANumber c.args.width c.args.low c.args.high) l c.loop-i.i) c.rest_at-rest.ensures m),
    )

pub returns-then-n-low-clause-whole : goal.returns-then-n-low-clause-whole
returns-then-n-low-clause-whole c = λ n least most st.
    absurd (no_fault (ANumber c.args.width c.args.low c.args.high) (number_ends c.args.width c.args.low c.args.high) (big_bytes c.args.width n) c.args.bytes.now c.args.at (c.args.at + c.args.width) (errors.Bad (c.args.at + c.loop-i.i))
    (record { n = n; least = least; most = most; spelled = refl }) st (returns-then-n-low-clause-err c))

pub returns-then-n-low-clause-fault : goal.returns-then-n-low-clause-fault
returns-then-n-low-clause-fault c = λ e f. ap Wrong (fault_one (ANumber c.args.width c.args.low c.args.high) c.args.bytes.now c.args.at _ e (returns-then-n-low-clause-err c) f)

pub loop-i-preserved : goal.loop-i-preserved
loop-i-preserved c =
    let inv = c.loop-i.invariant in
    let byte : c.from.result < 256 = let b = c.type_inv.rest c.loop-i.i in omega (arith, b, c.from.ensures) in
    let power : c.pow-later.result ≡ 256 ^ (c.args.width - (c.loop-i.i + 1)) = c.pow-later.ensures ∙ (let e : c.args.width - 1 - c.loop-i.i ≡ c.args.width - (c.loop-i.i + 1) = omega arith in ap (λ (k : ℕ). 256 ^ k) e) in
    let low : c.args.low / c.pow-later.result ≡ c.args.low / 256 ^ (c.args.width - (c.loop-i.i + 1)) = ap (λ (p : ℕ). c.args.low / p) power in
    let high : c.args.high / c.pow-later.result ≡ c.args.high / 256 ^ (c.args.width - (c.loop-i.i + 1)) = ap (λ (p : ℕ). c.args.high / p) power in
    record {
      there = omega arith;
      bytes = more_take c.loop-i.i c.loop-i.n c.from.result c.rest_at-rest.result.now byte (omega arith) (sym c.from.ensures) inv.bytes;
      small = more_small c.loop-i.i c.loop-i.n c.from.result inv.small byte;
      least = omega (arith, low, c.if-n-low.false);
      most = omega (arith, high, c.if-high-later.false);
    }

pub returns-clause-ok : goal.returns-clause-ok
returns-clause-ok c =
    let all : c.loop-i.i ≡ c.args.width = omega arith in
    let bytes : big_bytes c.args.width c.loop-i.n ≡ take c.args.width (drop c.args.at c.args.bytes.now) =
    ap (λ (k : ℕ). big_bytes k c.loop-i.n) (sym all) ∙ c.loop-i.invariant.bytes ∙ ap (λ (k : ℕ). take k c.rest_at-rest.result.now) all ∙ ap (λ (l : List ℕ). take c.args.width l) c.rest_at-rest.ensures in
    stands_number c.args.width c.loop-i.n c.args.at c.args.bytes.now bytes (omega (arith, c.loop-i.invariant.there, ap length c.rest_at-rest.ensures)) (omega arith)

pub returns-clause-within : goal.returns-clause-within
returns-clause-within c =
    let all : c.args.width - c.loop-i.i ≡ 0 = omega arith in
    let low : c.args.low / 256 ^ (c.args.width - c.loop-i.i) ≡ c.args.low = ap (λ (k : ℕ). c.args.low / 256 ^ k) all ∙ div-one c.args.low in
    let high : c.args.high / 256 ^ (c.args.width - c.loop-i.i) ≡ c.args.high = ap (λ (k : ℕ). c.args.high / 256 ^ k) all ∙ div-one c.args.high in
    (omega (arith, low, c.loop-i.invariant.least), omega (arith, high, c.loop-i.invariant.most))

pub returns-clause-whole : goal.returns-clause-whole
returns-clause-whole c = λ n least most st.
    let in_range = returns-clause-within c in
    ap Right (same_number c.args.width c.loop-i.n n c.args.at c.args.bytes.now (omega (arith, in_range.1, c.requires.fits)) (omega (arith, most, c.requires.fits)) (returns-clause-ok c) st)

pub returns-clause-fault : goal.returns-clause-fault
returns-clause-fault c = λ e f.
    let in_range = returns-clause-within c in
    absurd (no_fault (ANumber c.args.width c.args.low c.args.high) (number_ends c.args.width c.args.low c.args.high) (big_bytes c.args.width c.loop-i.n) c.args.bytes.now c.args.at (c.args.at + c.args.width) e
    (record { n = c.loop-i.n; least = in_range.0; most = in_range.1; spelled = refl }) (returns-clause-ok c) f)
