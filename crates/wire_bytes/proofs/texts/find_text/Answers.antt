use Rattle.std.proofs.Common.{◌≡◌, ℕ, ◌+◌, ◌-◌, List, length, take, drop, subst, ap, ◌∙◌, arith}
use Rattle.std.proofs.lemmas.List.{take_all}
use Rattle.wire_bytes.specs.Fields.{GoesOn, Misfits}
use Rattle.wire_bytes.specs.Texts.{AText}
use Rattle.wire_bytes.proofs.TextLemmas.{text_goes, text_misfits, follow_end, stands_text}
use Rattle.wire_bytes.proofs.texts.find_text.Goals as goal

pub returns-then-i-rest-clause-err : goal.returns-then-i-rest-clause-err
returns-then-i-rest-clause-err c =
    let inv = c.loop-i.invariant in
    subst (GoesOn (AText c.args.len)) (take_all c.loop-i.i c.rest_at-rest.result.now (omega arith) ∙ c.rest_at-rest.ensures)
    (text_goes c.args.len c.loop-i.i c.rest_at-rest.result.now c.loop-i.due c.loop-i-test.true inv.there inv.fair inv.short inv.follow)

pub returns-in_default-clause-err : goal.returns-in_default-clause-err
returns-in_default-clause-err c =
    let inv = c.loop-i.invariant in
    let m = text_misfits c.args.len c.loop-i.i c.rest_at-rest.result.now c.loop-i.due c.loop-i-test.true (omega arith) inv.fair inv.short inv.follow c.in_default.ensures.none in
    let back : c.loop-i.i ≡ c.args.at + c.loop-i.i - c.args.at = omega arith in (
      omega arith,
      subst (λ (k : ℕ). Misfits (AText c.args.len) (drop c.args.at c.args.bytes.now) k) back
          (subst (λ (l : List ℕ). Misfits (AText c.args.len) l c.loop-i.i) c.rest_at-rest.ensures m),
    )

pub returns-clause-ok : goal.returns-clause-ok
returns-clause-ok c = stands_text c.args.len c.args.at c.args.bytes.now (omega (arith, c.loop-i.invariant.there, ap length c.rest_at-rest.ensures)) c.requires

pub returns-clause-text : goal.returns-clause-text
returns-clause-text c =
    let inv = c.loop-i.invariant in
    let all : c.loop-i.i ≡ c.args.len = omega arith in
    let is : take c.loop-i.i c.rest_at-rest.result.now ≡ take c.args.len (drop c.args.at c.args.bytes.now) = ap (λ (k : ℕ). take k c.rest_at-rest.result.now) all ∙ ap (λ (l : List ℕ). take c.args.len l) c.rest_at-rest.ensures in
    subst (AText c.args.len) is (follow_end c.args.len c.loop-i.i c.rest_at-rest.result.now c.loop-i.due all inv.there inv.short inv.follow)
