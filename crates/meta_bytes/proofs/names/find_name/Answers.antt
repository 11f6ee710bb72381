use Rattle.std.proofs.Common.{◌≡◌, ℕ, ◌+◌, ◌-◌, take, drop, get_or, true, sym, ap, subst, ◌∙◌, arith, length-drop}
use Rattle.std.specs.List.{list_all}
use Rattle.m3_model.specs.Names.{is_name_byte}
use Rattle.wire_bytes.specs.Fields.{IsFault}
use Rattle.wire_bytes.specs.declared.wire_err.WireErr.TheVariants as errors
use Rattle.wire_bytes.proofs.TextLemmas.{stands_text}
use Rattle.meta_bytes.specs.Forms.{Byte, HasForm, Times}
use Rattle.meta_bytes.proofs.NameLemmas.{name_short, name_bad, name_step, name_so_far}
use Rattle.meta_bytes.proofs.names.find_name.Goals as goal

pub loop-offset-init : goal.loop-offset-init
loop-offset-init c =
    let none : c.args.at - c.args.at ≡ 0 = omega arith in
    let all : c.args.at + c.args.len - c.args.at ≡ c.args.len = omega arith in
    record {
      within = c.requires.inside;
      name = ap (λ (k : ℕ). list_all is_name_byte (take k (drop c.args.at c.args.bytes.now))) none;
      faults = λ e a. subst (λ (n : ℕ). IsFault (Times n (HasForm (Byte is_name_byte))) c.args.bytes.now c.args.at e) all a;
    }

pub returns-then-offset-bytes-clause-err : goal.returns-then-offset-bytes-clause-err
returns-then-offset-bytes-clause-err c = c.loop-offset.invariant.faults errors.Short (name_short (c.args.at + c.args.len - c.loop-offset.offset) c.args.bytes.now c.loop-offset.offset (omega arith) (omega arith))

pub returns-then-not-is_name_byte-clause-err : goal.returns-then-not-is_name_byte-clause-err
returns-then-not-is_name_byte-clause-err c =
    c.loop-offset.invariant.faults (errors.Bad c.loop-offset.offset) (name_bad (c.args.at + c.args.len - c.loop-offset.offset) c.args.bytes.now c.loop-offset.offset (omega arith) (omega arith) (sym c.is_name_byte.ensures ∙ c.if-not-is_name_byte.true))

pub loop-offset-preserved : goal.loop-offset-preserved
loop-offset-preserved c =
    let fits : is_name_byte (get_or c.args.bytes.now c.loop-offset.offset 0) ≡ true = sym c.is_name_byte.ensures ∙ c.if-not-is_name_byte.false in
    record {
      within = omega arith;
      name = name_so_far c.args.at c.loop-offset.offset c.args.bytes.now (omega arith) (omega arith) fits c.loop-offset.invariant.name;
      faults = λ e a. c.loop-offset.invariant.faults e (name_step (c.args.at + c.args.len - c.loop-offset.offset) c.args.bytes.now c.loop-offset.offset e (omega arith) (omega arith) fits
          (let less : c.args.at + c.args.len - (c.loop-offset.offset + 1) ≡ c.args.at + c.args.len - c.loop-offset.offset - 1 = omega arith in
          subst (λ (n : ℕ). IsFault (Times n (HasForm (Byte is_name_byte))) c.args.bytes.now (c.loop-offset.offset + 1) e) less a));
    }

pub returns-clause-ok : goal.returns-clause-ok
returns-clause-ok c = stands_text c.args.len c.args.at c.args.bytes.now (omega (arith, length-drop c.args.at c.args.bytes.now)) c.requires.inside

pub returns-clause-name : goal.returns-clause-name
returns-clause-name c =
    let all : c.loop-offset.offset - c.args.at ≡ c.args.len = omega arith in
    subst (λ (k : ℕ). list_all is_name_byte (take k (drop c.args.at c.args.bytes.now)) ≡ true) all c.loop-offset.invariant.name
