use Rattle.std.proofs.Common.{◌≡◌, ℕ, ◌+◌, List, ◌-◌, take, drop, sym, ap, subst, ◌∙◌, arith, IsUtf8}
use Rattle.m3_model.specs.Names.{is_name_byte}
use Rattle.wire_bytes.proofs.PointLemmas.{exit_err}
use Rattle.meta_bytes.specs.Forms.{Byte, HasForm, StandsAs, MayFault}
use Rattle.meta_bytes.specs.States.{name_form, name_bytes}
use Rattle.meta_bytes.specs.declared.read_err.ReadErr.TheVariants as refused
use Rattle.meta_bytes.proofs.FairForms.{fair_name}
use Rattle.meta_bytes.proofs.FormLemmas.{may_count, may_items}
use Rattle.meta_bytes.proofs.NameLemmas.{name_utf8, text_ok, stands_name}
use Rattle.meta_bytes.proofs.names.read_name.Goals as goal

pub returns-in_err-len-clause-err : goal.returns-in_err-len-clause-err
returns-in_err-len-clause-err c =
    exit_err c.from_residual.result c.in_err-len.field-0.0 (MayFault (HasForm name_form) c.args.bytes.now c.args.at) c.from_residual.ensures.1
    (may_count 1 32 (Byte is_name_byte) fair_name.2 c.args.bytes.now c.args.at c.in_err-len.field-0.0 c.in_err-len.ensures.err)

pub returns-in_err-find_name-clause-err : goal.returns-in_err-find_name-clause-err
returns-in_err-find_name-clause-err c =
    let e = refused.Wire c.in_err-find_name.field-0.0 in
    exit_err c.from_residual-in_err-find_name.result e (MayFault (HasForm name_form) c.args.bytes.now c.args.at) c.from_residual-in_err-find_name.ensures.1
    (may_items 1 32 (Byte is_name_byte) (omega arith) c.in_ok-len.len c.args.bytes.now c.args.at c.in_ok-len.from e c.in_ok-len.ensures.within.0 c.in_ok-len.ensures.within.1 c.in_ok-len.ensures.ok.stands c.in_err-find_name.ensures.err)

pub unwrap-name-requires : goal.unwrap-name-requires
unwrap-name-requires c =
    let from = c.in_ok-len.from in
    let len = c.in_ok-len.len in
    let n : len ≡ from + len - from = omega arith in
    text_ok _ _ _ c.from_utf8.result c.from_utf8.ensures.cases (subst (λ (k : ℕ). IsUtf8 (take k (drop from c.args.bytes.now))) n (name_utf8 (take len (drop from c.args.bytes.now)) c.in_ok-find_name.ensures.name))

pub returns-clause-ok : goal.returns-clause-ok
returns-clause-ok c =
    let from = c.in_ok-len.from in
    let len = c.in_ok-len.len in
    let n : from + len - from ≡ len = omega arith in
    let text = rw c.unwrap-name.ensures at c.from_utf8.ensures.cases in
    let name : c.in_ok-from_str.field-0 ≡ take len (drop from c.args.bytes.now) = c.in_ok-from_str.ensures ∙ text.0 ∙ ap (λ (k : ℕ). take k (drop from c.args.bytes.now)) n in
    subst (λ (l : List ℕ). StandsAs name_form (name_bytes l) c.args.bytes.now c.args.at (from + len)) (sym name)
    (stands_name len (take len (drop from c.args.bytes.now)) c.args.bytes.now c.args.at from c.in_ok-len.ensures.ok c.in_ok-len.ensures.within.0 c.in_ok-len.ensures.within.1 c.in_ok-find_name.ensures.ok c.in_ok-find_name.ensures.name)
