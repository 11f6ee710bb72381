use Rattle.std.proofs.Common.{◌≡◌, ◌<◌, ◌≤◌, length, sym, ap, subst, arith}
use Rattle.std.specs.Prelude.{string_bytes}
use Rattle.m3_model.specs.Tags.{IsSpelledBy}
use Rattle.m3_model.specs.declared.limits.TheConstants.{MOST_ID_BYTES}
use Rattle.series_id.specs.Given.{SpellsTags}
use Rattle.series_id.proofs.Spelled.{outcome_spelled, outcome_fault, given_refuses, some_tags}
use Rattle.series_id.proofs.spell.spelled.Goals as goal

pub returns-in-Some-clause-refused : goal.returns-in-Some-clause-refused
returns-in-Some-clause-refused c =
    let some : 0 < length c.args.tags.now = some_tags c.args.tags.now c.is_empty.result c.is_empty.ensures c.if-is_empty.false in
    let short : length c.in_ok-text.text.items ≤ MOST_ID_BYTES = omega (arith, c.len.ensures, c.if-len-gt-MOST_ID_BYTES.false, c.in_ok-text.text.ok.0) in
    λ _. given_refuses c.args.tags.now c.in-Some.e (outcome_fault c.args.tags.now c.in_ok-text.text.items c.in-Some.e some short (subst (SpellsTags c.args.tags.now c.in_ok-text.text.items) c.in-Some.is c.in_ok-text.ensures))

pub returns-in-None-clause-ok : goal.returns-in-None-clause-ok
returns-in-None-clause-ok c =
    let some : 0 < length c.args.tags.now = some_tags c.args.tags.now c.is_empty.result c.is_empty.ensures c.if-is_empty.false in
    let short : length c.in_ok-text.text.items ≤ MOST_ID_BYTES = omega (arith, c.len.ensures, c.if-len-gt-MOST_ID_BYTES.false, c.in_ok-text.text.ok.0) in
    let whole = rw c.unwrap.ensures at c.from_utf8.ensures.ok in
    let bytes : string_bytes c.unwrap.result ≡ c.in_ok-text.text.items = ap (λ v. v.items) whole in
    let spelled : IsSpelledBy c.in_ok-text.text.items c.args.tags.now = outcome_spelled c.args.tags.now c.in_ok-text.text.items some short (subst (SpellsTags c.args.tags.now c.in_ok-text.text.items) c.in-None.is c.in_ok-text.ensures) in
    subst (λ text. IsSpelledBy text c.args.tags.now) (sym bytes) spelled
