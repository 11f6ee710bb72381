use Rattle.std.proofs.Common.{◌-◌, subst, take, drop, arith}
use Rattle.std.proofs.lemmas.List.{length-take, length-drop}
use Rattle.placement_log.proofs.ReadLemmas.{form_within}
use Rattle.placement_log.specs.Damage.{FormBreaks, MayBreakPayload}
use Rattle.placement_log.proofs.segment.read_between.Goals as goal

pub overflow_add-result : goal.overflow_add-result
overflow_add-result c =
    let chunk = take (c.args.next - c.args.from) (drop c.args.from c.args.bytes.now) in
    let told = subst (MayBreakPayload chunk) c.in-Err-Form.field-0-is c.in-Err-Form.ensures.err in
    let within = form_within chunk c.in-Err-Form.at told.1 in
    let long = length-take (c.args.next - c.args.from) (drop c.args.from c.args.bytes.now) in
    let rest = length-drop c.args.from c.args.bytes.now in
    omega (arith, within, long, rest)

pub returns-in-Err-Form-clause-err : goal.returns-in-Err-Form-clause-err
returns-in-Err-Form-clause-err c =
    let chunk = take (c.args.next - c.args.from) (drop c.args.from c.args.bytes.now) in
    let told = subst (MayBreakPayload chunk) c.in-Err-Form.field-0-is c.in-Err-Form.ensures.err in
    (omega arith, told.0, subst (FormBreaks chunk) (omega arith) told.1)
