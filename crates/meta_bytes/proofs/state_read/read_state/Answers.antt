use Rattle.std.proofs.Common.{sym, subst, arith}
use Rattle.placement_core.proofs.StepLemmas.{no_true}
use Rattle.meta_bytes.specs.States.{state_bytes, MayBreak}
use Rattle.meta_bytes.proofs.RuleLemmas.{no_form, no_rules}
use Rattle.meta_bytes.proofs.StateLemmas.{breaks_err, breaks_behind, whole_state}
use Rattle.meta_bytes.proofs.state_read.read_state.Goals as goal

pub returns-in-Err-clause-err : goal.returns-in-Err-clause-err
returns-in-Err-clause-err c = subst (MayBreak c.args.bytes.now) (sym c.placed.ensures) (breaks_err c.args.bytes.now c.in-Err.e c.in-Err.ensures.err)

pub returns-then-next-bytes-clause-err : goal.returns-then-next-bytes-clause-err
returns-then-next-bytes-clause-err c =
    let s = breaks_behind (state_bytes c.in-Ok.found.0) c.args.bytes.now c.in-Ok.found.1 c.in-Ok.ensures.ok (omega arith) in
    (no_form c.args.bytes.now s.none, s)

pub returns-then-not-is_meta_state-clause-err : goal.returns-then-not-is_meta_state-clause-err
returns-then-not-is_meta_state-clause-err c =
    let w = whole_state (state_bytes c.in-Ok.found.0) c.args.bytes.now c.in-Ok.found.1 c.in-Ok.ensures.ok (omega arith) in
    (no_rules c.args.bytes.now c.in-Ok.found.0 w.0 c.in-Ok.ensures.fits (λ h. no_true c.is_meta_state.result c.if-not-is_meta_state.true (c.is_meta_state.ensures.1 h)), w.1)

pub returns-clause-ok : goal.returns-clause-ok
returns-clause-ok c =
    let w = whole_state (state_bytes c.in-Ok.found.0) c.args.bytes.now c.in-Ok.found.1 c.in-Ok.ensures.ok (omega arith) in
    record { lawful = c.is_meta_state.ensures.0 c.if-not-is_meta_state.false; is = w.0 }
