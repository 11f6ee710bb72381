use Rattle.std.proofs.Common.{ℕ, List, drop, refl, subst, arith}
use Rattle.std.proofs.lemmas.List.{take_rest}
use Rattle.wire_bytes.specs.Fields.{StopsAt}
use Rattle.meta_bytes.specs.Forms.{HasForm}
use Rattle.meta_bytes.specs.States.{state_form, IsStateOf, MayBreak}
use Rattle.meta_bytes.specs.declared.state_read.StateErr.TheVariants as refused
use Rattle.placement_log.specs.Damage.{Disagree, Fields}
use Rattle.placement_log.proofs.ReadLemmas.{payload_is, state_none}
use Rattle.placement_log.proofs.payload.read_behind.Goals as goal

pub returns-in-Ok-clause-ok : goal.returns-in-Ok-clause-ok
returns-in-Ok-clause-ok c = payload_is c.args.chunk.now c.in-Ok.state c.requires.digest (subst (λ (l : List ℕ). IsStateOf l c.in-Ok.state) (take_rest c.args.chunk.now 32) c.in-Ok.ensures.ok)

pub returns-in-Err-Form-clause-err : goal.returns-in-Err-Form-clause-err
returns-in-Err-Form-clause-err c =
    let behind = drop 32 c.args.chunk.now in
    let told = subst (λ (l : List ℕ). MayBreak l (refused.Form c.in-Err-Form.at)) (take_rest c.args.chunk.now 32) (subst (MayBreak _) c.in-Err-Form.field-0-is c.in-Err-Form.ensures.err) in
    (state_none c.args.chunk.now told.0, Fields (omega arith) c.requires.digest (subst (StopsAt (HasForm state_form) behind) (omega arith) told.1))

pub returns-in-Err-Rules-clause-err : goal.returns-in-Err-Rules-clause-err
returns-in-Err-Rules-clause-err c =
    let told = subst (λ (l : List ℕ). MayBreak l refused.Rules) (take_rest c.args.chunk.now 32) (subst (MayBreak _) c.in-Err-Rules.field-0-is c.in-Err-Rules.ensures.err) in
    (state_none c.args.chunk.now told.0, Disagree c.requires.long c.requires.digest told.1 refl)
