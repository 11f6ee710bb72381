use Rattle.std.proofs.Common.{◌≡◌, ◌<◌, ◌^◌, List, ℕ, sym, ap, subst, ◌∙◌, rules}
use Rattle.fileset_read.specs.m3_model.declared.point.Series.{Series}
use Rattle.fileset_read.specs.wire_bytes.Volumes.{IsVolume, count_of, data_bytes}
use Rattle.fileset_read.specs.volume_bytes.Heads.{AllFit, head_of}
use Rattle.fileset_read.proofs.FileLemmas.{rows_spelled}
use Rattle.fileset_check.proofs.BodyLemmas.{all_fit, no_data}
use Rattle.fileset_check.proofs.body.read_body.Goals as goal

pub returns-in_err-rows-clause-err : goal.returns-in_err-rows-clause-err
returns-in_err-rows-clause-err c = no_data c.from_residual.result c.in_err-rows.field-0.0 (head_of c.args.head.now) c.args.bytes.now c.from_residual.ensures.1 c.in_err-rows.ensures

pub returns-then-not-is_volume-clause-err : goal.returns-then-not-is_volume-clause-err
returns-then-not-is_volume-clause-err c = λ rows values is.
    let read = c.in_ok-rows.ensures rows (rows_spelled (head_of c.args.head.now) rows values) is in
    let lawful = c.is_volume.ensures.1 (subst (IsVolume (head_of c.args.head.now)) (sym (c.as_slice.ensures ∙ read)) values) in
    absurd (cc)

pub tables_of-requires-clause-fits : goal.tables_of-requires-clause-fits
tables_of-requires-clause-fits c = subst AllFit (c.as_slice.ensures ∙ sym c.as_slice-2.ensures) (all_fit (head_of c.args.head.now) c.as_slice.result.now (c.is_volume.ensures.0 c.if-not-is_volume.false))

pub tables_of-requires-clause-counted : goal.tables_of-requires-clause-counted
tables_of-requires-clause-counted c = subst (λ (l : List Series). count_of l < 2 ^ 64) (c.as_slice.ensures ∙ sym c.as_slice-2.ensures) (c.is_volume.ensures.0 c.if-not-is_volume.false).points

pub returns-then-ne-clause-err : goal.returns-then-ne-clause-err
returns-then-ne-clause-err c = λ rows values is.
    let read = c.in_ok-rows.ensures rows (rows_spelled (head_of c.args.head.now) rows values) is in
    let written : c.as_slice-3.result.now ≡ data_bytes c.as_slice-2.result.now = c.as_slice-3.ensures ∙ c.in_ok-tables.ensures.body in
    let same : c.as_slice-3.result.now ≡ c.args.bytes.now = written ∙ ap data_bytes (c.as_slice-2.ensures ∙ read) ∙ sym is in
    let differ : (c.as_slice-3.result.now ≡ c.args.bytes.now) → ⊥ = search rules in
    differ same
