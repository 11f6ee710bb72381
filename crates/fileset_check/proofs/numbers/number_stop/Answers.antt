use Rattle.fileset_check.specs.declared.numbers.Field.{Field}
use Rattle.std.proofs.Common.{◌+◌, drop, get_or, sym, subst}
use Rattle.fileset_read.specs.wire_bytes.Fields.{StopsAt}
use Rattle.fileset_check.specs.Numbers.{AreNumbers}
use Rattle.fileset_check.proofs.NumberLemmas.{carries_none, carries_more, carries_err, carries_long, carries_end, carries_at, carries_all}
use Rattle.fileset_check.proofs.numbers.number_stop.Goals as goal

pub loop-field-init : goal.loop-field-init
loop-field-init c = carries_none c.args.fields.now c.args.bytes.now c.requires

pub get_between-requires : goal.get_between-requires
get_between-requires c =
    let d : Field = record { width = 0; low = 0; high = 0 } in
    let f = (carries_at c.args.fields.now c.args.bytes.now c.loop-field.at c.loop-field.field-index d c.loop-field-test.true c.loop-field.invariant).fields.0 in
    record { least = f.least; most = f.most; order = f.order; fits = f.fits }

pub returns-in-Err-clause-some : goal.returns-in-Err-clause-some
returns-in-Err-clause-some c =
    let fs = c.args.fields.now in
    let i = c.loop-field.field-index in
    let d : Field = record { width = 0; low = 0; high = 0 } in
    subst (StopsAt (AreNumbers fs) c.args.bytes.now) (sym c.offset_of.ensures) (carries_err fs (get_or fs i d) (drop (i + 1) fs) c.args.bytes.now c.loop-field.at c.in-Err.e (carries_at fs c.args.bytes.now c.loop-field.at i d c.loop-field-test.true c.loop-field.invariant) c.in-Err.ensures.err)

pub loop-field-preserved : goal.loop-field-preserved
loop-field-preserved c =
    let fs = c.args.fields.now in
    let i = c.loop-field.field-index in
    let d : Field = record { width = 0; low = 0; high = 0 } in
    let within = c.in-Ok.ensures.within in
    carries_more fs (get_or fs i d) (drop (i + 1) fs) c.args.bytes.now c.loop-field.at c.in-Ok.field-0 (carries_at fs c.args.bytes.now c.loop-field.at i d c.loop-field-test.true c.loop-field.invariant) within.0 within.1 c.in-Ok.ensures.ok

pub returns-then-at-bytes-clause-some : goal.returns-then-at-bytes-clause-some
returns-then-at-bytes-clause-some c =
    carries_long c.args.fields.now c.args.bytes.now c.loop-field.at (carries_all c.args.fields.now c.args.bytes.now c.loop-field.at c.loop-field.field-index c.loop-field-test.false c.loop-field.invariant) c.if-at-bytes.true

pub returns-clause-none : goal.returns-clause-none
returns-clause-none c =
    carries_end c.args.fields.now c.args.bytes.now c.loop-field.at (carries_all c.args.fields.now c.args.bytes.now c.loop-field.at c.loop-field.field-index c.loop-field-test.false c.loop-field.invariant) c.if-at-bytes.false
