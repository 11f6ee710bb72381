use Rattle.std.proofs.Common.{List, sym, subst, ◌∙◌, arith}
use Rattle.shard_files.specs.m3_model.declared.point.Series.{Series}
use Rattle.shard_files.specs.wire_bytes.Volumes.{data_bytes}
use Rattle.fileset_read.proofs.LeftLemmas.{RowsLeft, next_row, row_passed, rows_end, passed}
use Rattle.fileset_read.proofs.series.rows_in.Goals as goal

pub returns-in_err-found : goal.returns-in_err-found
returns-in_err-found c = λ rows spelled is.
    let n = next_row rows c.loop-at.rows.items c.args.bytes.now c.loop-at.at (c.loop-at.invariant.left rows spelled is) c.loop-at-test.true in
    absurd (c.in_err-found.ensures.whole n.one (data_bytes n.later) n.is n.stands)

pub returns-in_err-row : goal.returns-in_err-row
returns-in_err-row c = λ rows spelled is.
    let n = next_row rows c.loop-at.rows.items c.args.bytes.now c.loop-at.at (c.loop-at.invariant.left rows spelled is) c.loop-at-test.true in
    let r = c.in_ok-found.ensures.whole n.one (data_bytes n.later) n.is n.stands in
    passed c.from_residual-in_err-row.result c.in_err-row.field-0.0 _ _ c.from_residual-in_err-row.ensures.1 (c.in_err-row.ensures n.one (data_bytes n.later) n.is r)

pub loop-at-preserved : goal.loop-at-preserved
loop-at-preserved c = record {
  within = c.in_ok-found.ensures.inside.within;
  left = λ rows spelled is.
      let n = next_row rows c.loop-at.rows.items c.args.bytes.now c.loop-at.at (c.loop-at.invariant.left rows spelled is) c.loop-at-test.true in
      let r = c.in_ok-found.ensures.whole n.one (data_bytes n.later) n.is n.stands in
      let read = c.in_ok-row.ensures n.one (data_bytes n.later) n.is r in
      subst (λ (l : List Series). RowsLeft rows l c.args.bytes.now c.in_ok-found.found.next) (sym c.in_ok-push.ensures.items)
      (row_passed rows c.loop-at.rows.items c.args.bytes.now c.loop-at.at c.in_ok-found.found.next c.in_ok-row.row n read r.next);
}

pub returns : goal.returns
returns c = λ rows spelled is.
    c.from_vec.ensures ∙ rows_end rows c.loop-at.rows.items c.args.bytes.now c.loop-at.at (c.loop-at.invariant.left rows spelled is) (let all = c.loop-at-test.false in omega (arith, all))
