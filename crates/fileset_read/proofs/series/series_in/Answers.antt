use Rattle.std.proofs.Common.{sym, subst, ap, ◌∙◌, arith}
use Rattle.shard_files.specs.m3_model.declared.point.Series.{Series}
use Rattle.shard_files.specs.m3_model.Members.{IsIn}
use Rattle.shard_files.specs.wire_bytes.Volumes.{data_bytes}
use Rattle.fileset_read.proofs.LeftLemmas.{next_row, row_skipped, skipped_end, next_is_in, same_id, passed}
use Rattle.fileset_read.proofs.series.series_in.Goals as goal

pub returns-in_err-found : goal.returns-in_err-found
returns-in_err-found c = λ rows spelled is.
    let k = c.loop-at.invariant.left rows spelled is in
    let n = next_row rows k.done c.args.bytes.now c.loop-at.at k.left c.loop-at-test.true in
    absurd (c.in_err-found.ensures.whole n.one (data_bytes n.later) n.is n.stands)

pub returns-in_err-read_series : goal.returns-in_err-read_series
returns-in_err-read_series c = λ rows spelled is.
    let k = c.loop-at.invariant.left rows spelled is in
    let n = next_row rows k.done c.args.bytes.now c.loop-at.at k.left c.loop-at-test.true in
    let r = c.in_ok-found.ensures.whole n.one (data_bytes n.later) n.is n.stands in
    passed c.from_residual-in_err-read_series.result c.in_err-read_series.field-0.0 _ _ c.from_residual-in_err-read_series.ensures.1 (c.in_err-read_series.ensures n.one (data_bytes n.later) n.is r)

pub returns-then-has_id : goal.returns-then-has_id
returns-then-has_id c = λ rows spelled is.
    let k = c.loop-at.invariant.left rows spelled is in
    let n = next_row rows k.done c.args.bytes.now c.loop-at.at k.left c.loop-at-test.true in
    let r = c.in_ok-found.ensures.whole n.one (data_bytes n.later) n.is n.stands in
    let read = c.in_ok-read_series.ensures n.one (data_bytes n.later) n.is r in
    let same = c.has_id.ensures.0 c.if-has_id.true in (
      ap (λ (s : Series). s.id) read ∙ sym (same_id n.one (data_bytes n.later) c.args.bytes.now c.in_ok-found.found r) ∙ same,
      subst (IsIn rows) (sym read) (next_is_in rows k.done c.args.bytes.now c.loop-at.at n),
    )

pub loop-at-preserved : goal.loop-at-preserved
loop-at-preserved c = record {
  within = c.in_ok-found.ensures.inside.within;
  left = λ rows spelled is.
      let k = c.loop-at.invariant.left rows spelled is in
      let n = next_row rows k.done c.args.bytes.now c.loop-at.at k.left c.loop-at-test.true in
      let r = c.in_ok-found.ensures.whole n.one (data_bytes n.later) n.is n.stands in
      row_skipped c.args.id.now rows c.args.bytes.now c.loop-at.at c.in_ok-found.found.next k n
      (λ e. let yes = c.has_id.ensures.1 (same_id n.one (data_bytes n.later) c.args.bytes.now c.in_ok-found.found r ∙ e) in let no = c.if-has_id.false in absurd (cc)) r.next;
}

pub returns : goal.returns
returns c = λ rows spelled is.
    skipped_end c.args.id.now rows c.args.bytes.now c.loop-at.at (c.loop-at.invariant.left rows spelled is) (let all = c.loop-at-test.false in omega (arith, all))
