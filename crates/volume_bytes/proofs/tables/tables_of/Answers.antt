use Rattle.std.proofs.Common.{◌≡◌, ◌≤◌, ◌+◌, ℕ, List, length, sym, ap, subst, ◌∙◌, arith, length-append}
use Rattle.wire_bytes.specs.m3_model.declared.limits.TheConstants.{MOST_ID_BYTES}
use Rattle.wire_bytes.proofs.m3_model_proofs.Lists.{IsIn-read}
use Rattle.wire_bytes.specs.Volumes.{row_bytes, index_entry}
use Rattle.volume_bytes.proofs.RowLemmas.{left_at, body_more, index_more, count_more, summaries_more, length_entry}
use Rattle.volume_bytes.proofs.tables.tables_of.Goals as goal

pub push_summary-requires : goal.push_summary-requires
push_summary-requires c =
    let fits = c.requires.fits c.row-item.result (IsIn-read c.args.rows.now c.loop-row.row-index c.row-item.result c.loop-row-test.true c.row-item.is) in
    record { long = subst (λ (l : List ℕ). length l ≤ MOST_ID_BYTES) (sym c.as_str.ensures) fits.id }

pub push_series-requires : goal.push_series-requires
push_series-requires c = c.requires.fits c.row-item.result (IsIn-read c.args.rows.now c.loop-row.row-index c.row-item.result c.loop-row-test.true c.row-item.is)

pub loop-row-preserved : goal.loop-row-preserved
loop-row-preserved c =
    let rows = c.args.rows.now in
    let i = c.loop-row.row-index in
    let s = c.row-item.result in
    let left = left_at rows i s c.loop-row-test.true c.row-item.is in
    let body = c.in_ok-push_series.ensures.body in
    let index = c.in_ok-push_series.ensures.index in
    let at = length c.loop-row.data.items in
    let next : length c.push_series.new.body.items ≡ at + length (row_bytes s) = ap length body ∙ length-append c.loop-row.data.items (row_bytes s) in
    let offset : c.len.result ≡ length c.loop-row.index.items = omega (arith, c.len.ensures, c.loop-row.index.ok) in
    let after : length c.push_series.new.index.items ≡ length c.loop-row.index.items + length (index_entry 1 0 s) = ap length index ∙ length-append c.loop-row.index.items (index_entry 1 at s) ∙ ap (λ n. length c.loop-row.index.items + n) (length_entry at s) in
    record {
      body = body_more rows i s left c.loop-row.data.items c.push_series.new.body.items _ body c.loop-row.invariant.body;
      index = index_more rows i s left c.loop-row.index.items c.push_series.new.index.items _ at (length c.push_series.new.body.items) index next c.loop-row.invariant.index;
      summaries = summaries_more rows i s left c.loop-row.summaries.items c.push_summary.new.out.items _ c.loop-row.before c.in_ok-before.before c.len.result (length c.push_series.new.index.items)
          (c.in_ok-before.ensures s (sym c.as_str.ensures)) (after ∙ ap (λ n. n + length (index_entry 1 0 s)) (sym offset)) (rw offset c.loop-row.invariant.summaries);
      points = count_more rows i s left c.loop-row.points c.len-in-loop-row.result c.len-in-loop-row.ensures c.loop-row.invariant.points;
    }
