use Rattle.std.proofs.Common.{◌≡◌, ◌+◌, length, ap, ◌∙◌, arith, length-append}
use Rattle.std.proofs.lemmas.Result.{on_ok_weaker}
use Rattle.wire_bytes.specs.Volumes.{row_bytes}
use Rattle.volume_bytes.proofs.RowLemmas.{length_row, entry_is}
use Rattle.volume_bytes.proofs.tables.push_series.Goals as goal

pub put_number-requires-2-clause-fits : goal.put_number-requires-2-clause-fits
put_number-requires-2-clause-fits c =
    let long : length c.push_row.new.out.items ≡ length c.args.body.now.items + length (row_bytes c.args.row.now) = ap length c.in_ok-push_row.ensures ∙ length-append c.args.body.now.items (row_bytes c.args.row.now) in
    let row = length_row c.args.row.now in
    omega (arith, long, row, c.requires.long, c.len.ensures, c.len-at.ensures)

pub returns-clause-index : goal.returns-clause-index
returns-clause-index c =
    let long : length c.push_row.new.out.items ≡ length c.args.body.now.items + length (row_bytes c.args.row.now) = ap length c.in_ok-push_row.ensures ∙ length-append c.args.body.now.items (row_bytes c.args.row.now) in
    on_ok_weaker c.put_number-2.result
    (λ last. entry_is c.args.index.now.items c.push_id.new.out.items c.put_number.new.out.items c.put_number-2.new.out.items c.as_str.result.now c.len-at.result (length c.args.body.now.items) _ c.args.row.now
    c.in_ok-push_id.ensures c.as_str.ensures c.in_ok-put_number.ensures.ok (omega (arith, c.len-at.ensures)) last (omega (arith, long, c.len.ensures, c.len-at.ensures)))
    c.put_number-2.ensures.ok
