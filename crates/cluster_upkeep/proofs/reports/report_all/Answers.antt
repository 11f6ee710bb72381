use Rattle.std.proofs.Common.{◌≡◌, ◌+◌, ◌<◌, List, [], ◌∷◌, ◌++◌, length, map, take, get_or, refl, sym, ap, ◌∙◌, subst, arith}
use Rattle.std.specs.List.{flat_map}
use Rattle.std.proofs.lemmas.List.{take_all}
use Rattle.m3_model.specs.declared.answer.StatusLine.{StatusLine}
use Rattle.m3_model.proofs.Lists.{IsIn-get_or}
use Rattle.node_calls.proofs.session_net_proofs.ReadyLemmas.{there_after}
use Rattle.node_calls.specs.session_net.Runs.{Ran}
use Rattle.node_calls.proofs.session_net_proofs.RunLemmas.{ran_nothing}
use Rattle.cluster_upkeep.specs.Status.{line_of, row_of, told_at}
use Rattle.cluster_upkeep.specs.declared.rows.Row.{Row}
use Rattle.cluster_upkeep.proofs.SweepLemmas.{ran_report, room_left, rows_more}
use Rattle.cluster_upkeep.proofs.reports.report_all.Goals as goal

pub loop-row-init : goal.loop-row-init
loop-row-init g c = record {
  room = let room = c.requires.reserved in omega (arith, room);
  of_rows = ap (map row_of) c.requires.none;
  ran = subst (λ lines. Ran g.D.Disk.state c.args.replicas.now (flat_map told_at lines) c.args.replicas.now) (sym c.requires.none) (ran_nothing g.D.Disk.state c.args.replicas.now);
}

pub report_one-report-requires-clause-there : goal.report_one-report-requires-clause-there
report_one-report-requires-clause-there g c =
    let was = c.loop-row.invariant in
    let r : Row = get_or c.args.rows.now c.loop-row.row-index _ in
    there_after g.D.Disk.state c.args.replicas.now c.loop-row.replicas (flat_map told_at c.loop-row.lines.items) r.slot was.ran (c.requires.there r (IsIn-get_or c.args.rows.now c.loop-row.row-index _ c.loop-row-test.true))

pub report_one-report-requires-clause-room : goal.report_one-report-requires-clause-room
report_one-report-requires-clause-room g c =
    let was = c.loop-row.invariant in
    room_left g.D.Disk.state c.args.rows.now c.loop-row.row-index c.loop-row.lines.items c.args.replicas.now c.loop-row.replicas c.loop-row-test.true was.of_rows was.ran c.requires.room

pub loop-row-preserved : goal.loop-row-preserved
loop-row-preserved g c =
    let was = c.loop-row.invariant in
    let rows = c.args.rows.now in
    let i = c.loop-row.row-index in
    let lines : List StatusLine = c.loop-row.lines.items in
    let report = c.report_one-report.result in
    let row : Row = get_or rows i _ in
    let items_are : c.push_reserved.new.self.items ≡ lines ++ line_of row report ∷ [] = c.push_reserved.ensures.items ∙ ap (λ line. lines ++ line ∷ []) c.line_of.ensures in
    record {
      room = let room = was.room in let len = c.push_reserved.ensures.len in let capacity = c.push_reserved.ensures.capacity in omega (arith, room, len, capacity);
      of_rows = ap (map row_of) items_are ∙ rows_more rows i _ lines report c.loop-row-test.true was.of_rows;
      ran =
          subst (λ es. Ran g.D.Disk.state c.args.replicas.now (flat_map told_at es) c.report_one-report.new.replicas) (sym items_are)
          (ran_report g.D.Disk.state row lines report c.args.replicas.now c.loop-row.replicas c.report_one-report.new.replicas was.ran c.report_one-report.ensures);
    }

pub returns : goal.returns
returns g c =
    let was = c.loop-row.invariant in
    record {
      of_rows = was.of_rows ∙ take_all c.loop-row.row-index c.args.rows.now c.loop-row-test.false;
      ran = was.ran;
    }
