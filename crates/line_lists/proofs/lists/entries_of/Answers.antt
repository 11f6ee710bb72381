use Rattle.std.proofs.Common.{arith, rules}
use Rattle.line_lists.proofs.Entries.{one_more_entry, no_entry}
use Rattle.line_lists.proofs.lists.entries_of.Goals as goal

pub loop-item-preserved : goal.loop-item-preserved
loop-item-preserved g c = one_more_entry g.E.Entry.reading c.args.items.now _ c.item-item.result _ _ _ (omega arith) c.item-item.is c.in_ok-entry.ensures c.in_ok-push.ensures.items c.loop-item.invariant

pub returns-in_err-entry : goal.returns-in_err-entry
returns-in_err-entry g c =
    let fails = no_entry g.E.Entry.reading c.args.items.now _ c.item-item.result _ c.in_err-entry.field-0.0 (omega arith) c.item-item.is c.in_err-entry.ensures c.loop-item.invariant in
    search (rules, fails)
