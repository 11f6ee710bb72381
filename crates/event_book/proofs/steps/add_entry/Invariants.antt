use Rattle.std.proofs.Common.{◌-◌}
use Rattle.event_book.specs.Lists.{most_entries}
use Rattle.event_book.specs.Steps.{IsPlaced}
use Rattle.event_book.proofs.Appending.{Since}
use Rattle.event_book.proofs.steps.add_entry.Given as goal

abbrev pub invariant-loop-seen : goal.invariant-loop-seen
invariant-loop-seen g l = record {
  placed : IsPlaced l.table.shared.table_id l.token.table_id l.token.me;
  since : Since g.E.Entries.lawful l.fn.token.me.0 l.token.me.0 l.seen;
}

abbrev pub decreases-loop-seen : goal.decreases-loop-seen
decreases-loop-seen g l = most_entries - l.seen
