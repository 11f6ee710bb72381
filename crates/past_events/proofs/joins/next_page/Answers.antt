use Rattle.past_events.proofs.CoverLemmas.{none_given}
use Rattle.past_events.proofs.joins.next_page.Goals as goal

pub returns-in_default : goal.returns-in_default
returns-in_default c = none_given c.args.shard c.args.peer c.args.node c.args.since.now c.args.keys.now c.args.event.now c.in_default.ensures
