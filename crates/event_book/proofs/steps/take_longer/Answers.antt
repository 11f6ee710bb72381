use Rattle.std.proofs.Common.{arith}
use Rattle.event_book.proofs.Passing.{takes_longer}
use Rattle.event_book.proofs.steps.take_longer.Goals as goal

pub load-requires : goal.load-requires
load-requires g c = let p = c.requires in (
  p.same,
  omega (arith, p.one),
  takes_longer g.E.Entries.lawful c.args.table.now.shared.table_id.slots c.args.token.now.id c.args.token.now.me p.none_held p.named,
)
