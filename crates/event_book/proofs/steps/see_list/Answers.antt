use Rattle.std.proofs.Common.{arith}
use Rattle.event_book.proofs.Looking.{sees_me}
use Rattle.event_book.proofs.steps.see_list.Goals as goal

pub load-requires : goal.load-requires
load-requires g c = let p = c.requires.0 in (
  p.same,
  omega (arith, p.one),
  sees_me g.E.Entries.lawful c.args.table.now.shared.table_id.slots c.args.token.now.id c.args.token.now.me p.none_held p.named c.requires.1,
)
