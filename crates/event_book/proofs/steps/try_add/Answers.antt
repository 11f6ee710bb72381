use Rattle.std.proofs.Common.{arith}
use Rattle.event_book.proofs.Adding.{adds_me}
use Rattle.event_book.proofs.steps.try_add.Goals as goal

pub compare_exchange_with-requires : goal.compare_exchange_with-requires
compare_exchange_with-requires g c = let p = c.requires.placed.0 in (
  p.same,
  omega (arith, p.one),
  adds_me g.E.Entries.lawful c.args.table.now.shared.table_id.slots c.args.token.now.id c.args.token.now.me c.args.entry.now c.args.seen p.none_held p.named c.requires.placed.1 c.requires.length.0 c.requires.length.1 c.requires.lawful,
)
