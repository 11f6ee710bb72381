use Rattle.std.proofs.Common.{arith, ap}
use Rattle.event_book.proofs.Opening.{opens}
use Rattle.event_book.proofs.steps.open_under.Goals as goal

pub load-requires : goal.load-requires
load-requires g c = let p = c.requires in (
  p.same,
  omega (arith, p.one),
  opens g.E.Entries.lawful c.args.table.now.shared.table_id.slots c.args.token.now.id c.args.token.now.me g.N.BookName.tells (ap (λ m. m.0.opened) p.first) (g.E.Entries.starts g.N.BookName.tells),
)
