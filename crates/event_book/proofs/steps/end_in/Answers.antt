use Rattle.std.proofs.Common.{arith}
use Rattle.event_book.proofs.Ending.{takes_seat}
use Rattle.event_book.proofs.steps.end_in.Goals as goal

pub join_seat-requires : goal.join_seat-requires
join_seat-requires g c = let p = c.requires.0 in let q = c.requires.1 in (
  p.same,
  q.same,
  q.none_held,
  omega (arith, p.one),
  takes_seat g.E.Entries.lawful c.args.token.now.id c.args.token.now.me.0 c.args.other.id c.args.other.me.0 p.named q.named,
)
