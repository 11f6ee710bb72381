use Rattle.std.proofs.Common.{arith}
use Rattle.event_book.proofs.Passing.{takes_note}
use Rattle.event_book.proofs.steps.read_note.Goals as goal

pub join_seat-requires : goal.join_seat-requires
join_seat-requires g c = let p = c.requires.0 in (
  p.same,
  c.requires.1,
  c.requires.2,
  omega (arith, p.one),
  takes_note g.E.Entries.lawful c.args.token.now.id c.args.token.now.me.0 c.args.note.id c.args.note.me.0,
)
