use Rattle.std.proofs.Common.{arith}
use Rattle.event_book.proofs.Splitting.{gives_seat}
use Rattle.event_book.proofs.steps.split_from.Goals as goal

pub split_seat-requires : goal.split_seat-requires
split_seat-requires g c = let p = c.requires.0 in (p.same, omega (arith, p.one), gives_seat g.E.Entries.lawful c.args.token.now.id c.args.token.now.me.0 c.requires.1 p.named)
