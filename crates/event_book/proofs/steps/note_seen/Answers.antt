use Rattle.std.proofs.Common.{arith}
use Rattle.event_book.proofs.Passing.{gives_note}
use Rattle.event_book.proofs.steps.note_seen.Goals as goal

pub split_seat-requires : goal.split_seat-requires
split_seat-requires g c = let p = c.requires.0 in (p.same, omega (arith, p.one), gives_note g.E.Entries.lawful c.args.token.now.id c.args.token.now.me.0 c.requires.1)
