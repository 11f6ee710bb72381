use Rattle.book_tests.specs.declared.tick.Tick.{Tick}
use Rattle.book_tests.proofs.Numbering.{may_tick}
use Rattle.book_tests.proofs.tick.add_tick.Goals as goal

pub append-requires : goal.append-requires
append-requires g c = record { lawful = may_tick (λ (tick : Tick). tick.number) g.N.BookName.tells c.args.seat.now (record { number = c.args.number }) c.requires }
