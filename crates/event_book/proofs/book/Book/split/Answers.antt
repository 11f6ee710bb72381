use Rattle.std.proofs.Common.{subst}
use Rattle.event_book.specs.Steps.{IsPlaced}
use Rattle.event_book.proofs.Seated.{child_seated}
use Rattle.event_book.proofs.book.Book.split.Goals as goal

pub invariant_of-result : goal.invariant_of-result
invariant_of-result g c = let child = c.split_from-token in (
  subst (λ t. IsPlaced t child.result.table_id child.result.me) c.args.self.now.named child.ensures.child.0,
  child_seated g.E.Entries.lawful g.N.BookName.tells c.seat.inside.token.me.0 child.result.me.0 child.ensures.child.1 c.seat.invariant.1,
)
