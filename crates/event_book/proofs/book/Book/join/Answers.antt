use Rattle.std.proofs.Common.{sym, ap, subst, ◌∙◌}
use Rattle.event_book.specs.Steps.{IsPlaced}
use Rattle.event_book.proofs.Seated.{joined_seated}
use Rattle.event_book.proofs.book.Book.join.Goals as goal

pub invariant_of-seat : goal.invariant_of-seat
invariant_of-seat g c =
    let same = ap (λ s. s.seen) c.seat.view_is ∙ (c.meet.ensures.same ∙ sym (ap (λ s. s.seen) c.other.view_is)) in (
      subst (λ t. IsPlaced t c.end_in.new.token.table_id c.end_in.new.token.me) c.args.self.now.named c.end_in.ensures.placed,
      joined_seated g.E.Entries.lawful g.N.BookName.tells c.seat.inside.token.me.0 c.other.inside.token.me.0 c.end_in.new.token.me.0 (ap (λ m. m.0) c.end_in.ensures.joined) same c.seat.invariant.1 c.other.invariant.1,
    )
