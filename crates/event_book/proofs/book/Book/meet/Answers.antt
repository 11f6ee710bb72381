use Rattle.std.proofs.Common.{sym, subst}
use Rattle.event_book.specs.Steps.{IsPlaced, IsSeated}
use Rattle.event_book.proofs.Seated.{told_seated}
use Rattle.event_book.proofs.book.Book.meet.Goals as goal

pub invariant_of-other : goal.invariant_of-other
invariant_of-other g c =
    let lawful = g.E.Entries.lawful in
    let tells = g.N.BookName.tells in
    let first = c.tell_seen in
    let second = c.tell_seen-2 in
    let told = told_seated lawful tells c.one.inside.token.me.0.seen c.other.inside.token.me.0 first.new.to.me.0 first.ensures.told c.one.invariant.1.sound.legal c.other.invariant.1 in (
      subst (λ t. IsPlaced t second.new.from.table_id second.new.from.me) c.args.self.now.named second.ensures.from.0,
      subst (λ m. IsSeated lawful tells m.0) (sym second.ensures.from.1) told,
    )

pub invariant_of-one : goal.invariant_of-one
invariant_of-one g c =
    let lawful = g.E.Entries.lawful in
    let tells = g.N.BookName.tells in
    let first = c.tell_seen in
    let second = c.tell_seen-2 in
    let told = told_seated lawful tells c.one.inside.token.me.0.seen c.other.inside.token.me.0 first.new.to.me.0 first.ensures.told c.one.invariant.1.sound.legal c.other.invariant.1 in
    let one = subst (λ m. IsSeated lawful tells m.0) (sym first.ensures.from.1) c.one.invariant.1 in (
      subst (λ t. IsPlaced t second.new.to.table_id second.new.to.me) c.args.self.now.named second.ensures.to,
      told_seated lawful tells first.new.to.me.0.seen first.new.from.me.0 second.new.to.me.0 second.ensures.told told.sound.legal one,
    )
