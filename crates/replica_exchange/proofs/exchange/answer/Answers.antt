use Rattle.std.proofs.Common.{sym, subst}
use Rattle.event_trail.specs.Trails.{IsLawfulOver}
use Rattle.replica_exchange.proofs.ExchangeLemmas.{answer_lawful}
use Rattle.replica_exchange.proofs.exchange.answer.Goals as goal

pub append_reserved-requires-clause-lawful : goal.append_reserved-requires-clause-lawful
append_reserved-requires-clause-lawful g c =
    subst (IsLawfulOver g.D.Disk.state c.args.trail.now) (sym c.step-step.ensures)
    (answer_lawful g.D.Disk.state c.args.slot c.tell_apart.ensures c.args.call.now c.args.reply.now c.args.trail.now c.requires.answers c.know.ensures.legal)
