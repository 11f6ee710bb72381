use Rattle.std.proofs.Common.{length, sym, subst}
use Rattle.replica_machine.proofs.cluster_core_proofs.OwnLemmas.{lawful_later}
use Rattle.event_trail.specs.Trails.{IsLawfulOver}
use Rattle.replica_exchange.specs.Exchanges.{ask_of}
use Rattle.replica_exchange.proofs.exchange.ask.Goals as goal

pub append_reserved-requires-clause-lawful : goal.append_reserved-requires-clause-lawful
append_reserved-requires-clause-lawful g c =
    subst (IsLawfulOver g.D.Disk.state c.args.trail.now) (sym c.ask_step-ask.ensures) (λ tells all. lawful_later tells (length c.args.trail.now) c.args.trail.now (ask_of c.args.slot.node c.args.slot.shard c.args.call.now) c.requires.opened tt)
