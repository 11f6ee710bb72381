use Rattle.std.proofs.Common.{sym, subst}
use Rattle.session_writes.specs.cluster_core.Legal.{Lawful}
use Rattle.cluster_members.proofs.clock.answer.Goals as goal

pub add-requires-clause-lawful : goal.add-requires-clause-lawful
add-requires-clause-lawful g c tells = subst (λ e. Lawful tells (c.args.replicas.now).events e) (sym c.clock-clock.ensures) (c.requires.lawful tells)
