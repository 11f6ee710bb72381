use Rattle.std.proofs.Common.{sym, subst}
use Rattle.cluster_core.specs.Legal.{Lawful}
use Rattle.cluster_joins.proofs.events.answer.Goals as goal

pub add-requires-clause-lawful : goal.add-requires-clause-lawful
add-requires-clause-lawful g c tells = subst (λ e. Lawful tells (c.args.replicas.now).events e) (sym c.ended-place.ensures) (c.requires.lawful tells)
