use Rattle.line_tracks.proofs.acts.DueLemmas.{first_init_is_free, order_is_due}
use Rattle.line_tracks.proofs.due.first_acts_are_due.Goals as goal

pub returns-clause-order : goal.returns-clause-order
returns-clause-order c = order_is_due

pub returns-clause-init : goal.returns-clause-init
returns-clause-init c = first_init_is_free
