use Rattle.join_laws.proofs.JoinedLives.{order-refused, twice-refused}
use Rattle.join_laws.proofs.joined.peers_out_of_order.Goals as goal

pub returns-clause-twice : goal.returns-clause-twice
returns-clause-twice c = twice-refused

pub returns-clause-order : goal.returns-clause-order
returns-clause-order c = order-refused
