use Rattle.join_laws.proofs.PeerLives.{order-refused, stranger-refused, twice-refused}
use Rattle.join_laws.proofs.peers.reasons_out_of_order.Goals as goal

pub returns-clause-stranger : goal.returns-clause-stranger
returns-clause-stranger c = stranger-refused

pub returns-clause-twice : goal.returns-clause-twice
returns-clause-twice c = twice-refused

pub returns-clause-order : goal.returns-clause-order
returns-clause-order c = order-refused
