use Rattle.join_laws.proofs.JoinedLives.{left_out-refused, other_kind-refused, other_node-refused}
use Rattle.join_laws.proofs.joined.joined_by_another.Goals as goal

pub returns-clause-node : goal.returns-clause-node
returns-clause-node c = other_node-refused

pub returns-clause-left_out : goal.returns-clause-left_out
returns-clause-left_out c = left_out-refused

pub returns-clause-kind : goal.returns-clause-kind
returns-clause-kind c = other_kind-refused
