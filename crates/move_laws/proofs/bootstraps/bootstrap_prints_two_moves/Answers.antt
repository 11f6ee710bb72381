use Rattle.move_laws.proofs.BootLives.{both-caused, first-caused, both_order-refused, left_out-refused}
use Rattle.move_laws.proofs.bootstraps.bootstrap_prints_two_moves.Goals as goal

pub returns-clause-both : goal.returns-clause-both
returns-clause-both c = both-caused

pub returns-clause-first : goal.returns-clause-first
returns-clause-first c = first-caused

pub returns-clause-order : goal.returns-clause-order
returns-clause-order c = both_order-refused

pub returns-clause-left_out : goal.returns-clause-left_out
returns-clause-left_out c = left_out-refused
