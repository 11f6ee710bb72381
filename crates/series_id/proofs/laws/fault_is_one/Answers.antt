use Rattle.series_id.proofs.Faults.{same_fault, no_identifier}
use Rattle.series_id.proofs.laws.fault_is_one.Goals as goal

pub returns-clause-one : goal.returns-clause-one
returns-clause-one c = λ text e f a b. same_fault text e f a b

pub returns-clause-none : goal.returns-clause-none
returns-clause-none c = λ text e a. no_identifier text e a
