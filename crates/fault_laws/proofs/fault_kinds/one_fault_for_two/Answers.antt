use Rattle.fault_laws.proofs.FaultKindLives.{two-caused, one-refused, taking-refused, two-both}
use Rattle.fault_laws.proofs.fault_kinds.one_fault_for_two.Goals as goal

pub returns-clause-two : goal.returns-clause-two
returns-clause-two c = two-caused

pub returns-clause-one : goal.returns-clause-one
returns-clause-one c = one-refused

pub returns-clause-taking : goal.returns-clause-taking
returns-clause-taking c = taking-refused

pub returns-clause-both : goal.returns-clause-both
returns-clause-both c = two-both
