use Rattle.run_laws.proofs.WrittenRuns.{fault-refused, fault_taken-refused, limit-refused, limit_taken-refused}
use Rattle.run_laws.proofs.written.line_taken_without_reply.Goals as goal

pub returns-clause-fault : goal.returns-clause-fault
returns-clause-fault c = fault-refused

pub returns-clause-limit : goal.returns-clause-limit
returns-clause-limit c = limit-refused

pub returns-clause-fault_taken : goal.returns-clause-fault_taken
returns-clause-fault_taken c = fault_taken-refused

pub returns-clause-limit_taken : goal.returns-clause-limit_taken
returns-clause-limit_taken c = limit_taken-refused
