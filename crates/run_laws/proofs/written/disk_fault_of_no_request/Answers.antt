use Rattle.run_laws.proofs.WrittenRuns.{disk_left_out-refused, disk_none-refused}
use Rattle.run_laws.proofs.written.disk_fault_of_no_request.Goals as goal

pub returns-clause-left_out : goal.returns-clause-left_out
returns-clause-left_out c = disk_left_out-refused

pub returns-clause-none : goal.returns-clause-none
returns-clause-none c = disk_none-refused
