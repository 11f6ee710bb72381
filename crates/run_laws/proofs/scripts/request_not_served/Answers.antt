use Rattle.run_laws.proofs.ScriptRuns.{another-refused, behind-refused, put_off-refused, shape-refused}
use Rattle.run_laws.proofs.scripts.request_not_served.Goals as goal

pub returns-clause-put_off : goal.returns-clause-put_off
returns-clause-put_off c = put_off-refused

pub returns-clause-shape : goal.returns-clause-shape
returns-clause-shape c = shape-refused

pub returns-clause-behind : goal.returns-clause-behind
returns-clause-behind c = behind-refused

pub returns-clause-another : goal.returns-clause-another
returns-clause-another c = another-refused
