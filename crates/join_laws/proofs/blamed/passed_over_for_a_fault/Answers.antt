use Rattle.join_laws.proofs.BlamedLives.{another-refused, closed-blamed, nothing-refused, untaken-refused}
use Rattle.join_laws.proofs.blamed.passed_over_for_a_fault.Goals as goal

pub returns-clause-closed : goal.returns-clause-closed
returns-clause-closed c = closed-blamed

pub returns-clause-nothing : goal.returns-clause-nothing
returns-clause-nothing c = nothing-refused

pub returns-clause-another : goal.returns-clause-another
returns-clause-another c = another-refused

pub returns-clause-untaken : goal.returns-clause-untaken
returns-clause-untaken c = untaken-refused
