use Rattle.run_laws.proofs.StateRuns.{joined-accepted, later-accepted, left-accepted}
use Rattle.run_laws.proofs.states.state_led_to.Goals as goal

pub returns-clause-left : goal.returns-clause-left
returns-clause-left c = left-accepted

pub returns-clause-later : goal.returns-clause-later
returns-clause-later c = later-accepted

pub returns-clause-joined : goal.returns-clause-joined
returns-clause-joined c = joined-accepted
