use Rattle.fault_laws.proofs.DeliveryLives.{call-cut, tick-uncut, tick_cut-refused, no_call-uncut}
use Rattle.fault_laws.proofs.deliveries.cut_of_no_call.Goals as goal

pub returns-clause-call : goal.returns-clause-call
returns-clause-call c = call-cut

pub returns-clause-tick : goal.returns-clause-tick
returns-clause-tick c = tick-uncut

pub returns-clause-answered : goal.returns-clause-answered
returns-clause-answered c = tick_cut-refused

pub returns-clause-any : goal.returns-clause-any
returns-clause-any c = no_call-uncut
