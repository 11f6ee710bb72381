use Rattle.replica_machine.proofs.OtherLemmas.{stop_step_of}
use Rattle.replica_machine.proofs.machine.Machine.stop.Goals as goal

pub returns-clause-step : goal.returns-clause-step
returns-clause-step g c = stop_step_of g.D.Disk.state c.self.inside.standing c.self.inside.tenure c.self.inside.begun c.self.inside.work c.args.self.now c.self.inside.store c.close.new.self c.self.view_is c.close.ensures
