use Rattle.std.proofs.Common.{Err}
use Rattle.replica_machine.proofs.OtherLemmas.{RestartDone, store_moved, restart_refused_of, restart_ok_of}
use Rattle.replica_machine.proofs.machine.Machine.restart.Given.{Over}
use Rattle.replica_machine.proofs.machine.Machine.restart.Goals as goal

failed : (g : Over) (c : goal.After-refused g) → RestartDone g.D.Disk.state c.args.self.now (Err c.refused.result) c.refused.new.self
failed g c =
    let inside = c.self.inside in
    restart_refused_of g.D.Disk.state inside.standing inside.tenure inside.begun inside.work c.args.self.now inside.store c.restart.new.self c.self.view_is c.in-Err.why c.refused.result c.refused.new.self c.in-Err.ensures.err c.refused.ensures.why
    c.refused.ensures.left c.in-Err.ensures.restarts

pub invariant_of-self : goal.invariant_of-self
invariant_of-self g c = store_moved c.self.inside.standing c.self.inside.store c.restart.new.self c.in-Err.ensures.err c.self.invariant

pub returns-in-Err-clause-ok : goal.returns-in-Err-clause-ok
returns-in-Err-clause-ok g c = (failed g c).ok

pub returns-in-Err-clause-memory : goal.returns-in-Err-clause-memory
returns-in-Err-clause-memory g c = (failed g c).memory

pub returns-in-Err-clause-fault : goal.returns-in-Err-clause-fault
returns-in-Err-clause-fault g c = (failed g c).fault

pub returns-in-Err-clause-err : goal.returns-in-Err-clause-err
returns-in-Err-clause-err g c = (failed g c).err

pub returns-in-Err-clause-restarts : goal.returns-in-Err-clause-restarts
returns-in-Err-clause-restarts g c = (failed g c).restarts

pub returns-in-Err-clause-step : goal.returns-in-Err-clause-step
returns-in-Err-clause-step g c = (failed g c).step

pub returns-clause-ok : goal.returns-clause-ok
returns-clause-ok g c = (restart_ok_of g.D.Disk.state c.self.inside.standing c.self.inside.tenure c.self.inside.begun c.self.inside.work c.args.self.now c.self.inside.store c.restart.new.self c.self.view_is tt c.in_default.ensures.ok c.in_default.ensures.restarts).ok

pub returns-clause-memory : goal.returns-clause-memory
returns-clause-memory g c = (restart_ok_of g.D.Disk.state c.self.inside.standing c.self.inside.tenure c.self.inside.begun c.self.inside.work c.args.self.now c.self.inside.store c.restart.new.self c.self.view_is tt c.in_default.ensures.ok c.in_default.ensures.restarts).memory

pub returns-clause-fault : goal.returns-clause-fault
returns-clause-fault g c = (restart_ok_of g.D.Disk.state c.self.inside.standing c.self.inside.tenure c.self.inside.begun c.self.inside.work c.args.self.now c.self.inside.store c.restart.new.self c.self.view_is tt c.in_default.ensures.ok c.in_default.ensures.restarts).fault

pub returns-clause-err : goal.returns-clause-err
returns-clause-err g c = (restart_ok_of g.D.Disk.state c.self.inside.standing c.self.inside.tenure c.self.inside.begun c.self.inside.work c.args.self.now c.self.inside.store c.restart.new.self c.self.view_is tt c.in_default.ensures.ok c.in_default.ensures.restarts).err

pub returns-clause-restarts : goal.returns-clause-restarts
returns-clause-restarts g c = (restart_ok_of g.D.Disk.state c.self.inside.standing c.self.inside.tenure c.self.inside.begun c.self.inside.work c.args.self.now c.self.inside.store c.restart.new.self c.self.view_is tt c.in_default.ensures.ok c.in_default.ensures.restarts).restarts

pub returns-clause-step : goal.returns-clause-step
returns-clause-step g c = (restart_ok_of g.D.Disk.state c.self.inside.standing c.self.inside.tenure c.self.inside.begun c.self.inside.work c.args.self.now c.self.inside.store c.restart.new.self c.self.view_is tt c.in_default.ensures.ok c.in_default.ensures.restarts).step
