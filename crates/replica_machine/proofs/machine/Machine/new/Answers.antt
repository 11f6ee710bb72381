use Rattle.std.proofs.Common.{None, sym, subst}
use Rattle.m3_model.specs.declared.replica.Standing.TheVariants.{Boot}
use Rattle.cluster_core.specs.Replicas.{fresh}
use Rattle.replica_machine.specs.Machines.{IsMachineOf}
use Rattle.replica_machine.proofs.OtherLemmas.{first_follows}
use Rattle.replica_machine.proofs.StepLemmas.{machine_of}
use Rattle.replica_machine.proofs.machine.Machine.new.Goals as goal

pub returns-clause-first : goal.returns-clause-first
returns-clause-first g c = λ i. machine_of Boot None 0 (c.none.ensures i) (c.new.ensures i)

pub returns-clause-fresh : goal.returns-clause-fresh
returns-clause-fresh g c = subst (λ m. IsMachineOf g.D.Disk.state (g.D.Disk.state c.args.disk).images fresh m) (sym (returns-clause-first g c)) (first_follows g.D.Disk.state c.args.disk)
