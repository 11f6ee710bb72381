use Rattle.life_ends.proofs.MachineLemmas.{machine_begins_so, machine_leaves_so}
use Rattle.life_ends.proofs.laws.machines_leave_slots.Goals as goal

pub returns-clause-leaves : goal.returns-clause-leaves
returns-clause-leaves g c = machine_leaves_so g.D.Disk.state

pub returns-clause-begins : goal.returns-clause-begins
returns-clause-begins g c = machine_begins_so g.D.Disk.state
