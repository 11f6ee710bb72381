use Rattle.m3_program.proofs.CloseLemmas.{unopened_lie_less}
use Rattle.m3_program.proofs.StandLemmas.{empty_disks_stand, stops_leave_standing}
use Rattle.m3_program.proofs.laws.disks_stand.Goals as goal

pub returns-clause-empty : goal.returns-clause-empty
returns-clause-empty g c = empty_disks_stand g.D.Disk.state

pub returns-clause-stops : goal.returns-clause-stops
returns-clause-stops g c = stops_leave_standing g.D.Disk.state

pub returns-clause-unopened : goal.returns-clause-unopened
returns-clause-unopened g c = unopened_lie_less g.D.Disk.state
