use Rattle.m3_program.proofs.StandLemmas.{runs_keep, runs_leave_standing}
use Rattle.m3_program.proofs.laws.lives_are_kept.Goals as goal

pub returns-clause-stand : goal.returns-clause-stand
returns-clause-stand g c = runs_leave_standing g.D.Disk.state

pub returns-clause-keep : goal.returns-clause-keep
returns-clause-keep g c = runs_keep g.D.Disk.state
