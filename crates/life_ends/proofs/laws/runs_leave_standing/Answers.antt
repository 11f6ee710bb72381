use Rattle.life_ends.proofs.EndLemmas.{run_leaves_standing, run_opens_standing}
use Rattle.life_ends.proofs.QuietLemmas.{run_leaves_standing_before}
use Rattle.life_ends.proofs.laws.runs_leave_standing.Goals as goal

pub returns-clause-opens : goal.returns-clause-opens
returns-clause-opens g c = run_opens_standing g.D.Disk.state

pub returns-clause-leaves : goal.returns-clause-leaves
returns-clause-leaves g c = run_leaves_standing g.D.Disk.state

pub returns-clause-before : goal.returns-clause-before
returns-clause-before g c = run_leaves_standing_before g.D.Disk.state
