use Rattle.m3_program.proofs.StandLemmas as stand
use Rattle.m3_program.proofs.laws.first_run_is_one.Goals as goal

pub returns : goal.returns
returns g c = stand.first_run_is_one g.D.Disk.state
