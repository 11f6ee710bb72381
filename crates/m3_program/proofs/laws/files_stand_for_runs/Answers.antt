use Rattle.m3_program.proofs.StandLemmas.{first_found_none, no_runs_leave_nothing}
use Rattle.m3_program.proofs.laws.files_stand_for_runs.Goals as goal

pub returns-clause-none : goal.returns-clause-none
returns-clause-none c = no_runs_leave_nothing

pub returns-clause-first : goal.returns-clause-first
returns-clause-first c = first_found_none
