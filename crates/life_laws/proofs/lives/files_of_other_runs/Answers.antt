use Rattle.life_laws.proofs.BrokenLemmas.{idle_runs_leave_all, other_states_are_refused, state_is_left}
use Rattle.life_laws.proofs.lives.files_of_other_runs.Goals as goal

pub returns-clause-left : goal.returns-clause-left
returns-clause-left c = state_is_left

pub returns-clause-others : goal.returns-clause-others
returns-clause-others c = other_states_are_refused

pub returns-clause-idle : goal.returns-clause-idle
returns-clause-idle c = idle_runs_leave_all
