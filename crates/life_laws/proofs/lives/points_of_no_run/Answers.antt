use Rattle.life_laws.proofs.BrokenLemmas as broken
use Rattle.life_laws.proofs.lives.points_of_no_run.Goals as goal

pub returns : goal.returns
returns c = broken.strange_points_are_refused
