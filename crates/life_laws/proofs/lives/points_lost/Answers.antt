use Rattle.life_laws.proofs.BrokenLemmas as broken
use Rattle.life_laws.proofs.lives.points_lost.Goals as goal

pub returns : goal.returns
returns c = broken.acked_points_are_held
