use Rattle.life_laws.proofs.BrokenLemmas as broken
use Rattle.life_laws.proofs.lives.numbers_too_high.Goals as goal

pub returns : goal.returns
returns c = broken.high_numbers_are_refused
