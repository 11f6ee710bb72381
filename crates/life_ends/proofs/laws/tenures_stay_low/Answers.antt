use Rattle.life_ends.proofs.LowLemmas.{ends_low, stays_low}
use Rattle.life_ends.proofs.laws.tenures_stay_low.Goals as goal

pub returns-clause-ends : goal.returns-clause-ends
returns-clause-ends c = ends_low

pub returns-clause-stays : goal.returns-clause-stays
returns-clause-stays c = stays_low
