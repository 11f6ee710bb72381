use Rattle.placement_core.proofs.LawLemmas as law
use Rattle.placement_core.proofs.laws.counted_are_available.Goals as goal

pub returns : goal.returns
returns c = law.counted_are_available
