use Rattle.told_by.proofs.PrintedLemmas.{placements_stand}
use Rattle.told_by.proofs.laws.printed_placements_stand.Goals as goal

pub returns : goal.returns
returns c = λ tells. placements_stand
