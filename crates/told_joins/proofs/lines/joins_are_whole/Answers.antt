use Rattle.told_joins.proofs.WholeLemmas.{joins_whole}
use Rattle.told_joins.proofs.lines.joins_are_whole.Goals as goal

pub returns : goal.returns
returns c = joins_whole
