use Rattle.told_joins.proofs.JoinLemmas.{held_up_serve, joins_serve, part_serves}
use Rattle.told_joins.proofs.lines.joins_serve.Goals as goal

pub returns-clause-joined : goal.returns-clause-joined
returns-clause-joined c = λ tells. joins_serve

pub returns-clause-held_up : goal.returns-clause-held_up
returns-clause-held_up c = λ tells. held_up_serve

pub returns-clause-part : goal.returns-clause-part
returns-clause-part c = λ tells. part_serves
