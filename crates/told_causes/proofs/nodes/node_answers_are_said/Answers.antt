use Rattle.told_causes.proofs.NodeLemmas.{node_answers}
use Rattle.told_causes.proofs.nodes.node_answers_are_said.Goals as goal

pub returns : goal.returns
returns c = λ tells. node_answers
