use Rattle.model_laws.proofs.ShapeLemmas.{early-caused, memory-caused, late-refused}
use Rattle.model_laws.proofs.shapes.refused_whole_with_cluster.Goals as goal

pub returns-clause-before : goal.returns-clause-before
returns-clause-before c = early-caused

pub returns-clause-memory : goal.returns-clause-memory
returns-clause-memory c = memory-caused

pub returns-clause-after : goal.returns-clause-after
returns-clause-after c = late-refused
