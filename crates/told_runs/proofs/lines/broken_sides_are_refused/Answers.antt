use Rattle.told_runs.proofs.BesideServedLemmas.{leaving_acks, placed_for_nothing}
use Rattle.told_runs.proofs.lines.broken_sides_are_refused.Goals as goal

pub returns-clause-leaving : goal.returns-clause-leaving
returns-clause-leaving c = leaving_acks

pub returns-clause-placed : goal.returns-clause-placed
returns-clause-placed c = placed_for_nothing
