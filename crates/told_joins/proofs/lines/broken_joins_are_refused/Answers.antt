use Rattle.told_joins.proofs.SampleLemmas.{ended_early, ends_nothing, fenced_late, join_added, no_peer, unfenced, unstreamed}
use Rattle.told_joins.proofs.lines.broken_joins_are_refused.Goals as goal

pub returns-clause-met : goal.returns-clause-met
returns-clause-met c = join_added

pub returns-clause-unfenced : goal.returns-clause-unfenced
returns-clause-unfenced c = unfenced

pub returns-clause-fenced_late : goal.returns-clause-fenced_late
returns-clause-fenced_late c = fenced_late

pub returns-clause-unstreamed : goal.returns-clause-unstreamed
returns-clause-unstreamed c = unstreamed

pub returns-clause-ended_early : goal.returns-clause-ended_early
returns-clause-ended_early c = ended_early

pub returns-clause-ends_nothing : goal.returns-clause-ends_nothing
returns-clause-ends_nothing c = ends_nothing

pub returns-clause-no_peer : goal.returns-clause-no_peer
returns-clause-no_peer c = no_peer
