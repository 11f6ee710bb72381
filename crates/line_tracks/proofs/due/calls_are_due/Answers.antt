use Rattle.line_tracks.proofs.acts.DueLemmas.{calls_are_due as it, deliveries_are_due}
use Rattle.line_tracks.proofs.due.calls_are_due.Goals as goal

pub returns-clause-calls : goal.returns-clause-calls
returns-clause-calls c = it

pub returns-clause-deliveries : goal.returns-clause-deliveries
returns-clause-deliveries c = deliveries_are_due
