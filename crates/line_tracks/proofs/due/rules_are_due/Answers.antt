use Rattle.line_tracks.proofs.acts.DueLemmas.{inits_are_due, moments_are_due, namespaces_are_due}
use Rattle.line_tracks.proofs.due.rules_are_due.Goals as goal

pub returns-clause-inits : goal.returns-clause-inits
returns-clause-inits c = inits_are_due

pub returns-clause-namespaces : goal.returns-clause-namespaces
returns-clause-namespaces c = namespaces_are_due

pub returns-clause-moments : goal.returns-clause-moments
returns-clause-moments c = moments_are_due
