use Rattle.line_tracks.proofs.acts.DueLemmas.{bootstraps_are_due, fates_are_due, flags_tell, restarts_are_due, stops_are_due}
use Rattle.line_tracks.proofs.due.nodes_are_due.Goals as goal

pub returns-clause-fates : goal.returns-clause-fates
returns-clause-fates c = fates_are_due

pub returns-clause-stops : goal.returns-clause-stops
returns-clause-stops c = stops_are_due

pub returns-clause-restarts : goal.returns-clause-restarts
returns-clause-restarts c = restarts_are_due

pub returns-clause-bootstraps : goal.returns-clause-bootstraps
returns-clause-bootstraps c = bootstraps_are_due

pub returns-clause-flags : goal.returns-clause-flags
returns-clause-flags c = flags_tell
