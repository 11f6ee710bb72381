use Rattle.line_tracks.proofs.acts.DueLemmas.{steps_are_due as it}
use Rattle.line_tracks.proofs.due.steps_are_due.Goals as goal

pub returns : goal.returns
returns c = it
