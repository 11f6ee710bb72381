use Rattle.line_tracks.proofs.acts.UntakenLemmas.{untaken_tells}
use Rattle.line_tracks.proofs.inits.untaken_tells.Goals as goal

pub returns : goal.returns
returns g c = untaken_tells
