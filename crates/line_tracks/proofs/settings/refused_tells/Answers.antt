use Rattle.line_tracks.proofs.acts.NothingLemmas.{refused_tells as it}
use Rattle.line_tracks.proofs.settings.refused_tells.Goals as goal

pub returns : goal.returns
returns c = it
