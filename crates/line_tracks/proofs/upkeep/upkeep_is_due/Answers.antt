use Rattle.line_tracks.proofs.acts.UpkeepLemmas.{upkeep_is_due as it}
use Rattle.line_tracks.proofs.upkeep.upkeep_is_due.Goals as goal

pub returns : goal.returns
returns c = it
