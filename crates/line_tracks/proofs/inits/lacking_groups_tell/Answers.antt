use Rattle.line_tracks.proofs.acts.GroupLemmas.{lacking_groups_tell}
use Rattle.line_tracks.proofs.inits.lacking_groups_tell.Goals as goal

pub returns : goal.returns
returns c = lacking_groups_tell
