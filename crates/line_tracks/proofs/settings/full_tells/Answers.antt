use Rattle.line_tracks.proofs.acts.NothingLemmas.{no_room_tells}
use Rattle.line_tracks.proofs.settings.full_tells.Goals as goal

pub returns : goal.returns
returns c = no_room_tells
