use Rattle.line_tracks.proofs.tracks.SlotLemmas.{acts_keep_slots}
use Rattle.line_tracks.proofs.lines.acts_keep_slots.Goals as goal

pub returns : goal.returns
returns g c = acts_keep_slots g.D.Disk.state c.args.members.now
