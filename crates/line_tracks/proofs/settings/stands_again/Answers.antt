use Rattle.line_tracks.proofs.acts.StandLemmas.{stands_still, stands_unchanged}
use Rattle.line_tracks.proofs.settings.stands_again.Goals as goal

pub returns-clause-unchanged : goal.returns-clause-unchanged
returns-clause-unchanged g c = stands_unchanged c.args.members.now

pub returns-clause-still : goal.returns-clause-still
returns-clause-still g c = stands_still g.D.Disk.state c.args.members.now
