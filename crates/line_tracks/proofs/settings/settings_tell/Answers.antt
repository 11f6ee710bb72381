use Rattle.line_tracks.proofs.acts.SettingLemmas.{fates_tell, moved_tells, named_tells}
use Rattle.line_tracks.proofs.settings.settings_tell.Goals as goal

pub returns-clause-named : goal.returns-clause-named
returns-clause-named g c = named_tells g.D.Disk.state c.args.members.now

pub returns-clause-moved : goal.returns-clause-moved
returns-clause-moved g c = moved_tells g.D.Disk.state c.args.members.now

pub returns-clause-fates : goal.returns-clause-fates
returns-clause-fates g c = fates_tell c.args.members.now
