use Rattle.line_tracks.proofs.tracks.QuietLemmas.{quiet_lines_stand_on, quiet_turns_make_none}
use Rattle.line_tracks.proofs.track_laws.quiet_lines.Goals as goal

pub returns-clause-none : goal.returns-clause-none
returns-clause-none g c = quiet_turns_make_none

pub returns-clause-on : goal.returns-clause-on
returns-clause-on g c = quiet_lines_stand_on g.D.Disk.state g.met.D.Disk.lawful c.args.members.now
