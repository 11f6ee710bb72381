use Rattle.line_tracks.proofs.tracks.LeaveLemmas.{last_turn_may_be_open, leaves_standing, leaves_unmade, leaves_unsaved}
use Rattle.line_tracks.proofs.tracks.MadeLemmas.{steps_are_made}
use Rattle.line_tracks.proofs.track_laws.runs_leave_standing.Goals as goal

pub returns-clause-standing : goal.returns-clause-standing
returns-clause-standing g c = leaves_standing g.D.Disk.state c.args.members.now

pub returns-clause-unmade : goal.returns-clause-unmade
returns-clause-unmade g c = leaves_unmade g.D.Disk.state c.args.members.now

pub returns-clause-steps : goal.returns-clause-steps
returns-clause-steps g c = steps_are_made g.D.Disk.state c.args.before.now c.args.last.now

pub returns-clause-unsaved : goal.returns-clause-unsaved
returns-clause-unsaved g c = leaves_unsaved g.D.Disk.state c.args.last.now

pub returns-clause-may_be_open : goal.returns-clause-may_be_open
returns-clause-may_be_open g c = last_turn_may_be_open g.D.Disk.state
