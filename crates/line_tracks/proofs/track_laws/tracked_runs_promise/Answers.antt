use Rattle.line_tracks.proofs.tracks.EndLemmas.{caused_where_tracked, joined_where_tracked, kept_where_tracked, shown_where_tracked}
use Rattle.line_tracks.proofs.track_laws.tracked_runs_promise.Goals as goal

pub returns-clause-kept : goal.returns-clause-kept
returns-clause-kept g c = kept_where_tracked g.D.Disk.state g.met.D.Disk.lawful c.args.members.now

pub returns-clause-caused : goal.returns-clause-caused
returns-clause-caused g c = caused_where_tracked g.D.Disk.state c.args.members.now

pub returns-clause-joined : goal.returns-clause-joined
returns-clause-joined g c = joined_where_tracked g.D.Disk.state c.args.members.now

pub returns-clause-shown : goal.returns-clause-shown
returns-clause-shown g c = shown_where_tracked g.D.Disk.state g.met.D.Disk.lawful c.args.members.now
