use Rattle.line_tracks.proofs.tracks.BootstrapLemmas.{bootstraps_are_tracked}
use Rattle.line_tracks.proofs.tracks.HaltLemmas.{restarts_are_tracked, stops_are_tracked}
use Rattle.line_tracks.proofs.lines.nodes_are_tracked.Goals as goal

pub returns-clause-stop : goal.returns-clause-stop
returns-clause-stop g c = stops_are_tracked g.D.Disk.state g.met.D.Disk.lawful c.args.members.now

pub returns-clause-restart : goal.returns-clause-restart
returns-clause-restart g c = restarts_are_tracked g.D.Disk.state g.met.D.Disk.lawful c.args.members.now

pub returns-clause-bootstrap : goal.returns-clause-bootstrap
returns-clause-bootstrap g c = bootstraps_are_tracked g.D.Disk.state g.met.D.Disk.lawful c.args.members.now
