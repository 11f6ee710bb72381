use Rattle.line_tracks.proofs.tracks.InitLemmas.{inits_are_tracked as it, orders_are_tracked}
use Rattle.line_tracks.proofs.lines.inits_are_tracked.Goals as goal

pub returns-clause-order : goal.returns-clause-order
returns-clause-order g c = orders_are_tracked g.D.Disk.state c.args.members.now

pub returns-clause-init : goal.returns-clause-init
returns-clause-init g c = it g.D.Disk.state g.met.D.Disk.lawful c.args.members.now
