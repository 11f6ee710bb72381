use Rattle.line_tracks.proofs.acts.InitLemmas.{first_tells}
use Rattle.line_tracks.proofs.acts.InitStands.{first_stands}
use Rattle.line_tracks.proofs.inits.first_tells.Goals as goal

pub returns-clause-tells : goal.returns-clause-tells
returns-clause-tells g c = first_tells g.D.Disk.state g.met.D.Disk.lawful c.args.members.now

pub returns-clause-stands : goal.returns-clause-stands
returns-clause-stands g c = first_stands g.D.Disk.state c.args.members.now
