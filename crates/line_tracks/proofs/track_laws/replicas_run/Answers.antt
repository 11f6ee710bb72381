use Rattle.line_tracks.proofs.tracks.DamageLemmas.{run_finds_no_damage}
use Rattle.line_tracks.proofs.tracks.OpenLemmas.{run_opens_as_left, run_opens_empty}
use Rattle.line_tracks.proofs.tracks.RunLemmas.{run_goes_on, run_is_counted}
use Rattle.line_tracks.proofs.track_laws.replicas_run.Goals as goal

pub returns-clause-goes_on : goal.returns-clause-goes_on
returns-clause-goes_on g c = run_goes_on g.D.Disk.state c.args.replicas.now

pub returns-clause-counted : goal.returns-clause-counted
returns-clause-counted g c = run_is_counted g.D.Disk.state c.args.replicas.now

pub returns-clause-opens_empty : goal.returns-clause-opens_empty
returns-clause-opens_empty g c = run_opens_empty g.D.Disk.state c.args.replicas.now

pub returns-clause-opens_as_left : goal.returns-clause-opens_as_left
returns-clause-opens_as_left g c = run_opens_as_left g.D.Disk.state g.met.D.Disk.lawful c.args.replicas.now

pub returns-clause-no_damage : goal.returns-clause-no_damage
returns-clause-no_damage g c = run_finds_no_damage g.D.Disk.state g.met.D.Disk.lawful c.args.replicas.now
