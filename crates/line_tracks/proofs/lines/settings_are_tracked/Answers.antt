use Rattle.line_tracks.proofs.tracks.DeliveryLemmas.{deliveries_are_tracked}
use Rattle.line_tracks.proofs.tracks.SettingLemmas.{fates_are_tracked, moments_are_tracked, namespaces_are_tracked}
use Rattle.line_tracks.proofs.lines.settings_are_tracked.Goals as goal

pub returns-clause-namespace : goal.returns-clause-namespace
returns-clause-namespace g c = namespaces_are_tracked g.D.Disk.state g.met.D.Disk.lawful c.args.members.now

pub returns-clause-moment : goal.returns-clause-moment
returns-clause-moment g c = moments_are_tracked g.D.Disk.state g.met.D.Disk.lawful c.args.members.now

pub returns-clause-fates : goal.returns-clause-fates
returns-clause-fates g c = fates_are_tracked g.D.Disk.state g.met.D.Disk.lawful c.args.members.now

pub returns-clause-delivery : goal.returns-clause-delivery
returns-clause-delivery g c = deliveries_are_tracked g.D.Disk.state g.met.D.Disk.lawful c.args.members.now
