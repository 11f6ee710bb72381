use Rattle.line_tracks.proofs.placements.StandLemmas.{changes_stand, comes_next}
use Rattle.line_tracks.proofs.placement_laws.changes_stand.Goals as goal

pub returns-clause-next : goal.returns-clause-next
returns-clause-next g c = comes_next c.args.members.now

pub returns-clause-stands : goal.returns-clause-stands
returns-clause-stands g c = changes_stand g.D.Disk.state c.args.members.now
