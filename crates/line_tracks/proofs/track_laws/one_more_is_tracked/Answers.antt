use Rattle.line_tracks.proofs.tracks.StepLemmas.{clock_on, init_on, plain_on, read_on, tracks_at_first, write_on}
use Rattle.line_tracks.proofs.track_laws.one_more_is_tracked.Goals as goal
use Rattle.line_tracks.proofs.tracks.AfreshLemmas.{tracks_afresh}

pub returns-clause-first : goal.returns-clause-first
returns-clause-first g c = tracks_at_first g.D.Disk.state c.args.members.now

pub returns-clause-afresh : goal.returns-clause-afresh
returns-clause-afresh g c = tracks_afresh g.D.Disk.state c.args.members.now

pub returns-clause-plain : goal.returns-clause-plain
returns-clause-plain g c = plain_on g.D.Disk.state c.args.members.now

pub returns-clause-clock : goal.returns-clause-clock
returns-clause-clock g c = clock_on g.D.Disk.state c.args.members.now

pub returns-clause-init : goal.returns-clause-init
returns-clause-init g c = init_on g.D.Disk.state c.args.members.now

pub returns-clause-write : goal.returns-clause-write
returns-clause-write g c = write_on g.D.Disk.state c.args.members.now

pub returns-clause-read : goal.returns-clause-read
returns-clause-read g c = read_on g.D.Disk.state c.args.members.now
