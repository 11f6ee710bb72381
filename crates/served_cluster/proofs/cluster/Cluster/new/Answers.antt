use Rattle.std.proofs.Common.{refl}
use Rattle.std.specs.Prelude.{None}
use Rattle.line_tracks.proofs.tracks.StepLemmas.{tracks_at_first}
use Rattle.served_cluster.proofs.cluster.Cluster.new.Goals as goal

pub returns-clause-tracks : goal.returns-clause-tracks
returns-clause-tracks g c = λ tells past first tell lain. tracks_at_first g.D.Disk.state None tells past None first c.new.result refl refl c.new.ensures tell lain
