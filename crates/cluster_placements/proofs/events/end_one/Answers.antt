use Rattle.cluster_placements.proofs.PlacedLemmas.{end_done}
use Rattle.cluster_placements.proofs.events.end_one.Goals as goal

pub returns : goal.returns
returns g c = end_done g.D.Disk.state c.args.slot c.end.result c.args.replicas.now c.end.new.self c.requires.there c.requires.room c.end.ensures c.in-Ok.field-0 c.in-Ok.is
