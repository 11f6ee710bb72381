use Rattle.node_calls.proofs.RunLemmas.{stop_done}
use Rattle.node_calls.proofs.halts.stop_one.Goals as goal

pub returns : goal.returns
returns g c = stop_done g.D.Disk.state c.args.slot c.stop.result c.args.replicas.now c.stop.new.self c.requires.there c.requires.room c.stop.ensures c.in-Ok.field-0 c.in-Ok.is
