use Rattle.node_calls.proofs.RowLemmas.{row_by_number}
use Rattle.node_calls.proofs.nodes.set_fates.Goals as goal

pub new-requires : goal.new-requires
new-requires g c = row_by_number c.as_slice.result.now c.args.list c.in-Ok.numbered c.in-Ok.ensures c.requires
