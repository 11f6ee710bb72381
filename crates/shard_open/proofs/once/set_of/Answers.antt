use Rattle.shard_open.proofs.OnceLemmas.{one_more}
use Rattle.shard_open.proofs.once.set_of.Goals as goal

pub loop-point-preserved : goal.loop-point-preserved
loop-point-preserved c = one_more c.loop-point.found.keys c.add_point.new.points.keys c.loop-point.yielded c.in-Some.point c.in_ok-add_point.ensures c.loop-point.invariant
