use Rattle.shard_open.proofs.OnceLemmas.{once_ok}
use Rattle.shard_open.proofs.once.each_once.Goals as goal

pub returns : goal.returns
returns c = once_ok c.in_order.result c.in_ok-found.found.keys c.args.points c.in_ok-found.ensures c.in_order.ensures.all c.in_order.ensures.ascending
