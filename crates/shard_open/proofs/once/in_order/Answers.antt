use Rattle.std.proofs.Common.{◌≡◌, sym, subst, rules}
use Rattle.std.specs.Prelude.{map}
use Rattle.m3_model.specs.Ascends.{Ascends}
use Rattle.held_points.proofs.ListLemmas.{sorted_ascends}
use Rattle.snapshot_files.specs.shard_files.Once.{IsBefore}
use Rattle.shard_open.specs.Ranks.{rank_cmp, unranked}
use Rattle.shard_open.proofs.OnceLemmas.{unranked_ascend}
use Rattle.shard_open.proofs.once.in_order.Goals as goal

pub returns-clause-ascending : goal.returns-clause-ascending
returns-clause-ascending c =
    let all : c.from_vec.result ≡ map unranked c.args.points.keys = search rules in
    subst (Ascends IsBefore) (sym all) (unranked_ascend c.args.points.keys (sorted_ascends rank_cmp c.args.points.keys c.into_iter.ensures.into_iter_gives.4))
