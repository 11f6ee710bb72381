use Rattle.std.proofs.Common.{ℕ, List, subst}
use Rattle.m3_model.specs.Members.{IsIn}
use Rattle.placement_core.specs.Shards.{shard_at}
use Rattle.peer_boot.proofs.JoinLemmas.{former_there}
use Rattle.peer_boot.proofs.joins.join_shard.Goals as goal

pub join_from-requires-clause-there : goal.join_from-requires-clause-there
join_from-requires-clause-there g c =
    λ n m. c.requires.there n (former_there (shard_at c.args.place.now c.args.shard) c.args.asking.peers c.requires.asks.same n (subst (λ (l : List ℕ). IsIn l n) c.as_slice.ensures m))
