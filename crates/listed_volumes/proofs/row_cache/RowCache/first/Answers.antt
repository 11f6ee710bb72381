use Rattle.std.proofs.Common.{sym, subst}
use Rattle.listed_volumes.specs.Cached.{AreInOrder, blocks_in}
use Rattle.listed_volumes.proofs.CachedLemmas.{order_got}
use Rattle.listed_volumes.proofs.row_cache.RowCache.first.Goals as goal

pub invariant_of-self : goal.invariant_of-self
invariant_of-self c = subst AreInOrder (sym c.first_in.ensures.used) (order_got c.cache_key.result (blocks_in c.self.inside.blocks) c.self.invariant)
