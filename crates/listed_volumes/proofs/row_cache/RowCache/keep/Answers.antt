use Rattle.listed_volumes.specs.Cached.{blocks_in}
use Rattle.listed_volumes.proofs.CachedLemmas.{order_kept}
use Rattle.listed_volumes.proofs.row_cache.RowCache.keep.Goals as goal

pub invariant_of-self : goal.invariant_of-self
invariant_of-self c = order_kept c.cache_key.result c.args.rows (blocks_in c.self.inside.blocks) (blocks_in c.keep_in.new.blocks) c.keep_in.ensures c.requires c.self.invariant
