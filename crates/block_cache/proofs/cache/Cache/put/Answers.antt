use Rattle.std.proofs.Common.{IsSome, subst, sym}
use Rattle.block_cache.specs.Blocks.{Blocks, rows_of}
use Rattle.block_cache.proofs.cache.Cache.put.Goals as goal

pub returns-clause-succeeds : goal.returns-clause-succeeds
returns-clause-succeeds c h = c.in-Err.ensures.succeeds (subst (λ (b : Blocks). IsSome (rows_of c.args.key b)) (sym c.self.view_is) h)
