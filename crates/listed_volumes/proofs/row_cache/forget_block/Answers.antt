use Rattle.std.proofs.Common.{◌≡◌, None, sym, subst}
use Rattle.block_cache.specs.Blocks.{Blocks, rows_of}
use Rattle.listed_volumes.proofs.CachedLemmas.{forgot_gone}
use Rattle.listed_volumes.proofs.row_cache.forget_block.Goals as goal

pub returns-then-len-gt0-clause-gone : goal.returns-then-len-gt0-clause-gone
returns-then-len-gt0-clause-gone c = subst (λ (b : Blocks). rows_of c.args.key b ≡ None) (sym c.forget.ensures) (forgot_gone c.args.key c.args.cache.now c.len.ensures.once)
