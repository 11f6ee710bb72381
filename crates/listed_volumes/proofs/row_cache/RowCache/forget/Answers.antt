use Rattle.std.proofs.Common.{◌∙◌, ap, sym}
use Rattle.block_cache.specs.Blocks.{BlockKey, after_forget, rows_of}
use Rattle.listed_volumes.specs.Cached.{blocks_in}
use Rattle.listed_volumes.proofs.CachedLemmas.{forgot_one, order_forgot}
use Rattle.listed_volumes.proofs.row_cache.RowCache.forget.Goals as goal

pub invariant_of-self : goal.invariant_of-self
invariant_of-self c = order_forgot c.cache_key.result (blocks_in c.self.inside.blocks) (blocks_in c.forget_in.new.blocks) c.forget_in.ensures.same c.forget_in.ensures.gone c.self.invariant

pub returns : goal.returns
returns c =
    forgot_one c.args.head.now c.args.self.now (blocks_in c.forget_in.new.blocks) (c.forget_in.ensures.same ∙ (λ i. after_forget (c.cache_key.ensures i) (c.self.view_is i)))
    (ap (λ (k : BlockKey). rows_of k (blocks_in c.forget_in.new.blocks)) (sym c.cache_key.ensures) ∙ c.forget_in.ensures.gone)
