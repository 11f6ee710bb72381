use Rattle.std.proofs.Common.{None, cond, ap, ◌∙◌}
use Rattle.std.specs.Map.{lookup}
use Rattle.std.proofs.lemmas.Map.{lookup-remove_entry}
use Rattle.lru.specs.LruCache.{lru_cache}
use Rattle.lru.proofs.CallerLemmas.{lookup-put_entries}
use Rattle.block_cache.specs.Blocks.{same_block}
use Rattle.block_cache.proofs.BlockLemmas.{same_true, same_equiv}
use Rattle.block_cache.proofs.laws.put_is_found.Goals as goal

pub returns-clause-put : goal.returns-clause-put
returns-clause-put c key rows b = lookup-put_entries same_block (lru_cache b.held b.most) key rows same_equiv

pub returns-clause-forgotten : goal.returns-clause-forgotten
returns-clause-forgotten c key b once =
    lookup-remove_entry same_equiv (same_block key) (λ x y t. ap (λ k. same_block k y) (same_true key x t)) key b.held once ∙ ap (λ t. cond t None (lookup (same_block key) b.held)) (same_equiv.refl key)
