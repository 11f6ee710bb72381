use Rattle.std.proofs.Common.{◌-◌, refl}
use Rattle.std.specs.Map.{lookup_entry}
use Rattle.block_cache.specs.Blocks.{same_block}
use Rattle.block_cache.proofs.BlockLemmas.{lookup_without, lookup_first, lookup_put}
use Rattle.block_cache.proofs.laws.others_stay.Goals as goal

pub returns : goal.returns
returns c key other rows b apart = (
  lookup_first key other b.held (lookup_entry (same_block key) b.held) refl apart,
  lookup_without key other b.held apart,
  lookup_put key other rows (b.most - 1) b.held (lookup_entry (same_block key) b.held) refl apart,
)
