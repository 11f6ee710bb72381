use Rattle.std.proofs.Common.{◌-◌, ℕ, Option, List, ◌∷◌, take, sym, ap, ◌∙◌}
use Rattle.std.specs.Map.{remove_entry}
use Rattle.std.specs.Option.{option_map_or}
use Rattle.m3_model.specs.declared.point.Series.{Series}
use Rattle.block_cache.specs.Blocks.{BlockKey, same_block}
use Rattle.block_cache.proofs.BlockLemmas.{none_there}
use Rattle.block_cache.proofs.laws.last_goes.Goals as goal

pub returns : goal.returns
returns c key rows b none full =
    ap (λ (o : Option (BlockKey × List Series)). option_map_or (λ e. (e.0, rows) ∷ remove_entry (same_block key) b.held) o ((key, rows) ∷ take (b.most - 1) b.held)) (none_there (same_block key) b.held none)
    ∙ ap (λ (n : ℕ). (key, rows) ∷ take (n - 1) b.held) (sym full)
