-- What a borrow from a cache leaves.
use Rattle.std.specs.Prelude.{◌≡◌, ⊤}
use Rattle.std.specs.Borrow.{Fml, MutBor, follows_so}
use mathlib.Core.Option.{none}
use Rattle.block_cache.specs.Blocks.{Blocks}
use Rattle.block_cache.specs.contracts.cache.Cache.{the_row}

-- the cache is this one once the borrow is over
abbrev pub Leaves : MutBor Blocks → Blocks → Fml
Leaves cache later = follows_so the_row the_row cache.ghost_name none (λ _ _. ⊤) (λ n. n ≡ later)
