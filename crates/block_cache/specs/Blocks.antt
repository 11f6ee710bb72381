-- Blocks with their rows, the one used last first.
use Rattle.std.specs.Prelude.{ℕ, ◌-◌, ◌==◌, ◌&&◌, Bool, List, [], ◌∷◌, take, Option}
use Rattle.std.specs.Map.{lookup, lookup_entry, remove_entry}
use Rattle.std.specs.Option.{option_map_or}
use Rattle.m3_model.specs.declared.point.Series.{Series}

-- a block by its namespace, its start and the number of the volume that it is read from
abbrev pub BlockKey : Type 0
BlockKey = ℕ × ℕ × ℕ

-- the blocks held, and how many there may be
pub record Blocks : Type 0 where
  pub held : List (BlockKey × List Series)
  pub most : ℕ

-- whether two blocks are one
abbrev pub same_block : BlockKey → BlockKey → Bool
same_block a b = (a.0 == b.0 && a.1 == b.1) && a.2 == b.2

-- none are held
abbrev pub no_blocks : ℕ → Blocks
no_blocks most = record { held = []; most = most }

-- the rows of a block, where it is held
abbrev pub rows_of : BlockKey → Blocks → Option (List Series)
rows_of key b = lookup (same_block key) b.held

-- the block goes first, where it is held
abbrev pub after_get : BlockKey → Blocks → Blocks
after_get key b = record b { held = option_map_or (λ e. e ∷ remove_entry (same_block key) b.held) (lookup_entry (same_block key) b.held) b.held }

-- the block goes first with these rows; where it wasn't held and it is full, the last block goes
abbrev pub after_put : BlockKey → List Series → Blocks → Blocks
after_put key rows b =
    record b { held = option_map_or (λ e. (e.0, rows) ∷ remove_entry (same_block key) b.held) (lookup_entry (same_block key) b.held) ((key, rows) ∷ take (b.most - 1) b.held) }

-- the block isn't held
abbrev pub after_forget : BlockKey → Blocks → Blocks
after_forget key b = record b { held = remove_entry (same_block key) b.held }
