-- What is so of the rows that a cache answers.
use Rattle.std.specs.Prelude.{◌≡◌, ◌-◌, List, ◌∷◌, length, take, Some, None, All, ◌⊎◌, Bool, true, false}
use Rattle.std.specs.List.{IsDistinct}
use Rattle.std.specs.Map.{keys_of}
use Rattle.m3_model.specs.declared.point.Series.{Series}
use Rattle.block_cache.specs.Blocks.{Blocks, BlockKey, same_block, rows_of, after_get, after_put, after_forget}

-- rows are found by the block that they were put for
abbrev pub PutIsFound : Type 0
PutIsFound = (key : BlockKey) (rows : List Series) (b : Blocks) → rows_of key (after_put key rows b) ≡ Some rows

-- of another block the rows are those from before, or none
abbrev pub OthersStay : Type 0
OthersStay =
    (key other : BlockKey) (rows : List Series) (b : Blocks) → same_block other key ≡ false
    → (rows_of other (after_get key b) ≡ rows_of other b) × (rows_of other (after_forget key b) ≡ rows_of other b)
    × ((rows_of other (after_put key rows b) ≡ rows_of other b) ⊎ (rows_of other (after_put key rows b) ≡ None))

-- a block that was forgotten isn't found; each block stands in a cache once
abbrev pub ForgottenIsGone : Type 0
ForgottenIsGone = (key : BlockKey) (b : Blocks) → IsDistinct same_block (keys_of b.held) → rows_of key (after_forget key b) ≡ None

-- what a test says of each block with its rows it says after each call, where it says it of what is put
abbrev pub OnlyWhatWasPut : Type 0
OnlyWhatWasPut =
    (p : BlockKey × List Series → Bool) (key : BlockKey) (rows : List Series) (b : Blocks) → All (λ e. p e ≡ true) b.held
    → All (λ e. p e ≡ true) (after_get key b).held × All (λ e. p e ≡ true) (after_forget key b).held × (p (key, rows) ≡ true → All (λ e. p e ≡ true) (after_put key rows b).held)

-- where it is full, the block that goes for a further one is the last
abbrev pub LastGoes : Type 0
LastGoes =
    (key : BlockKey) (rows : List Series) (b : Blocks) → rows_of key b ≡ None → length b.held ≡ b.most → (after_put key rows b).held ≡ (key, rows) ∷ take (length b.held - 1) b.held
