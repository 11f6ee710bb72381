-- A small placement: one shard steady, and one moving from the first node to the third.
use Rattle.std.specs.Prelude.{ℕ, [], ◌∷◌, Some, None, true, false}
use Rattle.m3_model.specs.declared.placement.ShardState.TheVariants.{Initializing, Available, Leaving}
use Rattle.m3_model.specs.declared.placement.Assignment.{Assignment}
use Rattle.m3_model.specs.declared.placement.Instance.{Instance}
use Rattle.m3_model.specs.declared.placement.Placement.{Placement}
use Rattle.placement_core.specs.Shards.{Shard}

-- a listed node alone in its group, named by one letter
abbrev pub example_node : ℕ → Instance
example_node letter = record { name = letter ∷ []; group = letter ∷ []; listed = true; drained = false }

abbrev pub available_at : ℕ → Assignment
available_at node = record { node = node; tenure = 1; state = Available; source = None }

abbrev pub steady_example : Shard
steady_example = available_at 0 ∷ available_at 1 ∷ []

abbrev pub moving_example : Shard
moving_example = record { node = 0; tenure = 1; state = Leaving; source = None } ∷ available_at 1 ∷ record { node = 2; tenure = 2; state = Initializing; source = Some 0 } ∷ []

abbrev pub example : Placement
example = record { version = 2; rf = 2; instances = example_node 97 ∷ example_node 98 ∷ example_node 99 ∷ []; shards = steady_example ∷ moving_example ∷ [] }
