-- Isolation groups of nodes, and whether a shard leaves one free.
use Rattle.std.specs.Prelude.{◌≢◌, ℕ, List, [], slice_get}
use Rattle.std.specs.Option.{option_map_or}
use Rattle.placement_core.specs.m3_model.Members.{IsIn}
use Rattle.placement_core.specs.m3_model.declared.placement.Assignment.{Assignment}
use Rattle.placement_core.specs.m3_model.declared.placement.Instance.{Instance}
use Rattle.placement_core.specs.Shards.{Shard}

-- the isolation group of the node, empty where there is none
abbrev pub group_of : List Instance → ℕ → List ℕ
group_of instances node = option_map_or (λ instance. instance.group) (slice_get instances node) []

-- no other replica of the shard than that of the source is in the group
abbrev pub IsFree : List Instance → Shard → ℕ → List ℕ → Type 0
IsFree instances shard from group = (a : Assignment) → IsIn shard a → a.node ≢ from → group_of instances a.node ≢ group
