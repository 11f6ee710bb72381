-- Which node takes a shard.
use Rattle.std.specs.Prelude.{◌≡◌, ℕ, List, [], ◌++◌, ◌∷◌, map, Some, true, false, slice_get}
use Rattle.std.specs.Ordering.{nat_cmp, is_gt, on, then_cmp}
use Rattle.std.specs.Cmp.Lexicographic.{slice_cmp}
use Rattle.std.specs.declared.cmp.Ordering.{Ordering}
use Rattle.placement_core.specs.m3_model.declared.placement.ShardState.TheVariants.{Initializing, Leaving}
use Rattle.placement_core.specs.m3_model.declared.placement.Instance.{Instance}
use Rattle.placement_core.specs.Shards.{Shard}
use Rattle.placement_core.specs.NodeNames.{name_of}
use Rattle.placement_core.specs.Steps.{turned}
use Rattle.isolation_groups.specs.Groups.{IsFree}
use Rattle.placement_plan.specs.Nodes.{Has}

-- the node may take the shard from the source: it is listed and not drained, doesn't have the shard, and its group is free
pub record MayTake (instances : List Instance) (shard : Shard) (from node : ℕ) : Type 0 where
  pub instance : Instance
  pub stands : slice_get instances node ≡ Some instance
  pub listed : instance.listed ≡ true
  pub serves : instance.drained ≡ false
  pub lacks : ¬ Has node shard
  pub free : IsFree instances shard from instance.group

-- nodes in the order in which they are taken: by load, then by name
abbrev pub taking_cmp : List Instance → (ℕ → ℕ) → ℕ → ℕ → Ordering
taking_cmp instances load_at = then_cmp (on load_at nat_cmp) (on (name_of instances) (slice_cmp nat_cmp))

-- of the nodes that may, this one has the least load, and of those with that load the smallest name
pub record IsLeastLoaded (instances : List Instance) (load_at : ℕ → ℕ) (May : ℕ → Type 0) (node : ℕ) : Type 0 where
  pub may : May node
  pub least : (other : ℕ) → May other → is_gt (taking_cmp instances load_at node other) ≡ false

-- the shard where a move from one node to another has begun
abbrev pub moved : ℕ → ℕ → ℕ → Shard → Shard
moved version from to shard = map (turned from Leaving) shard ++ record { node = to; tenure = version; state = Initializing; source = Some from } ∷ []
