-- Which placement may follow another; M3DB's page "Placement".
use Rattle.std.specs.Prelude.{◌≡◌, ◌⊎◌, ℕ, suc, ◌<◌, List, [], ◌∷◌, ◌++◌, map, filter, length, Option, Some, None, not, if◌then◌else◌, nat_eq, slice_get}
use Rattle.m3_model.specs.Ascends.{Ascends}
use Rattle.m3_model.specs.Members.{IsIn}
use Rattle.m3_model.specs.declared.placement.ShardState.{ShardState}
use Rattle.m3_model.specs.declared.placement.ShardState.TheVariants.{Available, Leaving}
use Rattle.m3_model.specs.declared.placement.Assignment.{Assignment}
use Rattle.m3_model.specs.declared.placement.Instance.{Instance}
use Rattle.m3_model.specs.declared.placement.Placement.{Placement}
use Rattle.placement_core.specs.Shards.{Shard, nodes_of}
use Rattle.placement_core.specs.Lawful.{IsSteady, IsJoiningFrom}

-- the assignment in the state, where it is the node's; it names no source then
abbrev pub turned : ℕ → ShardState → Assignment → Assignment
turned node state a = if nat_eq a.node node then record a { state = state; source = None } else a

-- the shard without the node
abbrev pub without : ℕ → Shard → Shard
without node shard = filter (λ a. not (nat_eq a.node node)) shard

-- a move is over: one node goes, and another is Available
abbrev pub settled : ℕ → ℕ → Shard → Shard
settled gone stays shard = map (turned stays Available) (without gone shard)

-- a steady shard begins a move: a replica turns Leaving, and one at a node without the shard, at the new version, comes last
pub record Begins (version : ℕ) (old next : Shard) : Type 0 where
  pub from : ℕ
  pub joining : Assignment
  pub joins : IsJoiningFrom from joining
  pub tenure : joining.tenure ≡ version
  pub steady : IsSteady old
  pub has : IsIn (nodes_of old) from
  pub free : ¬ IsIn (nodes_of old) joining.node
  pub next_is : next ≡ map (turned from Leaving) old ++ joining ∷ []

-- this joining assignment goes, and its source is Available again
pub record IsCancelOf (old next : Shard) (joining : Assignment) : Type 0 where
  pub from : ℕ
  pub joins : IsJoiningFrom from joining
  pub next_is : next ≡ settled joining.node from old

-- a move of the shard is cancelled
abbrev pub Cancels : Shard → Shard → Type 0
Cancels old next = (joining : Assignment) × IsIn old joining × IsCancelOf old next joining

-- this joining assignment of the node turns Available, and its source goes
pub record IsEndOf (old next : Shard) (to : ℕ) (joining : Assignment) : Type 0 where
  pub node : joining.node ≡ to
  pub from : ℕ
  pub joins : IsJoiningFrom from joining
  pub next_is : next ≡ settled from to old

-- the move of the shard to the node ends
abbrev pub Ends : Shard → Shard → ℕ → Type 0
Ends old next to = (joining : Assignment) × IsIn old joining × IsEndOf old next to joining

-- the shard is as before, begins a move or has it cancelled; where a joining node is named, its move ends
abbrev pub IsShardStep : ℕ → Shard → Shard → Option ℕ → Type 0
IsShardStep version old next None = (next ≡ old) ⊎ (Begins version old next ⊎ Cancels old next)
IsShardStep version old next (Some to) = Ends old next to

-- the node that a done list names for the shard
abbrev pub done_at : ℕ → List (ℕ × ℕ) → Option ℕ
done_at shard [] = None
done_at shard (d ∷ ds) = if nat_eq d.0 shard then Some d.1 else done_at shard ds

-- pairs of a shard and a node, ascending by shard
pub record IsDoneList (shards : ℕ) (done : List (ℕ × ℕ)) : Type 0 where
  pub ascending : Ascends (λ d e. d.0 < e.0) done
  pub within : (d : ℕ × ℕ) → IsIn done d → d.0 < shards

-- each earlier node keeps its position and its name
abbrev pub KeepsNames : List Instance → List Instance → Type 0
KeepsNames old next = (position : ℕ) (was : Instance) → slice_get old position ≡ Some was → (is : Instance) × (slice_get next position ≡ Some is) × (is.name ≡ was.name)

-- the next placement is a step from the old one, and the done list has the moves that it ends
pub record IsStep (old next : Placement) (done : List (ℕ × ℕ)) : Type 0 where
  pub version : next.version ≡ suc old.version
  pub rf : next.rf ≡ old.rf
  pub names : KeepsNames old.instances next.instances
  pub count : length next.shards ≡ length old.shards
  pub listed : IsDoneList (length old.shards) done
  pub each : (s : ℕ) (a b : Shard) → slice_get old.shards s ≡ Some a → slice_get next.shards s ≡ Some b → IsShardStep next.version a b (done_at s done)
