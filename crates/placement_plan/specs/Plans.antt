-- The placement that each request leads to.
use Rattle.std.specs.Prelude.{◌≡◌, ◌⊎◌, ℕ, suc, ◌<◌, List, ◌++◌, length, take, drop, Some, true, false, MatchOption, slice_get, slice_set}
use Rattle.placement_core.specs.m3_model.Members.{IsIn}
use Rattle.placement_core.specs.NodeNames.{is_listed}
use Rattle.placement_core.specs.m3_model.declared.placement.Instance.{Instance}
use Rattle.placement_core.specs.m3_model.declared.placement.Assignment.{Assignment}
use Rattle.placement_core.specs.m3_model.declared.placement.Placement.{Placement}
use Rattle.placement_core.specs.m3_model.declared.limits.TheConstants.{MOST_NODES, NUMBER_END}
use Rattle.placement_core.specs.Shards.{Shard, is_steady}
use Rattle.placement_core.specs.Lawful.{IsJoiningFrom}
use Rattle.placement_core.specs.Steps.{IsCancelOf, Ends, done_at}
use Rattle.placement_plan.specs.Nodes.{ListsNode, IsNewName, Has, load, CanHave, Joins}
use Rattle.isolation_groups.specs.Groups.{IsFree}
use Rattle.placement_plan.specs.Choices.{MayTake, IsLeastLoaded, moved}

-- as many elements, each of which is made of the one at its position
pub record MakesAll {X : Type 0} (Made : ℕ → X → X → Type 0) (old next : List X) : Type 0 where
  pub count : length next ≡ length old
  pub each : (k : ℕ) (a b : X) → slice_get old k ≡ Some a → slice_get next k ≡ Some b → Made k a b

-- the next placement has the next version, which is below 2^62, the same `rf`, and of each shard what is made of it
pub record Follows (old next : Placement) (Made : ℕ → Shard → Shard → Type 0) : Type 0 where
  pub version : next.version ≡ suc old.version
  pub version_fits : next.version < NUMBER_END
  pub rf : next.rf ≡ old.rf
  pub shards : MakesAll Made old.shards next.shards

-- ---- moves that end

-- the shard's move to the node that the list names for it ends; where it names none the shard stays
abbrev pub EndsAsNamed : List (ℕ × ℕ) → ℕ → Shard → Shard → Type 0
EndsAsNamed done s a b = MatchOption (done_at s done) (b ≡ a) (λ to. Ends a b to)

-- the named joining nodes turn Available, and their sources' assignments go
pub record IsAvailable (old : Placement) (done : List (ℕ × ℕ)) (next : Placement) : Type 0 where
  pub follows : Follows old next (EndsAsNamed done)
  pub instances : next.instances ≡ old.instances

-- the node is joining the shard, in the place of the source
abbrev pub JoinsFrom : ℕ → ℕ → Shard → Type 0
JoinsFrom node from shard = (a : Assignment) × IsIn shard a × (a.node ≡ node) × IsJoiningFrom from a

-- the node is joining the shard
abbrev pub IsJoining : ℕ → Shard → Type 0
IsJoining node shard = (from : ℕ) × JoinsFrom node from shard

-- the pair names a shard and a node that is joining it
pub record IsJoiningPair (shards : List Shard) (d : ℕ × ℕ) : Type 0 where
  pub shard : Shard
  pub stands : slice_get shards d.0 ≡ Some shard
  pub joins : IsJoining d.1 shard

-- each pair does
abbrev pub AreJoining : List Shard → List (ℕ × ℕ) → Type 0
AreJoining shards done = (d : ℕ × ℕ) → IsIn done d → IsJoiningPair shards d

-- where the node is joining the shard its move is cancelled, else the shard stays
abbrev pub CancelsJoining : ℕ → Shard → Shard → Type 0
CancelsJoining node a b = (IsJoining node a × ((joining : Assignment) × IsIn a joining × (joining.node ≡ node) × IsCancelOf a b joining)) ⊎ ((¬ IsJoining node a) × (b ≡ a))

-- a node that is freed isn't drained any more; all else of it, and all others, are as before
abbrev pub IsFreed : (ℕ → Type 0) → ℕ → Instance → Instance → Type 0
IsFreed Freed n a b = (Freed n × (b ≡ record a { drained = false })) ⊎ ((¬ Freed n) × (b ≡ a))

-- the node is joining a shard in the place of this one
abbrev pub GivesTo : List Shard → ℕ → ℕ → Type 0
GivesTo shards node from = (shard : Shard) × IsIn shards shard × JoinsFrom node from shard

-- the moves to the node are cancelled, and their sources aren't drained any more
pub record IsCancel (old : Placement) (name : List ℕ) (next : Placement) : Type 0 where
  pub node : ℕ
  pub lists : ListsNode old.instances name node
  pub follows : Follows old next (λ s. CancelsJoining node)
  pub instances : MakesAll (IsFreed (GivesTo old.shards node)) old.instances next.instances

-- ---- nodes that go

-- the node, which has no shard, isn't listed any more
pub record IsRemoval (old : Placement) (name : List ℕ) (next : Placement) : Type 0 where
  pub node : ℕ
  pub lists : ListsNode old.instances name node
  pub idle : (shard : Shard) → IsIn old.shards shard → ¬ Has node shard
  pub follows : Follows old next (λ s a b. b ≡ a)
  pub instances : next.instances ≡ slice_set old.instances node (record (lists.instance) { listed = false })

-- no move of a shard goes on that the node has
abbrev pub IsReady : List Shard → ℕ → Type 0
IsReady shards node = (shard : Shard) → IsIn shards shard → Has node shard → is_steady shard ≡ true

-- the shard, where the node has it, moves to the least loaded node that may take it
abbrev pub MovesBy : List Instance → (ℕ → ℕ) → ℕ → ℕ → Shard → Shard → Type 0
MovesBy instances load_at version node a b =
    ((¬ Has node a) × (b ≡ a)) ⊎ (Has node a × ((to : ℕ) × IsLeastLoaded instances load_at (MayTake instances a node) to × (b ≡ moved version node to a)))

-- the same where the loads are those after the moves of all lower shards
abbrev pub MovesAway : List Instance → List Shard → List Shard → ℕ → ℕ → ℕ → Shard → Shard → Type 0
MovesAway instances old next version node s a b = MovesBy instances (λ n. load n (take s next ++ drop s old)) version node a b

-- all shards of the node move away, and it is drained
pub record IsDrain (old : Placement) (name : List ℕ) (next : Placement) : Type 0 where
  pub node : ℕ
  pub lists : ListsNode old.instances name node
  pub ready : IsReady old.shards node
  pub follows : Follows old next (MovesAway old.instances old.shards next.shards next.version node)
  pub instances : next.instances ≡ slice_set old.instances node (record (lists.instance) { drained = true })

-- ---- nodes that come

-- the name is known, or one more may be
abbrev pub HasRoom : List Instance → List ℕ → Type 0
HasRoom instances name = IsNewName instances name → length instances < MOST_NODES

-- a shard that the node has moves to the other one
abbrev pub MovesShardTo : ℕ → ℕ → ℕ → Shard → Shard → Type 0
MovesShardTo version node to a b = ((¬ Has node a) × (b ≡ a)) ⊎ (Has node a × (b ≡ moved version node to a))

-- the node, by its number, can be replaced by the one that has or gets the other number
pub record MayReplace (place : Placement) (name by group : List ℕ) (node to : ℕ) : Type 0 where
  pub is_new : is_listed by place ≡ false
  pub lists : ListsNode place.instances name node
  pub can : CanHave place.instances by to
  pub room : HasRoom place.instances by
  pub ready : IsReady place.shards node
  pub free : (shard : Shard) → IsIn place.shards shard → Has node shard → IsFree place.instances shard node group

-- all shards of the node move to one that is listed for it, and the node is drained
pub record IsReplacement (old : Placement) (name by group : List ℕ) (next : Placement) : Type 0 where
  pub node : ℕ
  pub to : ℕ
  pub may : MayReplace old name by group node to
  pub joined : List Instance
  pub joins : Joins old.instances by group joined to
  pub follows : Follows old next (λ s. MovesShardTo next.version node to)
  pub instances : next.instances ≡ slice_set joined node (record ((may.lists).instance) { drained = true })
