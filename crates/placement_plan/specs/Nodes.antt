-- Nodes by name, and what they have.
use Rattle.std.specs.Prelude.{◌≡◌, ◌≢◌, ◌⊎◌, ℕ, ◌<◌, List, [], ◌∷◌, ◌++◌, length, Bool, true, false, ◌&&◌, nat_eq, Some, slice_get, slice_set, count_by}
use Rattle.std.specs.List.{list_any}
use Rattle.placement_core.specs.m3_model.Members.{IsIn}
use Rattle.placement_core.specs.m3_model.declared.placement.Instance.{Instance}
use Rattle.placement_core.specs.Shards.{Shard, is_staying, nodes_of}

-- the node of this number has this name
pub record IsNodeNamed (instances : List Instance) (name : List ℕ) (node : ℕ) : Type 0 where
  pub instance : Instance
  pub stands : slice_get instances node ≡ Some instance
  pub named : instance.name ≡ name

-- and it is listed
pub record ListsNode (instances : List Instance) (name : List ℕ) (node : ℕ) : Type 0 where
  pub instance : Instance
  pub stands : slice_get instances node ≡ Some instance
  pub named : instance.name ≡ name
  pub listed : instance.listed ≡ true

-- no node ever had this name
abbrev pub IsNewName : List Instance → List ℕ → Type 0
IsNewName instances name = (i : Instance) → IsIn instances i → i.name ≢ name

-- the node has an assignment of the shard
abbrev pub Has : ℕ → Shard → Type 0
Has node shard = IsIn (nodes_of shard) node

-- the node is to go on serving the shard: it is Available or Initializing there
abbrev pub serves : ℕ → Shard → Bool
serves node shard = list_any (λ a. nat_eq a.node node && is_staying a) shard

-- how many shards the node is Available or Initializing in
abbrev pub load : ℕ → List Shard → ℕ
load node shards = count_by (serves node) shards

-- the first shard of which the fact holds, by its number
pub record IsFirstWhere (Holds : Shard → Type 0) (shards : List Shard) (number : ℕ) : Type 0 where
  pub shard : Shard
  pub stands : slice_get shards number ≡ Some shard
  pub holds : Holds shard
  pub first : (k : ℕ) (earlier : Shard) → k < number → slice_get shards k ≡ Some earlier → ¬ Holds earlier

-- a node of this name in this group, listed and not drained
abbrev pub fresh_node : List ℕ → List ℕ → Instance
fresh_node name group = record { name = name; group = group; listed = true; drained = false }

-- the number that the node of the name has or gets
abbrev pub CanHave : List Instance → List ℕ → ℕ → Type 0
CanHave instances name node = IsNodeNamed instances name node ⊎ (IsNewName instances name × (node ≡ length instances))

-- the nodes where one of the name is listed in the group: at the position that it had, or after all others; and its number
abbrev pub Joins : List Instance → List ℕ → List ℕ → List Instance → ℕ → Type 0
Joins instances name group next node =
    (IsNodeNamed instances name node × (next ≡ slice_set instances node (fresh_node name group)))
    ⊎ (IsNewName instances name × (node ≡ length instances) × (next ≡ instances ++ fresh_node name group ∷ []))
