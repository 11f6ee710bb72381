-- When each request is refused: what holds of the placement where an error is the first in the order of refusals.
use Rattle.std.specs.Prelude.{◌≡◌, ◌≤◌, ℕ, List, length, true, false, ⊤}
use Rattle.placement_core.specs.m3_model.Members.{IsIn}
use Rattle.placement_core.specs.NodeNames.{is_listed}
use Rattle.placement_core.specs.m3_model.declared.placement.Assignment.{Assignment}
use Rattle.placement_core.specs.m3_model.declared.placement.Instance.{Instance}
use Rattle.placement_core.specs.m3_model.declared.placement.Placement.{Placement}
use Rattle.placement_core.specs.m3_model.declared.placement.ShardState.TheVariants.{Initializing}
use Rattle.placement_core.specs.m3_model.declared.limits.TheConstants.{MOST_NODES}
use Rattle.placement_core.specs.Shards.{Shard, is_steady}
use Rattle.placement_plan.specs.Nodes.{ListsNode, IsNewName, Has, IsFirstWhere}
use Rattle.isolation_groups.specs.Groups.{IsFree}
use Rattle.placement_plan.specs.Choices.{MayTake}
use Rattle.placement_plan.specs.Plans.{IsReady, HasRoom}
use Rattle.placement_plan.specs.declared.plan_err.PlaceErr.{PlaceErr}
use Rattle.placement_plan.specs.declared.plan_err.PlaceErr.TheVariants.{Busy, Group, Unknown, Exists, Limit, Memory}

-- only want of memory, or of a further version, refuses
abbrev pub IsMemory : PlaceErr → Type 0
IsMemory Memory = ⊤
IsMemory _ = ⊥

abbrev pub RefusesCancel : Placement → List ℕ → PlaceErr → Type 0
RefusesCancel place name Unknown = is_listed name place ≡ false
RefusesCancel place name Memory = ⊤
RefusesCancel place name _ = ⊥

-- the least shard that the node has, and the node itself
abbrev pub RefusesRemove : Placement → List ℕ → PlaceErr → Type 0
RefusesRemove place name Unknown = is_listed name place ≡ false
RefusesRemove place name (Busy shard node) = ListsNode place.instances name node × IsFirstWhere (Has node) place.shards shard
RefusesRemove place name Memory = ⊤
RefusesRemove place name _ = ⊥

-- the node is joining this shard
abbrev pub IsInitializing : ℕ → Shard → Type 0
IsInitializing node shard = (a : Assignment) × IsIn shard a × (a.node ≡ node) × (a.state ≡ Initializing)

-- a move goes on of this least shard that the node has, and to the joining node
pub record IsBusy (shards : List Shard) (node shard joining : ℕ) : Type 0 where
  pub first : IsFirstWhere (λ s. Has node s × (is_steady s ≡ false)) shards shard
  pub joins : IsInitializing joining (first.shard)

-- no node may take this least shard that the node has
abbrev pub IsStuck : List Instance → List Shard → ℕ → PlaceErr → Type 0
IsStuck instances shards node (Group shard) = IsFirstWhere (λ s. Has node s × ((to : ℕ) → ¬ MayTake instances s node to)) shards shard
IsStuck instances shards node Memory = ⊤
IsStuck instances shards node _ = ⊥

abbrev pub RefusesDrain : Placement → List ℕ → PlaceErr → Type 0
RefusesDrain place name Unknown = is_listed name place ≡ false
RefusesDrain place name (Busy shard joining) = (node : ℕ) × ListsNode place.instances name node × IsBusy place.shards node shard joining
RefusesDrain place name (Group shard) = (node : ℕ) × ListsNode place.instances name node × IsReady place.shards node × IsStuck place.instances place.shards node (Group shard)
RefusesDrain place name Memory = ⊤
RefusesDrain place name _ = ⊥

-- 16 names are known, and this isn't one of them
abbrev pub IsPastLimit : List Instance → List ℕ → PlaceErr → Type 0
IsPastLimit instances name (Limit limit) = IsNewName instances name × (MOST_NODES ≤ length instances) × (limit ≡ MOST_NODES)
IsPastLimit instances name _ = ⊥

abbrev pub RefusesAdd : Placement → List ℕ → PlaceErr → Type 0
RefusesAdd place name Exists = is_listed name place ≡ true
RefusesAdd place name (Limit limit) = (is_listed name place ≡ false) × IsPastLimit place.instances name (Limit limit)
RefusesAdd place name Memory = ⊤
RefusesAdd place name _ = ⊥

abbrev pub RefusesReplace : Placement → List ℕ → List ℕ → List ℕ → PlaceErr → Type 0
RefusesReplace place name by group Exists = is_listed by place ≡ true
RefusesReplace place name by group Unknown = (is_listed by place ≡ false) × (is_listed name place ≡ false)
RefusesReplace place name by group (Limit limit) = (is_listed by place ≡ false) × (is_listed name place ≡ true) × IsPastLimit place.instances by (Limit limit)
RefusesReplace place name by group (Busy shard joining) =
    (is_listed by place ≡ false) × HasRoom place.instances by × ((node : ℕ) × ListsNode place.instances name node × IsBusy place.shards node shard joining)
RefusesReplace place name by group (Group shard) =
    (is_listed by place ≡ false) × HasRoom place.instances by
    × ((node : ℕ) × ListsNode place.instances name node × IsReady place.shards node × IsFirstWhere (λ s. Has node s × ¬ IsFree place.instances s node group) place.shards shard)
RefusesReplace place name by group Memory = ⊤
