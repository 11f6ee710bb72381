-- What is so of each plan, as laws that are proved of the definitions.
use Rattle.std.specs.Prelude.{◌≡◌, ◌≢◌, ℕ, List, [], length, Bool, true, IsTrue}
use Rattle.placement_core.specs.m3_model.Members.{IsIn}
use Rattle.placement_core.specs.m3_model.Names.{is_name}
use Rattle.placement_core.specs.m3_model.Limits.{IsInit}
use Rattle.placement_plan.specs.First.{IsFirstPlacement, IsInitial}
use Rattle.placement_core.specs.m3_model.declared.placement.Assignment.{Assignment}
use Rattle.placement_core.specs.m3_model.declared.placement.Placement.{Placement}
use Rattle.placement_core.specs.m3_model.declared.placement.ShardState.TheVariants.{Initializing}
use Rattle.placement_core.specs.Shards.{Shard}
use Rattle.placement_core.specs.Lawful.{IsLawful}
use Rattle.placement_core.specs.Steps.{IsStep, IsDoneList}
use Rattle.placement_plan.specs.Nodes.{load}
use Rattle.isolation_groups.specs.Groups.{group_of}
use Rattle.placement_plan.specs.Plans.{IsAvailable, IsCancel, IsRemoval, IsDrain, IsReplacement}
use Rattle.placement_plan.specs.Additions.{IsAddition, MayGiveShard}

abbrev pub InitialIsLawful : Type 0
InitialIsLawful = (rf shards : ℕ) (nodes : List (List ℕ × List ℕ)) (place : Placement) → IsInit rf shards 0 nodes → IsInitial rf shards nodes place → IsLawful place × IsFirstPlacement rf shards nodes place

abbrev pub AvailableIsLawful : Type 0
AvailableIsLawful = (old next : Placement) (done : List (ℕ × ℕ)) → IsLawful old → IsAvailable old done next → IsLawful next

abbrev pub CancelIsLawful : Type 0
CancelIsLawful = (old next : Placement) (name : List ℕ) → IsLawful old → IsCancel old name next → IsLawful next

abbrev pub RemovalIsLawful : Type 0
RemovalIsLawful = (old next : Placement) (name : List ℕ) → IsLawful old → IsRemoval old name next → IsLawful next

abbrev pub DrainIsLawful : Type 0
DrainIsLawful = (old next : Placement) (name : List ℕ) → IsLawful old → IsDrain old name next → IsLawful next

abbrev pub ReplacementIsLawful : Type 0
ReplacementIsLawful = (old next : Placement) (name by group : List ℕ) → IsLawful old → IsTrue (is_name by) → IsTrue (is_name group) → IsReplacement old name by group next → IsLawful next

abbrev pub AdditionIsLawful : Type 0
AdditionIsLawful = (old next : Placement) (name group : List ℕ) → IsLawful old → IsTrue (is_name name) → IsTrue (is_name group) → IsAddition old name group next → IsLawful next

abbrev pub AvailableIsStep : Type 0
AvailableIsStep = (old next : Placement) (done : List (ℕ × ℕ)) → IsAvailable old done next → IsDoneList (length old.shards) done → IsStep old next done

abbrev pub CancelIsStep : Type 0
CancelIsStep = (old next : Placement) (name : List ℕ) → IsCancel old name next → IsStep old next []

abbrev pub RemovalIsStep : Type 0
RemovalIsStep = (old next : Placement) (name : List ℕ) → IsRemoval old name next → IsStep old next []

abbrev pub DrainIsStep : Type 0
DrainIsStep = (old next : Placement) (name : List ℕ) → IsLawful old → IsDrain old name next → IsStep old next []

abbrev pub ReplacementIsStep : Type 0
ReplacementIsStep = (old next : Placement) (name by group : List ℕ) → IsLawful old → IsTrue (is_name by) → IsTrue (is_name group) → IsReplacement old name by group next → IsStep old next []

abbrev pub AdditionIsStep : Type 0
AdditionIsStep = (old next : Placement) (name group : List ℕ) → IsLawful old → IsTrue (is_name name) → IsTrue (is_name group) → IsAddition old name group next → IsStep old next []

-- after an addition no node has two shards more than the new one and a shard that could move to it
abbrev pub AdditionEnds : Type 0
AdditionEnds = (old next : Placement) (name group : List ℕ) → (plan : IsAddition old name group next) → (from : ℕ) → ¬ MayGiveShard (λ n. load n next.shards) next.instances next.shards plan.node from

-- two replicas of a shard, both from before its move or both from after it, are on nodes of different isolation groups
abbrev pub GroupsDiffer : (Assignment → Bool) → Type 0
GroupsDiffer chosen = (place : Placement) (shard : Shard) (a b : Assignment) → IsLawful place → IsIn place.shards shard → IsIn shard a → IsIn shard b → a ≢ b → chosen a ≡ true → chosen b ≡ true → group_of place.instances a.node ≢ group_of place.instances b.node

-- one node at most is joining a shard
abbrev pub OneJoins : Type 0
OneJoins = (place : Placement) (shard : Shard) (a b : Assignment) → IsLawful place → IsIn place.shards shard → IsIn shard a → IsIn shard b → a.state ≡ Initializing → b.state ≡ Initializing → a ≡ b
