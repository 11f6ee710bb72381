-- What a step leaves of a shard's replicas, as laws that are proved of every lawful placement.
use Rattle.std.specs.Prelude.{◌≡◌, ◌≢◌, ◌⊎◌, ◌↔◌, ℕ, List, length, Option, Some, None, false, slice_get}
use Rattle.m3_model.specs.Ascends.{Ascends}
use Rattle.m3_model.specs.Members.{IsIn}
use Rattle.m3_model.specs.declared.placement.Assignment.{Assignment}
use Rattle.m3_model.specs.declared.placement.Placement.{Placement}
use Rattle.m3_model.specs.declared.placement.ShardState.TheVariants.{Available}
use Rattle.placement_core.specs.Shards.{Shard, is_steady, counted, holders, former}
use Rattle.placement_core.specs.Lawful.{IsWithinLimits, IsShard, IsSpread, IsLawful}
use Rattle.placement_core.specs.Steps.{IsStep, done_at}

-- a node counts exactly where it has an Available assignment
abbrev pub CountedAreAvailable : Type 0
CountedAreAvailable = (shard : Shard) (node : ℕ) → IsIn (counted shard) node ↔ ((a : Assignment) × IsIn shard a × (a.node ≡ node) × (a.state ≡ Available))

-- a shard has `rf` holders
abbrev pub AsManyHolders : Type 0
AsManyHolders = (rf version : ℕ) (shard : Shard) → IsShard rf version shard → length (holders shard) ≡ rf

-- the holders are different nodes
abbrev pub DistinctHolders : Type 0
DistinctHolders = (rf version : ℕ) (shard : Shard) → IsShard rf version shard → Ascends ◌≢◌ (holders shard)

-- a moving shard has `rf` former replicas
abbrev pub AsManyFormer : Type 0
AsManyFormer = (rf version : ℕ) (shard : Shard) → IsShard rf version shard → is_steady shard ≡ false → length (former shard) ≡ rf

-- a node that counts holds the shard
abbrev pub CountedHold : Type 0
CountedHold = (shard : Shard) (node : ℕ) → IsIn (counted shard) node → IsIn (holders shard) node

-- the holders stay, or the joining node whose move ends stands for one of them
abbrev pub HoldersChange : Shard → Shard → Option ℕ → Type 0
HoldersChange old next None = (node : ℕ) → IsIn (holders next) node ↔ IsIn (holders old) node
HoldersChange old next (Some to) = (from : ℕ) × ((node : ℕ) → IsIn (holders next) node ↔ ((node ≡ to) ⊎ (IsIn (holders old) node × (node ≢ from))))

-- a step of a lawful placement, seen at one shard
pub record IsStepAt (old next : Placement) (done : List (ℕ × ℕ)) (s : ℕ) (a b : Shard) : Type 0 where
  pub lawful : IsLawful old
  pub step : IsStep old next done
  pub before : slice_get old.shards s ≡ Some a
  pub after : slice_get next.shards s ≡ Some b

-- a step moves at most one replica of a shard, and only where the done list says so
abbrev pub MovesOneReplica : Type 0
MovesOneReplica = (old next : Placement) (done : List (ℕ × ℕ)) (s : ℕ) (a b : Shard) → IsStepAt old next done s a b → HoldersChange a b (done_at s done)

-- a node that counts before a step holds the shard after it
abbrev pub CountedHoldAfter : Type 0
CountedHoldAfter = (old next : Placement) (done : List (ℕ × ℕ)) (s : ℕ) (a b : Shard) → IsStepAt old next done s a b → (node : ℕ) → IsIn (counted a) node → IsIn (holders b) node

-- a step keeps the rules of the replicas of each shard
abbrev pub KeepsShards : Type 0
KeepsShards = (old next : Placement) (done : List (ℕ × ℕ)) → IsLawful old → IsStep old next done → (shard : Shard) → IsIn next.shards shard → IsShard next.rf next.version shard

-- a step leads to a lawful placement where that one is within the limits and its shards are spread over listed nodes
abbrev pub KeepsLawful : Type 0
KeepsLawful = (old next : Placement) (done : List (ℕ × ℕ)) → IsLawful old → IsStep old next done → IsWithinLimits next → ((shard : Shard) → IsIn next.shards shard → IsSpread next.instances shard) → IsLawful next

-- two placements have one done list at most
abbrev pub HasOneDoneList : Type 0
HasOneDoneList = (old next : Placement) (done other : List (ℕ × ℕ)) → IsLawful old → IsStep old next done → IsStep old next other → done ≡ other
