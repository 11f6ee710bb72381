-- Nodes that are added, and the shards that move to them.
use Rattle.std.specs.Prelude.{◌≡◌, ◌≤◌, ◌<◌, ◌+◌, ℕ, suc, List, [], ◌∷◌, Some, true, false, length, slice_get, slice_set, slice_index_or}
use Rattle.std.specs.Ordering.{nat_cmp, is_gt, on, flip_args, then_cmp}
use Rattle.std.specs.Cmp.Lexicographic.{slice_cmp}
use Rattle.std.specs.declared.cmp.Ordering.{Ordering}
use Rattle.placement_core.specs.NodeNames.{is_listed, name_of}
use Rattle.placement_core.specs.m3_model.declared.placement.Instance.{Instance}
use Rattle.placement_core.specs.m3_model.declared.placement.Placement.{Placement}
use Rattle.placement_core.specs.m3_model.declared.limits.TheConstants.{NUMBER_END}
use Rattle.placement_core.specs.Shards.{Shard, is_steady}
use Rattle.placement_plan.specs.Nodes.{Has, load, Joins, IsFirstWhere}
use Rattle.placement_plan.specs.Choices.{MayTake, moved}
use Rattle.placement_plan.specs.Plans.{HasRoom}

-- the steady shard can move from the one node to the other
pub record MayMove (instances : List Instance) (from to : ℕ) (shard : Shard) : Type 0 where
  pub steady : is_steady shard ≡ true
  pub has : Has from shard
  pub takes : MayTake instances shard from to

-- the node has at least two shards more than the new one, and some shard that can move
pub record MayGiveShard (load_at : ℕ → ℕ) (instances : List Instance) (shards : List Shard) (to from : ℕ) : Type 0 where
  pub within : from < length instances
  pub heavy : load_at to + 2 ≤ load_at from
  pub number : ℕ
  pub shard : Shard
  pub stands : slice_get shards number ≡ Some shard
  pub moves : MayMove instances from to shard

-- nodes in the order in which they give: by falling load, then by name
abbrev pub giving_cmp : List Instance → (ℕ → ℕ) → ℕ → ℕ → Ordering
giving_cmp instances load_at = then_cmp (on load_at (flip_args nat_cmp)) (on (name_of instances) (slice_cmp nat_cmp))

-- of the nodes that may give, this one has the greatest load, and of those with that load the smallest name
pub record IsGiver (load_at : ℕ → ℕ) (instances : List Instance) (shards : List Shard) (to from : ℕ) : Type 0 where
  pub may : MayGiveShard load_at instances shards to from
  pub first : (other : ℕ) → MayGiveShard load_at instances shards to other → is_gt (giving_cmp instances load_at from other) ≡ false

-- the giver, and its least shard that can move
pub record IsNextMove (load_at : ℕ → ℕ) (instances : List Instance) (shards : List Shard) (to number from : ℕ) : Type 0 where
  pub giver : IsGiver load_at instances shards to from
  pub shard : IsFirstWhere (MayMove instances from to) shards number

-- the shards after one of them, by number, has begun its move from the node
abbrev pub after_move : ℕ → ℕ → ℕ × ℕ → List Shard → List Shard
after_move version to m shards = slice_set shards m.0 (moved version m.1 to (slice_index_or shards m.0 []))

-- one after the other the moves, each of a shard and the node that gives it, are the next ones; in the end no node may give
abbrev pub Rebalances : List Instance → ℕ → ℕ → List (ℕ × ℕ) → List Shard → List Shard → Type 0
Rebalances instances version to [] shards next = (next ≡ shards) × ((from : ℕ) → ¬ MayGiveShard (λ n. load n shards) instances shards to from)
Rebalances instances version to (m ∷ moves) shards next = IsNextMove (λ n. load n shards) instances shards to m.0 m.1 × Rebalances instances version to moves (after_move version to m shards) next

-- the node is listed, and takes shards of those that have the most until no node has two more that could give one
pub record IsAddition (old : Placement) (name group : List ℕ) (next : Placement) : Type 0 where
  pub is_new : is_listed name old ≡ false
  pub room : HasRoom old.instances name
  pub node : ℕ
  pub joins : Joins old.instances name group next.instances node
  pub version : next.version ≡ suc old.version
  pub version_fits : next.version < NUMBER_END
  pub rf : next.rf ≡ old.rf
  pub moves : List (ℕ × ℕ)
  pub rebalances : Rebalances next.instances next.version node moves old.shards next.shards
