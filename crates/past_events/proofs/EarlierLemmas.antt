-- Which nodes count.
use Rattle.std.proofs.Common.{◌≡◌, ◌↔◌, ℕ, ap, Any}
use Rattle.m3_model.specs.Members.{IsIn}
use Rattle.m3_model.specs.declared.placement.Assignment.{Assignment}
use Rattle.m3_model.specs.declared.placement.ShardState.TheVariants.{Available}
use Rattle.placement_core.specs.Shards.{Shard, counts, is_available, counted}
use Rattle.placement_core.proofs.HolderLemmas.{available_of, chosen_node, node_chosen}
use Rattle.placement_core.proofs.ListLemmas.{IsIn-from_Any, Any-from_IsIn}

pub counted_any : (shard : Shard) (n : ℕ) → Any (λ a. (a.node ≡ n) × (a.state ≡ Available)) shard ↔ IsIn (counted shard) n
counted_any shard n = (
  λ h. let a = IsIn-from_Any (λ (a : Assignment). (a.node ≡ n) × (a.state ≡ Available)) shard h in node_chosen is_available shard n a.0 a.1 (a.2).0 (ap counts (a.2).1),
  λ h. let a = chosen_node is_available shard n h in Any-from_IsIn (λ (a : Assignment). (a.node ≡ n) × (a.state ≡ Available)) shard a.0 a.1 (a.2, available_of (a.0).state a.3),
)
