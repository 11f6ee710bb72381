-- The members of a shard in another order: who counts among them.
use Rattle.std.proofs.Common.{◌≡◌, ℕ, length, sym, subst, ◌∙◌, cond, IsPermutation}
use Rattle.std.specs.Prelude.{filter, count_by}
use Rattle.std.proofs.lemmas.List.{length-map}
use Rattle.std.proofs.lemmas.List.Sorted.{sum_by-IsPermutation}
use Rattle.std.proofs.lemmas.List.Sums.{length-filter}
use Rattle.m3_model.specs.Members.{IsIn}
use Rattle.m3_model.specs.declared.placement.Assignment.{Assignment}
use Rattle.m3_model.proofs.MemberLemmas.{IsIn-map, map-IsIn}
use Rattle.placement_core.specs.Shards.{Shard, counted, is_available, nodes_of}
use Rattle.placement_core.proofs.HolderLemmas.{chosen_node, node_chosen}
use Rattle.line_tracks.proofs.calls.ToldLemmas.{IsIn-permuted, permuted-IsIn}

module _ (shard members : Shard) (same : IsPermutation shard members) where
  pub counted_within : (n : ℕ) → IsIn (counted members) n → IsIn (counted shard) n
  counted_within n m = let a = chosen_node is_available members n m in node_chosen is_available shard n a.0 (permuted-IsIn shard members same a.0 a.1) a.2 a.3

  pub counted_all : (n : ℕ) → IsIn (counted shard) n → IsIn (counted members) n
  counted_all n m = let a = chosen_node is_available shard n m in node_chosen is_available members n a.0 (IsIn-permuted shard members same a.0 a.1) a.2 a.3

  counted_by : count_by is_available members ≡ count_by is_available shard
  counted_by = sum_by-IsPermutation (λ a. cond (is_available a) 1 0) shard members same

  pub counted_many : length (counted members) ≡ length (counted shard)
  counted_many =
      length-map (filter is_available members) (λ (a : Assignment). a.node) ∙ length-filter is_available members ∙ counted_by ∙ sym (length-filter is_available shard)
      ∙ sym (length-map (filter is_available shard) (λ (a : Assignment). a.node))

  pub node_within : (n : ℕ) → IsIn (nodes_of members) n → IsIn (nodes_of shard) n
  node_within n m = let a = IsIn-map (λ (x : Assignment). x.node) members n m in subst (IsIn (nodes_of shard)) a.2 (map-IsIn (λ (x : Assignment). x.node) shard a.0 (permuted-IsIn shard members same a.0 a.1))
