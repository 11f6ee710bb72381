use Rattle.std.proofs.Common.{ℕ, List, subst, ap, ◌∙◌, IfOk, IsPermutation, IsSortedByKey}
use Rattle.std.specs.Cmp.Lexicographic.{slice_cmp}
use Rattle.std.specs.Ordering.{nat_cmp}
use Rattle.m3_model.specs.declared.placement.Instance.{Instance}
use Rattle.placement_core.specs.Shards.{counted, shard_at, is_available}
use Rattle.placement_core.specs.NodeNames.{name_of}
use Rattle.placement_core.proofs.OrderLemmas.{result_by_name, shard_differs, nodes_differ}
use Rattle.placement_core.proofs.replicas.counted.Goals as goal

pub returns : goal.returns
returns c =
    let place = c.args.place.now in
    let shard = shard_at c.args.place.now c.args.shard in
    let made = c.sorted_nodes.result in
    let same = subst (λ (items : List ℕ). IfOk made (λ ordered. IsPermutation items ordered)) (c.in_ok-nodes.ensures ∙ ap counted c.assignments_of.ensures) c.sorted_nodes.ensures.same in
    record {
      same = same;
      by_name = λ lawful. result_by_name place (λ n. n) (counted shard) made (nodes_differ place is_available shard (shard_differs place c.args.shard lawful c.requires)) same
          (subst (λ (instances : List Instance). IfOk made (λ ordered. IsSortedByKey (name_of instances) (slice_cmp nat_cmp) ordered)) c.as_slice.ensures c.sorted_nodes.ensures.order);
    }
