use Rattle.std.proofs.Common.{List, subst, ◌∙◌, IfOk, IsPermutation, IsSortedByKey}
use Rattle.std.specs.Cmp.Lexicographic.{slice_cmp}
use Rattle.std.specs.Ordering.{nat_cmp}
use Rattle.m3_model.specs.declared.placement.Instance.{Instance}
use Rattle.m3_model.specs.declared.placement.Assignment.{Assignment}
use Rattle.placement_core.specs.Shards.{shard_at}
use Rattle.placement_core.specs.NodeNames.{name_of}
use Rattle.placement_core.proofs.OrderLemmas.{result_by_name, shard_differs}
use Rattle.placement_core.proofs.replicas.members.Goals as goal

pub returns : goal.returns
returns c =
    let place = c.args.place.now in
    let shard = shard_at c.args.place.now c.args.shard in
    let made = c.sorted_assignments.result in
    let same = subst (λ (items : List Assignment). IfOk made (λ ordered. IsPermutation items ordered)) (c.in_ok-all.ensures.items ∙ c.assignments_of.ensures) c.sorted_assignments.ensures.same in
    record {
      same = same;
      by_name = λ lawful. result_by_name place (λ a. a.node) shard made (shard_differs place c.args.shard lawful c.requires) same
          (subst (λ (instances : List Instance). IfOk made (λ ordered. IsSortedByKey (λ a. name_of instances a.node) (slice_cmp nat_cmp) ordered)) c.as_slice-instances.ensures c.sorted_assignments.ensures.order);
    }
