use Rattle.std.proofs.Common.{◌≡◌, ℕ, List, [], subst, sym, ap, ◌∙◌, Bool, false, cond, IfOk, IsPermutation, IsSortedByKey}
use Rattle.std.specs.Cmp.Lexicographic.{slice_cmp}
use Rattle.std.specs.Ordering.{nat_cmp}
use Rattle.m3_model.specs.declared.placement.Instance.{Instance}
use Rattle.placement_core.specs.Shards.{holders, former, shard_at, is_holder, is_steady}
use Rattle.placement_core.specs.NodeNames.{name_of}
use Rattle.placement_core.proofs.OrderLemmas.{result_by_name, shard_differs, nodes_differ}
use Rattle.placement_core.proofs.replicas.former.Goals as goal

pub returns : goal.returns
returns c =
    let place = c.args.place.now in
    let shard = shard_at c.args.place.now c.args.shard in
    let made = c.sorted_nodes.result in
    let moving : is_steady shard ≡ false = ap is_steady (sym c.assignments_of-assignments.ensures) ∙ sym c.is_steady.ensures ∙ c.if-is_steady.false in
    let all : former shard ≡ holders shard = ap (λ (b : Bool). cond b [] (holders shard)) moving in
    let same = subst (λ (items : List ℕ). IfOk made (λ ordered. IsPermutation items ordered)) (c.in_ok-nodes.ensures ∙ ap holders c.assignments_of-assignments.ensures) c.sorted_nodes.ensures.same in
    record {
      same = subst (λ (items : List ℕ). IfOk made (λ ordered. IsPermutation items ordered)) (sym all) same;
      by_name = λ lawful. result_by_name place (λ n. n) (holders shard) made (nodes_differ place is_holder shard (shard_differs place c.args.shard lawful c.requires)) same
          (subst (λ (instances : List Instance). IfOk made (λ ordered. IsSortedByKey (name_of instances) (slice_cmp nat_cmp) ordered)) c.as_slice.ensures c.sorted_nodes.ensures.order);
    }
