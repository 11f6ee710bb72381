use Rattle.std.proofs.Common.{◌≡◌, ap, sym, subst, take, drop, true, false, ◌∙◌, rules}
use Rattle.std.specs.Ordering.{nat_cmp, is_lt}
use Rattle.std.specs.Cmp.Lexicographic.{slice_cmp}
use Rattle.std.proofs.lemmas.Cmp.{nat_list_cmp_total}
use Rattle.std.proofs.lemmas.List.{take-append-drop}
use Rattle.std.proofs.lemmas.List.Sorted.{IsPartitionPoint-from_clause}
use Rattle.m3_model.specs.Tags.{IsBelow}
use Rattle.m3_model.specs.declared.point.Series.{Series}
use Rattle.m3_model.proofs.Orders.{less_from}
use Rattle.first_points.specs.Rows.{AreFrom}
use Rattle.first_points.proofs.PartitionLemmas.{partitioned, found_before, found_behind}
use Rattle.first_points.proofs.TakeLemmas.{rest_whole}
use Rattle.first_points.proofs.rows.rows_from.Goals as goal

pub returns : goal.returns
returns c =
    let id = c.args.id.now in
    let rows = c.args.rows.now in
    let i = c.partition_point.result in
    let bound = c.partition_point.ensures.bound in
    let p = λ (s : Series). is_lt (slice_cmp nat_cmp s.id id) in
    let found = IsPartitionPoint-from_clause p rows i c.partition_point.ensures.partitioned
    (partitioned (λ (a b : Series). IsBelow a.id b.id) p (λ x y less pass. ap is_lt (nat_list_cmp_total.trans x.id y.id id less (less_from (slice_cmp nat_cmp y.id id) pass))) rows c.requires) (λ a r f h. search rules) in
    subst (AreFrom id rows) (sym (rest_whole i rows)) (record {
      early = take i rows;
      parts = sym (take-append-drop i rows);
      below = λ s m. less_from (slice_cmp nat_cmp s.id id) (found_before p rows i bound found s m);
      not_below = λ s m less. (let bad : true ≡ false = sym (ap is_lt less) ∙ found_behind p rows i bound found s m in cc);
    })
