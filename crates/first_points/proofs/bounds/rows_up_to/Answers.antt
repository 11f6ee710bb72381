use Rattle.std.proofs.Common.{◌≡◌, ◌∙◌, ap, sym, subst, take, drop, rules}
use Rattle.std.specs.Prelude.{Option, not}
use Rattle.std.specs.Option.{option_copied}
use Rattle.std.specs.Ordering.{is_lt, nat_cmp, ordering_then}
use Rattle.std.specs.Cmp.Lexicographic.{slice_cmp}
use Rattle.std.proofs.lemmas.Cmp.{nat_list_cmp_total}
use Rattle.std.proofs.lemmas.List.{take-append-drop}
use Rattle.std.proofs.lemmas.List.Sorted.{IsPartitionPoint-from_clause}
use Rattle.m3_model.specs.Ascends.{Ascends}
use Rattle.m3_model.specs.Members.{IsIn}
use Rattle.m3_model.specs.Reads.{points_in}
use Rattle.m3_model.specs.Tags.{IsBelow}
use Rattle.m3_model.specs.declared.point.Point.{Point}
use Rattle.m3_model.specs.declared.point.Series.{Series}
use Rattle.m3_model.proofs.Lists.{IsIn-take}
use Rattle.first_points.specs.Bounds.{points_up_to}
use Rattle.first_points.proofs.BoundLemmas.{lower_within}
use Rattle.first_points.proofs.PartitionLemmas.{found_behind, front_ascends, partitioned}
use Rattle.first_points.proofs.RowLemmas.{rows_found, series_order}
use Rattle.first_points.proofs.bounds.rows_up_to.Goals as goal

pub returns-clause-points : goal.returns-clause-points
returns-clause-points c =
    let last = c.in-Some.last.now in
    let rows = c.args.rows.now in
    let i = c.partition_point.result in
    let bound = c.partition_point.ensures.bound in
    let space = c.cmp-space.result in
    let p = λ (s : Series). not (is_lt (ordering_then space (slice_cmp nat_cmp last.id s.id))) in
    let found = IsPartitionPoint-from_clause p rows i c.partition_point.ensures.partitioned
    (partitioned (λ (a b : Series). IsBelow a.id b.id) p (λ x y less within. lower_within (slice_cmp nat_cmp) nat_list_cmp_total space last.id x.id y.id less within) rows c.requires) (λ a r f h. search rules) in
    subst (λ (o : Option Point). points_up_to o (points_in c.args.ns (take i rows)) ≡ points_up_to o (points_in c.args.ns rows)) (sym (ap option_copied c.in-Some.is))
    (rows_found last c.args.ns rows i (λ s m. ap (λ o. not (is_lt (ordering_then o (slice_cmp nat_cmp last.id s.id)))) (sym c.cmp-space.ensures) ∙ found_behind p rows i bound found s m))

pub returns-clause-ids : goal.returns-clause-ids
returns-clause-ids c =
    let i = c.partition_point.result in
    let rows = c.args.rows.now in
    front_ascends (λ (a b : Series). IsBelow a.id b.id) (take i rows) (drop i rows) (subst (Ascends (λ (a b : Series). IsBelow a.id b.id)) (sym (take-append-drop i rows)) c.requires)

pub returns-clause-rows : goal.returns-clause-rows
returns-clause-rows c s m = IsIn-take c.partition_point.result c.args.rows.now s m
