use Rattle.std.proofs.Common.{◌≡◌, ◌∙◌, ◌<◌, ℕ, ℤ, ap, sym, rules}
use Rattle.std.specs.Prelude.{Option}
use Rattle.std.specs.Option.{option_copied}
use Rattle.std.specs.Ordering.{nat_cmp, ordering_then}
use Rattle.std.proofs.lemmas.Cmp.{nat_cmp_total}
use Rattle.std.proofs.lemmas.List.Sorted.{IsPartitionPoint-from_clause}
use Rattle.m3_model.specs.declared.point.Point.{Point}
use Rattle.first_points.specs.Bounds.{points_up_to}
use Rattle.first_points.specs.Rows.{points_at}
use Rattle.first_points.proofs.BoundLemmas.{lower_within, up_to_none}
use Rattle.first_points.proofs.KeyOrder.{below}
use Rattle.first_points.proofs.PartitionLemmas.{partitioned, found_before, found_behind}
use Rattle.first_points.proofs.RowLemmas.{is_time_within, pairs_found, series_order}
use Rattle.first_points.proofs.bounds.pairs_up_to.Goals as goal

pub returns-in_default : goal.returns-in_default
returns-in_default c =
    let points = points_at c.args.ns c.args.id.now c.args.pairs.now in
    sym (ap (λ (o : Option Point). points_up_to o points) (ap option_copied c.in_default.is) ∙ up_to_none points)

pub returns : goal.returns
returns c =
    let last = c.in-Some.last.now in
    let pairs = c.args.pairs.now in
    let i = c.partition_point.result in
    let bound = c.partition_point.ensures.bound in
    let series = c.then-series.result in
    let p = λ (x : ℕ × ℤ). is_time_within series last x.0 in
    let found = IsPartitionPoint-from_clause p pairs i c.partition_point.ensures.partitioned
    (partitioned (λ (a b : ℕ × ℤ). a.0 < b.0) p (λ x y less within. lower_within nat_cmp nat_cmp_total series last.t x.0 y.0 (below x.0 y.0 less) within) pairs c.requires) (λ a r f h. search rules) in
    let is : series ≡ series_order last c.args.ns c.args.id.now = c.then-series.ensures ∙ ap (λ o. ordering_then o c.cmp-2.result) c.cmp.ensures ∙ ap (ordering_then (nat_cmp last.ns c.args.ns)) c.cmp-2.ensures in
    pairs_found last c.args.ns c.args.id.now series is pairs i (found_before p pairs i bound found) (found_behind p pairs i bound found)
    ∙ ap (λ (o : Option Point). points_up_to o (points_at c.args.ns c.args.id.now pairs)) (sym (ap option_copied c.in-Some.is))
