use Rattle.std.proofs.Common.{◌≡◌, ℕ, ℤ, ◌<◌, sym, subst, take, drop, true, rules}
use Rattle.std.specs.Prelude.{nat_le}
use Rattle.std.proofs.lemmas.Bool.{leb-true, leb-false, le-leb}
use Rattle.std.proofs.lemmas.List.{take-append-drop}
use Rattle.std.proofs.lemmas.List.Sorted.{IsPartitionPoint-from_clause}
use Rattle.first_points.specs.Rows.{AreLater}
use Rattle.first_points.proofs.KeyOrder.{not_above}
use Rattle.first_points.proofs.PartitionLemmas.{partitioned, found_before, found_behind}
use Rattle.first_points.proofs.TakeLemmas.{rest_whole}
use Rattle.first_points.proofs.rows.later_pairs.Goals as goal

pub returns : goal.returns
returns c =
    let t = c.args.t in
    let pairs = c.args.points.now in
    let i = c.partition_point.result in
    let bound = c.partition_point.ensures.bound in
    let p = λ (x : ℕ × ℤ). nat_le x.0 t in
    let found = IsPartitionPoint-from_clause p pairs i c.partition_point.ensures.partitioned (partitioned (λ (a b : ℕ × ℤ). a.0 < b.0) p (λ x y less pass. not_above x.0 y.0 t less pass) pairs c.requires) (λ a r f h. search rules) in
    subst (AreLater t pairs) (sym (rest_whole i pairs)) (record {
      early = take i pairs;
      parts = sym (take-append-drop i pairs);
      not_later = λ x m. leb-true x.0 t (found_before p pairs i bound found x m);
      all_later = λ x m. leb-false x.0 t (found_behind p pairs i bound found x m);
    })
