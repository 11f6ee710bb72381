use Rattle.std.proofs.Common.{ℕ, List, subst, sym, rules, IsSortedByKey}
use Rattle.std.specs.Cmp.Lexicographic.{slice_cmp}
use Rattle.std.specs.Ordering.{nat_cmp}
use Rattle.m3_model.specs.declared.placement.Assignment.{Assignment}
use Rattle.placement_core.specs.NodeNames.{name_of}
use Rattle.placement_core.proofs.SortLemmas.{sorted_by_names}
use Rattle.placement_core.proofs.replicas.sorted_assignments.Goals as goal

pub returns-clause-order : goal.returns-clause-order
returns-clause-order c =
    let name : Assignment → List ℕ = λ a. name_of c.args.instances.now a.node in
    subst (IsSortedByKey name (slice_cmp nat_cmp)) (sym c.from_vec.ensures) (sorted_by_names name _ c.in_ok-sort_by.ensures.sorted (λ a r q k. search rules))
