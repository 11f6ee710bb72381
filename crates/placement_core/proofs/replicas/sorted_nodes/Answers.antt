use Rattle.std.proofs.Common.{ℕ, List, subst, sym, rules, IsSortedByKey}
use Rattle.std.specs.Cmp.Lexicographic.{slice_cmp}
use Rattle.std.specs.Ordering.{nat_cmp}
use Rattle.placement_core.specs.NodeNames.{name_of}
use Rattle.placement_core.proofs.SortLemmas.{sorted_by_names}
use Rattle.placement_core.proofs.replicas.sorted_nodes.Goals as goal

pub returns-clause-order : goal.returns-clause-order
returns-clause-order c =
    let name : ℕ → List ℕ = name_of c.args.instances.now in
    subst (IsSortedByKey name (slice_cmp nat_cmp)) (sym c.from_vec.ensures) (sorted_by_names name _ c.in_ok-sort_by.ensures.sorted (λ a r q k. search rules))
