use Rattle.std.proofs.Common.{List, subst, rules, IsPermutation, IsSortedByKey}
use Rattle.std.proofs.lemmas.Fn.{always_returns_same}
use Rattle.net_plan.specs.FateKeys.{fate_key_cmp}
use Rattle.net_plan.specs.Fates.{Item, key_of}
use Rattle.net_plan.proofs.RowLemmas.{sorted_row, fates_of-moved, distinct_keys}
use Rattle.net_plan.proofs.fates.Fates.new.Goals as goal

pub invariant_of-result : goal.invariant_of-result
invariant_of-result c =
    let moved = subst (λ (xs : List Item). IsPermutation xs c.sort_unstable_by_key.new.self.items) c.into_vec-items.ensures c.sort_unstable_by_key.ensures.permutation in
    let up : IsSortedByKey key_of fate_key_cmp c.sort_unstable_by_key.new.self.items = c.sort_unstable_by_key.ensures.sorted key_of (always_returns_same _ _ _ (λ a r q k. search rules)) in
    sorted_row c.args.list c.sort_unstable_by_key.new.self.items c.requires moved up

pub returns : goal.returns
returns c =
    let moved = subst (λ (xs : List Item). IsPermutation xs c.sort_unstable_by_key.new.self.items) c.into_vec-items.ensures c.sort_unstable_by_key.ensures.permutation in
    fates_of-moved c.args.list c.sort_unstable_by_key.new.self.items moved (distinct_keys c.args.list c.requires.distinct)
