use Rattle.std.proofs.Common.{subst, rules}
use Rattle.std.specs.List.Sorted.{IsSearchInRange}
use Rattle.std.proofs.lemmas.Fn.{always_returns_same}
use Rattle.series_slots.proofs.SlotLemmas.{searched}
use Rattle.series_slots.proofs.series_buffer.position_of.Goals as goal

pub returns-clause-there : goal.returns-clause-there
returns-clause-there c =
    let slots = c.args.slots.now in
    let found = c.binary_search_by_key in
    let bound = subst (λ n. IsSearchInRange found.result n) slots.ok.0 found.ensures.bound in
    (searched c.args.t slots.items found.result c.requires bound (found.ensures.position (λ slot. slot.0) (always_returns_same _ _ _ (λ a r q k. search rules)))).0

pub returns-clause-absent : goal.returns-clause-absent
returns-clause-absent c =
    let slots = c.args.slots.now in
    let found = c.binary_search_by_key in
    let bound = subst (λ n. IsSearchInRange found.result n) slots.ok.0 found.ensures.bound in
    (searched c.args.t slots.items found.result c.requires bound (found.ensures.position (λ slot. slot.0) (always_returns_same _ _ _ (λ a r q k. search rules)))).1
