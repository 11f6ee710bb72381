use Rattle.std.proofs.Common.{◌≡◌, ◌++◌, ℕ, ℤ, List, ap, ap₂, ◌∙◌}
use Rattle.std.specs.Prelude.{slice_range}
use Rattle.std.specs.List.{filter_map}
use Rattle.std.specs.VecDeque.Iter.{deque_iter_rest}
use Rattle.series_slots.specs.Slots.{valued}
use Rattle.series_slots.specs.SlotPlaces.{SlotList}
use Rattle.series_slots.proofs.SlotLemmas.{places_in_order, paired}
use Rattle.series_slots.proofs.series_buffer.pairs_between.Goals as goal

pub overflow_sub-high : goal.overflow_sub-high
overflow_sub-high c = places_in_order c.args.from c.args.to c.args.slots.now.items c.place_from-low.result c.place_from-high.result c.requires.some c.place_from-low.ensures c.place_from-high.ensures

pub range-t-items-requires-clause-start_le_end : goal.range-t-items-requires-clause-start_le_end
range-t-items-requires-clause-start_le_end c =
    places_in_order c.args.from c.args.to c.args.slots.now.items c.place_from-low.result c.place_from-high.result c.requires.some c.place_from-low.ensures c.place_from-high.ensures

pub loop-t-init : goal.loop-t-init
loop-t-init c =
    let slots = c.args.slots.now.items in
    let low = c.place_from-low.result in
    let high = c.place_from-high.result in
    let ordered = places_in_order c.args.from c.args.to slots low high c.requires.some c.place_from-low.ensures c.place_from-high.ensures in
    let rest : deque_iter_rest c.into_iter-t-iterator.result ≡ slice_range slots low high = ap deque_iter_rest c.into_iter-t-iterator.ensures.into_iter_gives ∙ c.range-t-items.ensures.rest in
    ap₂ (λ (ps : List (ℕ × ℤ)) (xs : SlotList). ps ++ filter_map valued xs) c.in_ok-pairs.ensures.items rest ∙ paired c.args.from c.args.to slots low high ordered c.place_from-low.ensures c.place_from-high.ensures
