use Rattle.std.proofs.Common.{slice_index}
use Rattle.placement_core.proofs.OrderLemmas.{at_in}
use Rattle.placement_plan.specs.Additions.{IsGiver}
use Rattle.placement_moves.proofs.addition.next_move.Goals as goal

pub unreachable-requires : goal.unreachable-requires
unreachable-requires c =
    let giver : IsGiver (slice_index c.args.loads.now) c.args.instances.now c.args.shards.now c.args.to c.in_ok-from.from = c.in_ok-from.ensures.found in
    let may = giver.may in
    c.in-None.ensures.none may.shard (at_in c.args.shards.now may.number may.shard may.stands) may.moves
