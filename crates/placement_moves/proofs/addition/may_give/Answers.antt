use Rattle.std.proofs.Common.{slice_index}
use Rattle.placement_plan.proofs.AddLemmas.{give_by}
use Rattle.placement_moves.proofs.addition.may_give.Goals as goal

pub returns-then-loads-to : goal.returns-then-loads-to
returns-then-loads-to c =
    give_by (slice_index c.args.loads.now) c.args.instances.now c.args.shards.now c.args.to c.args.from c.first_to_move.result c.is_some.result c.is_some.ensures c.requires.from c.if-loads-to.true
    c.first_to_move.ensures.found c.first_to_move.ensures.none
