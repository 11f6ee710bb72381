use Rattle.std.proofs.Common.{arith}
use Rattle.placement_core.proofs.ListLemmas.{at_index}
use Rattle.placement_core.proofs.StepLemmas.{no_true}
use Rattle.placement_plan.specs.Additions.{MayMove}
use Rattle.placement_plan.proofs.PlaceLemmas.{none_all, none_more}
use Rattle.placement_moves.proofs.addition.first_to_move.Goals as goal

pub returns-then-may_move-clause-found : goal.returns-then-may_move-clause-found
returns-then-may_move-clause-found c =
    let shard = c.index-shards-number.result in
    record { shard = shard; stands = at_index c.args.shards.now c.loop-number.number shard c.loop-number-test.true c.index-shards-number.is; holds = c.may_move.ensures.0 c.if-may_move.true; first = c.loop-number.invariant }

pub loop-number-preserved : goal.loop-number-preserved
loop-number-preserved c =
    let shard = c.index-shards-number.result in
    none_more (MayMove c.args.instances.now c.args.from c.args.to) c.args.shards.now c.loop-number.number shard
    (at_index c.args.shards.now c.loop-number.number shard c.loop-number-test.true c.index-shards-number.is) (λ h. no_true c.may_move.result c.if-may_move.false (c.may_move.ensures.1 h)) c.loop-number.invariant

pub returns-clause-none : goal.returns-clause-none
returns-clause-none c = none_all (MayMove c.args.instances.now c.args.from c.args.to) c.args.shards.now c.loop-number.number (omega arith) c.loop-number.invariant
