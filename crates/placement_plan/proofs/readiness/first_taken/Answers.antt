use Rattle.std.proofs.Common.{arith}
use Rattle.placement_core.specs.Shards.{Shard}
use Rattle.placement_core.proofs.ListLemmas.{at_index}
use Rattle.placement_core.proofs.StepLemmas.{no_true}
use Rattle.placement_plan.specs.Nodes.{Has}
use Rattle.isolation_groups.specs.Groups.{IsFree}
use Rattle.placement_plan.proofs.PlaceLemmas.{none_all, none_more}
use Rattle.placement_plan.proofs.readiness.first_taken.Goals as goal

pub returns-then-is_taken-clause-found : goal.returns-then-is_taken-clause-found
returns-then-is_taken-clause-found c =
    let shard = c.index-shards-number.result in
    record { shard = shard; stands = at_index c.args.shards.now c.loop-number.number shard c.loop-number-test.true c.index-shards-number.is; holds = c.is_taken.ensures.0 c.if-is_taken.true; first = c.loop-number.invariant }

pub loop-number-preserved : goal.loop-number-preserved
loop-number-preserved c =
    let shard = c.index-shards-number.result in
    none_more (λ (s : Shard). Has c.args.node s × ¬ IsFree c.args.instances.now s c.args.node c.args.group.now) c.args.shards.now c.loop-number.number shard
    (at_index c.args.shards.now c.loop-number.number shard c.loop-number-test.true c.index-shards-number.is) (λ h. no_true c.is_taken.result c.if-is_taken.false (c.is_taken.ensures.1 h)) c.loop-number.invariant

pub returns-clause-none : goal.returns-clause-none
returns-clause-none c = none_all (λ (s : Shard). Has c.args.node s × ¬ IsFree c.args.instances.now s c.args.node c.args.group.now) c.args.shards.now c.loop-number.number (omega arith) c.loop-number.invariant
