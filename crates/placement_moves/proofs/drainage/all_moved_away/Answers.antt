use Rattle.std.proofs.Common.{arith, sym, subst, ◌++◌, drop, length, List, ◌+◌, Option, IfSome, IfNone, ℕ, slice_index}
use Rattle.placement_core.specs.Shards.{Shard}
use Rattle.placement_core.proofs.ListLemmas.{at_index}
use Rattle.placement_core.proofs.OrderLemmas.{at_in}
use Rattle.placement_plan.specs.Nodes.{Has}
use Rattle.placement_plan.specs.Choices.{MayTake}
use Rattle.placement_plan.specs.Plans.{MovesBy}
use Rattle.placement_plan.specs.Loads.{LoadsFollow}
use Rattle.placement_plan.proofs.DrainLemmas.{DrainedBelow, drained_none, drained_more, drained_stuck, drained_few}
use Rattle.placement_plan.proofs.LoadLemmas.{loads_small}
use Rattle.placement_moves.proofs.drainage.all_moved_away.Goals as goal

pub loop-number-init : goal.loop-number-init
loop-number-init c =
    subst (λ (next : List Shard). DrainedBelow c.args.instances.now c.args.version c.args.node c.args.shards.now next c.in_ok-loads.loads.items 0) (sym c.new-next.ensures.items)
    (drained_none c.args.instances.now c.args.version c.args.node c.args.shards.now c.in_ok-loads.loads.items c.in_ok-loads.ensures)

pub loop-number-preserved : goal.loop-number-preserved
loop-number-preserved c =
    let n = c.loop-number.number in
    let a = c.index-shards-number.result in
    subst (λ (next : List Shard). DrainedBelow c.args.instances.now c.args.version c.args.node c.args.shards.now next c.moved_away.new.loads.items (n + 1)) (sym c.in_ok-push-in-Some.ensures.items)
    (drained_more c.args.instances.now c.args.version c.args.node c.args.shards.now c.loop-number.next.items c.loop-number.loads.items c.moved_away.new.loads.items n a c.in-Some.moved
    (at_index c.args.shards.now n a c.loop-number-test.true c.index-shards-number.is)
    (subst (λ (o : Option Shard). IfSome o (MovesBy c.args.instances.now (slice_index c.loop-number.loads.items) c.args.version c.args.node a)) c.in-Some.is c.in_ok-moved.ensures.moved)
    (subst (λ (o : Option Shard). IfSome o (LoadsFollow (length c.args.instances.now) c.loop-number.loads.items c.moved_away.new.loads.items a)) c.in-Some.is c.in_ok-moved.ensures.loads) c.loop-number.invariant)

pub moved_away-requires : goal.moved_away-requires
moved_away-requires c =
    let n = c.loop-number.number in
    let a = c.index-shards-number.result in
    let there = at_in c.args.shards.now n a (at_index c.args.shards.now n a c.loop-number-test.true c.index-shards-number.is) in
    record {
      few = c.requires.few;
      many = ((c.loop-number.invariant).loads).many;
      small = λ k. loads_small (length c.args.instances.now) (c.loop-number.next.items ++ drop n c.args.shards.now) c.loop-number.loads.items k (c.loop-number.invariant).loads
          (drained_few c.args.shards.now c.loop-number.next.items n (omega (arith, c.loop-number-test.true)) (c.loop-number.invariant).many c.requires.few_shards);
      within = λ has. c.requires.node_in;
      steady = λ has. c.requires.steady a there has;
    }

pub returns-in-None-clause-stuck : goal.returns-in-None-clause-stuck
returns-in-None-clause-stuck c =
    let n = c.loop-number.number in
    let a = c.index-shards-number.result in
    drained_stuck c.args.instances.now c.args.version c.args.node c.args.shards.now c.loop-number.next.items c.loop-number.loads.items n a (at_index c.args.shards.now n a c.loop-number-test.true c.index-shards-number.is)
    (subst (λ (o : Option Shard). IfNone o (Has c.args.node a × ((to : ℕ) → ¬ MayTake c.args.instances.now a c.args.node to))) c.in-None.is c.in_ok-moved.ensures.stuck) c.loop-number.invariant
