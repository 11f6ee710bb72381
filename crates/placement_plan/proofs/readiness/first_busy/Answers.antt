use Rattle.std.proofs.Common.{◌≡◌, false, true, Bool, refl, arith}
use Rattle.placement_core.specs.Shards.{Shard, is_steady}
use Rattle.placement_core.proofs.ListLemmas.{at_index}
use Rattle.placement_plan.specs.Nodes.{Has}
use Rattle.placement_core.proofs.OrderLemmas.{at_in}
use Rattle.placement_plan.proofs.PlaceLemmas.{none_all, none_more}
use Rattle.placement_plan.proofs.readiness.first_busy.Goals as goal

pub busy_in-requires : goal.busy_in-requires
busy_in-requires c =
    c.requires.shards c.index-shards-number.result
    (at_in c.args.shards.now c.loop-number.number c.index-shards-number.result (at_index c.args.shards.now c.loop-number.number c.index-shards-number.result c.loop-number-test.true c.index-shards-number.is))

pub returns-in-Some-clause-found : goal.returns-in-Some-clause-found
returns-in-Some-clause-found c =
    let shard = c.index-shards-number.result in
    let found = c.in-Some.ensures.found in
    record {
      first = record { shard = shard; stands = at_index c.args.shards.now c.loop-number.number shard c.loop-number-test.true c.index-shards-number.is; holds = found.0; first = c.loop-number.invariant };
      joins = found.1;
    }

pub loop-number-preserved : goal.loop-number-preserved
loop-number-preserved c =
    let shard = c.index-shards-number.result in
    none_more (λ (s : Shard). Has c.args.node s × (is_steady s ≡ false)) c.args.shards.now c.loop-number.number shard
    (at_index c.args.shards.now c.loop-number.number shard c.loop-number-test.true c.index-shards-number.is) c.in-None.ensures.none c.loop-number.invariant

steady_by : (b : Bool) → ¬ (b ≡ false) → b ≡ true
steady_by true h = refl
steady_by false h = absurd (h refl)

pub returns-clause-none : goal.returns-clause-none
returns-clause-none c = λ shard m has.
    steady_by (is_steady shard) (λ e. none_all (λ (s : Shard). Has c.args.node s × (is_steady s ≡ false)) c.args.shards.now c.loop-number.number (omega arith) c.loop-number.invariant shard m (has, e))
