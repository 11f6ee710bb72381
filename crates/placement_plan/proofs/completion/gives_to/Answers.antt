use Rattle.std.proofs.Common.{◌≡◌, Some, ap, sym, ◌∙◌, arith, refl, false}
use Rattle.placement_core.specs.Shards.{Shard}
use Rattle.placement_core.proofs.ListLemmas.{at_index, IsIn-from_Any, Any-from_IsIn}
use Rattle.placement_core.proofs.OrderLemmas.{at_in}
use Rattle.placement_core.proofs.StepLemmas.{no_true}
use Rattle.placement_core.specs.m3_model.declared.placement.Assignment.{Assignment}
use Rattle.placement_core.specs.m3_model.declared.placement.ShardState.TheVariants.{Initializing}
use Rattle.placement_plan.specs.Plans.{JoinsFrom}
use Rattle.placement_plan.proofs.PlaceLemmas.{none_all, none_more}
use Rattle.placement_plan.proofs.completion.gives_to.Goals as goal

pub returns-then-joins_from : goal.returns-then-joins_from
returns-then-joins_from c =
    let shard : Shard = c.as_slice.result.now in
    let at = at_index c.args.shards.now c.loop-shard.shard-index c.shard-item.result c.loop-shard-test.true c.shard-item.is ∙ ap Some (sym c.as_slice.ensures) in
    let found = IsIn-from_Any (λ (a : Assignment). (a.node ≡ c.args.node) × (a.state ≡ Initializing) × (a.source ≡ Some c.args.from)) shard (c.joins_from.ensures.0 c.if-joins_from.true) in
    (λ t. (shard, at_in c.args.shards.now c.loop-shard.shard-index shard at, (found.0, found.1, found.2.0, (found.2.1, found.2.2))), λ h. refl)

pub loop-shard-preserved : goal.loop-shard-preserved
loop-shard-preserved c =
    let shard : Shard = c.as_slice.result.now in
    let at = at_index c.args.shards.now c.loop-shard.shard-index c.shard-item.result c.loop-shard-test.true c.shard-item.is ∙ ap Some (sym c.as_slice.ensures) in
    none_more (JoinsFrom c.args.node c.args.from) c.args.shards.now c.loop-shard.shard-index shard at
    (λ h. no_true c.joins_from.result c.if-joins_from.false (c.joins_from.ensures.1 (Any-from_IsIn (λ (a : Assignment). (a.node ≡ c.args.node) × (a.state ≡ Initializing) × (a.source ≡ Some c.args.from)) shard h.0 h.1 (h.2, h.3.0, h.3.1)))) c.loop-shard.invariant

pub returns : goal.returns
returns c = (λ t. absurd (no_true false refl t), λ h. absurd (none_all (JoinsFrom c.args.node c.args.from) c.args.shards.now c.loop-shard.shard-index (omega arith) c.loop-shard.invariant h.0 h.1 h.2))
