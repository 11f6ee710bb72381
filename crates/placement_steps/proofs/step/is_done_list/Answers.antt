use Rattle.std.proofs.Common.{inl, inr, refl, false}
use Rattle.placement_core.specs.Steps.{IsDoneList}
use Rattle.placement_core.proofs.StepLemmas.{no_true}
use Rattle.placement_core.proofs.DoneLemmas.{done_step, done_refused}
use Rattle.placement_steps.proofs.step.is_done_list.Goals as goal
use Rattle.placement_steps.proofs.step.is_done_list.Goals.{then-shard-least-via-then-shard-least, then-shard-least-via-else-shard-least+then-shards-shard}

pub returns-then-shard-least : goal.returns-then-shard-least
returns-then-shard-least c =
    let IsDone = IsDoneList c.args.shards c.args.done.now in
    let refused = done_refused IsDone c.loop-shard.least c.args.shards c.loop-shard.shard-index c.args.done.now (0, 0) c.loop-shard-test.true in
    let none : ¬ IsDone = elim c.then-shard-least.branch as (λ _. ¬ IsDone) [
      | then-shard-least-via-then-shard-least w ↦ refused (inl w.if-shard-least.true) c.loop-shard.invariant
      | then-shard-least-via-else-shard-least+then-shards-shard w ↦ refused (inr w.if-shards-shard.true) c.loop-shard.invariant
    ] in
    (λ t. absurd (no_true false refl t), λ h. absurd (none h))

pub loop-shard-preserved : goal.loop-shard-preserved
loop-shard-preserved c = done_step (IsDoneList c.args.shards c.args.done.now) c.loop-shard.least c.args.shards c.loop-shard.shard-index c.args.done.now (0, 0) c.loop-shard-test.true c.if-shard-least.false c.if-shards-shard.false c.loop-shard.invariant
