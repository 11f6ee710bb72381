use Rattle.std.proofs.Common.{◌≡◌, ap, inl, inr, subst, ◌∙◌}
use Rattle.std.proofs.lemmas.Result.{IfOk-weaker}
use Rattle.placement_core.proofs.StepLemmas.{no_true}
use Rattle.placement_core.specs.Shards.{Shard}
use Rattle.placement_plan.specs.Nodes.{Has}
use Rattle.placement_plan.specs.Choices.{moved}
use Rattle.placement_plan.specs.Plans.{MovesShardTo}
use Rattle.placement_moves.proofs.replacement.moved_shard.Goals as goal

pub returns-then-has_node : goal.returns-then-has_node
returns-then-has_node c =
    let Moved : Shard → Type 0 = λ next. next ≡ moved c.args.version c.args.from c.args.to c.as_slice-then-has_node.result.now in
    let has = subst (Has c.args.from) c.as_slice.ensures (c.has_node.ensures.0 c.if-has_node.true) in
    IfOk-weaker c.moved.result Moved (MovesShardTo c.args.version c.args.from c.args.to c.args.shard.now) (λ next e. inr (has, e ∙ ap (moved c.args.version c.args.from c.args.to) c.as_slice-then-has_node.ensures)) c.moved.ensures

pub returns-else-has_node : goal.returns-else-has_node
returns-else-has_node c =
    let Same : Shard → Type 0 = λ next. next ≡ c.args.shard.now in
    let lacks : ¬ Has c.args.from c.args.shard.now = subst (λ s. ¬ Has c.args.from s) c.as_slice.ensures (λ h. no_true c.has_node.result c.if-has_node.false (c.has_node.ensures.1 h)) in
    IfOk-weaker c.copy.result Same (MovesShardTo c.args.version c.args.from c.args.to c.args.shard.now) (λ next e. inl (lacks, e)) c.copy.ensures
