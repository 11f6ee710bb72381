use Rattle.std.proofs.Common.{subst, sym, IsTrue, Option, ℕ}
use Rattle.placement_core.specs.Steps.{IsShardStep, IsEndOf, Ends}
use Rattle.placement_core.proofs.ListLemmas.{IsIn-from_Any, Any-from_IsIn}
use Rattle.placement_core.proofs.StepLemmas.{step_decided}
use Rattle.placement_steps.proofs.shard_step.is_shard_step.Goals as goal
use Rattle.placement_steps.proofs.shard_step.is_shard_step.Goals.{then-are_same, else-are_same}

pub returns-in-Some : goal.returns-in-Some
returns-in-Some c =
    let Step : Option ℕ → Type 0 = IsShardStep c.args.version c.args.old.now c.args.next.now in
    let IsEnd = IsEndOf c.args.old.now c.args.next.now c.in-Some.to in (
      λ t. subst Step (sym c.in-Some.is) (IsIn-from_Any IsEnd c.args.old.now (c.ends.ensures.0 t)),
      λ s. let h : Ends c.args.old.now c.args.next.now c.in-Some.to = subst Step c.in-Some.is s in c.ends.ensures.1 (Any-from_IsIn IsEnd c.args.old.now h.0 h.1 h.2),
    )

pub returns-else-begins : goal.returns-else-begins
returns-else-begins c =
    let old = c.args.old.now in
    let next = c.args.next.now in
    elim c.if-are_same.branch [
      | then-are_same w ↦ cc
      | else-are_same w ↦ subst (λ d. (IsTrue c.cancels.result → IsShardStep c.args.version old next d) × (IsShardStep c.args.version old next d → IsTrue c.cancels.result)) (sym c.in-None.is)
          (step_decided c.args.version old next c.are_same.result w.begins.result c.cancels.result c.are_same.ensures w.begins.ensures c.cancels.ensures w.if-are_same.false (cc))
    ]
