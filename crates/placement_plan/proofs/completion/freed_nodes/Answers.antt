use Rattle.std.proofs.Common.{◌≡◌, cond, ℕ, true, false, Bool, inl, inr, ◌↔◌, IsTrue, refl}
use Rattle.placement_core.specs.m3_model.declared.placement.Instance.{Instance}
use Rattle.placement_core.proofs.StepLemmas.{no_true}
use Rattle.placement_plan.specs.Plans.{GivesTo, IsFreed}
use Rattle.placement_plan.proofs.PlaceLemmas.{made_push}
use Rattle.placement_plan.proofs.completion.freed_nodes.Goals as goal

freed_by : (Freed : ℕ → Type 0) (n : ℕ) (a b : Instance) (test : Bool) → IsTrue test ↔ Freed n → b ≡ cond test (record a { drained = false }) a → IsFreed Freed n a b
freed_by Freed n a b true h e = inl (h.0 refl, e)
freed_by Freed n a b false h e = inr (λ f. no_true false refl (h.1 f), e)

pub loop-number-preserved : goal.loop-number-preserved
loop-number-preserved c =
    let Freed = GivesTo c.args.shards.now c.args.node in
    made_push (IsFreed Freed) c.args.instances.now c.loop-number.next.items c.push.new.self.items c.loop-number.number c.index-instances-number.result c.in_ok-freed_node.field-0
    c.in_ok-push.ensures.items c.loop-number-test.true c.index-instances-number.is (freed_by Freed c.loop-number.number c.index-instances-number.result c.in_ok-freed_node.field-0 c.gives_to-is_freed.result c.gives_to-is_freed.ensures c.in_ok-freed_node.ensures) c.loop-number.invariant
