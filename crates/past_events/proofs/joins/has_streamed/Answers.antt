use Rattle.std.proofs.Common.{refl}
use Rattle.placement_core.proofs.ListLemmas.{at_index}
use Rattle.placement_core.proofs.StepLemmas.{no_true}
use Rattle.cluster_core.specs.Joins.{BeganWith, HasFenced}
use Rattle.past_events.proofs.RestLemmas.{after_next, after_here}
use Rattle.past_events.proofs.joins.has_streamed.Goals as goal
use Rattle.past_events.proofs.joins.has_streamed.Goals.{else-began_with-via-then-began_with+in_ok-has_fenced+else-branch, else-began_with-via-else-began_with}

pub returns-then-branch : goal.returns-then-branch
returns-then-branch c =
    let past = c.args.past.now in
    let event = c.index-past-position.result in
    let at = at_index past c.loop-position.position event c.loop-position-test.true c.index-past-position.is in (
      λ t. after_here (BeganWith c.args.node c.args.shard c.args.tenure) (HasFenced c.args.shard c.args.peer c.args.node c.args.tenure) past c.loop-position.position event at
          (c.began_with.ensures.0 c.if-began_with.true) (c.in_ok-has_fenced.ensures.0 c.if-branch.true) c.loop-position.invariant,
      λ h. refl,
    )

pub loop-position-preserved : goal.loop-position-preserved
loop-position-preserved c =
    let past = c.args.past.now in
    let event = c.index-past-position.result in
    let at = at_index past c.loop-position.position event c.loop-position-test.true c.index-past-position.is in
    let next = after_next (BeganWith c.args.node c.args.shard c.args.tenure) (HasFenced c.args.shard c.args.peer c.args.node c.args.tenure) past c.loop-position.position event at in
    elim c.else-began_with.branch [
      | else-began_with-via-then-began_with+in_ok-has_fenced+else-branch w ↦ next (λ h. no_true w.in_ok-has_fenced.field-0 w.if-branch.false (w.in_ok-has_fenced.ensures.1 h.1)) c.loop-position.invariant
      | else-began_with-via-else-began_with w ↦ next (λ h. no_true c.began_with.result w.if-began_with.false (c.began_with.ensures.1 h.0)) c.loop-position.invariant
    ]
