use Rattle.std.proofs.Common.{refl}
use Rattle.placement_core.proofs.ListLemmas.{at_index}
use Rattle.placement_core.proofs.StepLemmas.{no_true}
use Rattle.cluster_core.specs.Joins.{FencedAt, HasCover}
use Rattle.past_events.proofs.RestLemmas.{after_next, after_here}
use Rattle.past_events.proofs.joins.has_fenced.Goals as goal
use Rattle.past_events.proofs.joins.has_fenced.Goals.{else-fenced_at-via-then-fenced_at+in_ok-has_cover+else-branch, else-fenced_at-via-else-fenced_at}

pub returns-then-branch : goal.returns-then-branch
returns-then-branch c =
    let since = c.args.since.now in
    let event = c.index-since-position.result in
    let at = at_index since c.loop-position.position event c.loop-position-test.true c.index-since-position.is in (
      λ t. after_here (FencedAt c.args.peer c.args.shard c.args.tenure) (HasCover c.args.shard c.args.peer c.args.node c.args.since.now) since c.loop-position.position event at
          (c.fenced_at.ensures.0 c.if-fenced_at.true) (c.in_ok-has_cover.ensures.0 c.if-branch.true) c.loop-position.invariant,
      λ h. refl,
    )

pub loop-position-preserved : goal.loop-position-preserved
loop-position-preserved c =
    let since = c.args.since.now in
    let event = c.index-since-position.result in
    let at = at_index since c.loop-position.position event c.loop-position-test.true c.index-since-position.is in
    let next = after_next (FencedAt c.args.peer c.args.shard c.args.tenure) (HasCover c.args.shard c.args.peer c.args.node c.args.since.now) since c.loop-position.position event at in
    elim c.else-fenced_at.branch [
      | else-fenced_at-via-then-fenced_at+in_ok-has_cover+else-branch w ↦ next (λ h. no_true w.in_ok-has_cover.field-0 w.if-branch.false (w.in_ok-has_cover.ensures.1 h.1)) c.loop-position.invariant
      | else-fenced_at-via-else-fenced_at w ↦ next (λ h. no_true c.fenced_at.result w.if-fenced_at.false (c.fenced_at.ensures.1 h.0)) c.loop-position.invariant
    ]
