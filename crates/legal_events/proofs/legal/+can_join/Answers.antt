use Rattle.std.proofs.Common.{◌∙◌, List, refl, subst, IsTrue, ◌↔◌, false, take, drop, length, ◌-◌}
use Rattle.m3_model.specs.declared.point.Point.{Point}
use Rattle.placement_core.proofs.ListLemmas.{at_index}
use Rattle.placement_core.proofs.StepLemmas.{no_true}
use Rattle.legal_events.specs.Fetches.{CanJoin}
use Rattle.legal_events.proofs.LegalLemmas.{end_decided, join_here, join_next, join_none}
use Rattle.legal_events.proofs.legal.+can_join.Goals as goal

pub returns-in-empty : goal.returns-in-empty
returns-in-empty t c =
    let is = end_decided c.args.since.now c.args.fetch.now c.args.ns c.args.nodes.now c.args.so_far.now c.args.joined.now c.in-empty.len_below (c.are_reached.ensures.0 c.if-not-are_reached.false) in
    (λ e. is.0 (c.are_among.ensures.0 e), λ h. c.are_among.ensures.1 (is.1 h))

pub returns-then-branch : goal.returns-then-branch
returns-then-branch t c =
    let since = c.args.since.now in
    let event = c.event-item.result in
    let at = at_index since c.loop-event.event-index event c.loop-event-test.true c.event-item.is in
    let points_are = c.deref.ensures.value ∙ c.in_ok-points-in-len1-up.ensures in
    let rest = take (length c.args.nodes.now - 1) (drop 1 c.args.nodes.now) in
    let told = subst (λ (ps : List Point). IsTrue c.in_ok-can_join-in-len1-up.field-0 ↔ CanJoin since c.args.fetch.now c.args.ns rest ps c.args.joined.now) points_are c.in_ok-can_join-in-len1-up.ensures in (
      λ e. join_here since c.args.fetch.now c.args.ns c.args.nodes.now c.args.so_far.now c.args.joined.now c.in-len1-up.len_at_least c.loop-event.event-index event c.in-Some.answer.now at c.in-Some.ensures (told.0 c.if-branch.true),
      λ h. refl,
    )

pub loop-event-preserved : goal.loop-event-preserved
loop-event-preserved t c =
    let since = c.args.since.now in
    let event = c.event-item.result in
    let at = at_index since c.loop-event.event-index event c.loop-event-test.true c.event-item.is in
    let points_are = c.deref.ensures.value ∙ c.in_ok-points-in-len1-up.ensures in
    let rest = take (length c.args.nodes.now - 1) (drop 1 c.args.nodes.now) in
    let told = subst (λ (ps : List Point). IsTrue c.in_ok-can_join-in-len1-up.field-0 ↔ CanJoin since c.args.fetch.now c.args.ns rest ps c.args.joined.now) points_are c.in_ok-can_join-in-len1-up.ensures in
    join_next since c.args.fetch.now c.args.ns c.args.nodes.now c.args.so_far.now c.args.joined.now c.in-len1-up.len_at_least c.loop-event.event-index event c.in-Some.answer.now at c.in-Some.ensures
    (λ h. no_true c.in_ok-can_join-in-len1-up.field-0 c.if-branch.false (told.1 h)) c.loop-event.invariant

pub returns-after-loop-event : goal.returns-after-loop-event
returns-after-loop-event t c = (
  λ e. absurd (no_true false refl e),
  λ h. absurd (join_none c.args.since.now c.args.fetch.now c.args.ns c.args.nodes.now c.args.so_far.now c.args.joined.now c.in-len1-up.len_at_least c.loop-event.event-index c.loop-event-test.false c.loop-event.invariant h),
)
