use Rattle.std.proofs.Common.{◌≡◌, ◌↔◌, ◌+◌, ◌++◌, ◌∷◌, ◌∙◌, [], List, Some, Option, ap, sym, subst, refl, false, drop}
use Rattle.m3_model.specs.declared.point.Key.{Key}
use Rattle.placement_core.proofs.ListLemmas.{at_index}
use Rattle.placement_core.proofs.StepLemmas.{no_true}
use Rattle.past_events.specs.Joining.{IsNext, IsNoNext}
use Rattle.cluster_core.specs.Joins.{HasCover}
use Rattle.past_events.proofs.CoverLemmas.{FromSome, stay_on, grow_on, end_on, none_on}
use Rattle.past_events.proofs.joins.has_cover.Goals as goal
use Rattle.past_events.proofs.joins.has_cover.Goals.{in-Some+in-Some-next+in_ok-copy-in-Some-next+in_ok-push-in-Some-next, in_default}

pub returns-in-None : goal.returns-in-None
returns-in-None c =
    let later = c.args.later.now in
    let keys = c.loop-event.keys.items in
    let i = c.loop-event.event-index in
    let e = c.event-item.result in
    let page = c.in-Some.page.now in
    let at = at_index later i e c.loop-event-test.true c.event-item.is in
    let is = subst (λ (ks : List (Option Key)). IsNext c.args.shard c.args.peer c.args.node c.args.since.now ks e page) c.deref.ensures.value c.in-Some.ensures in
    (λ t. end_on c.args.shard c.args.peer c.args.node c.args.since.now keys later i e page at is c.in-None.is c.loop-event.invariant, λ h. refl)

pub loop-event-preserved : goal.loop-event-preserved
loop-event-preserved c =
    let later = c.args.later.now in
    let keys = c.loop-event.keys.items in
    let i = c.loop-event.event-index in
    let e = c.event-item.result in
    let at = at_index later i e c.loop-event-test.true c.event-item.is in
    let Goal : List (Option Key) → Type 0 = λ ks. HasCover c.args.shard c.args.peer c.args.node c.args.since.now later ↔ FromSome c.args.shard c.args.peer c.args.node c.args.since.now ks (drop (i + 1) later) in
    elim c.match-next_page.branch as (λ _. Goal c.match-next_page.keys.items) [
      | in-Some+in-Some-next+in_ok-copy-in-Some-next+in_ok-push-in-Some-next w ↦
          let page = w.in-Some.page.now in
          let is = subst (λ (ks : List (Option Key)). IsNext c.args.shard c.args.peer c.args.node c.args.since.now ks e page) c.deref.ensures.value w.in-Some.ensures in
          let grown : c.match-next_page.keys.items ≡ keys ++ Some w.in-Some-next.next ∷ [] =
          ap (λ v. v.items) w.keys-is ∙ w.in_ok-push-in-Some-next.ensures.items ∙ ap (λ k. keys ++ Some k ∷ []) w.in_ok-copy-in-Some-next.ensures in
          subst Goal (sym grown) (grow_on c.args.shard c.args.peer c.args.node c.args.since.now keys later i e page w.in-Some-next.next at is w.in-Some-next.is c.loop-event.invariant)
      | in_default w ↦
          let none = subst (λ (ks : List (Option Key)). IsNoNext c.args.shard c.args.peer c.args.node c.args.since.now ks e) c.deref.ensures.value w.in_default.ensures in
          subst Goal (sym (ap (λ v. v.items) w.keys-is)) (stay_on c.args.shard c.args.peer c.args.node c.args.since.now keys later i e at none c.loop-event.invariant)
    ]

pub returns : goal.returns
returns c = (
  λ t. absurd (no_true false refl t),
  λ h. absurd (none_on c.args.shard c.args.peer c.args.node c.args.since.now c.loop-event.keys.items c.args.later.now c.loop-event.event-index c.loop-event-test.false c.loop-event.invariant h),
)
