use Rattle.std.proofs.Common.{◌≤◌, ◌+◌, sym, subst, arith, take}
use Rattle.std.proofs.lemmas.Bool.{ltb-true, lt-ltb}
use Rattle.std.proofs.lemmas.List.{take_all}
use Rattle.placement_core.proofs.ListLemmas.{at_index}
use Rattle.placement_core.proofs.StepLemmas.{no_true}
use Rattle.past_events.proofs.CountLemmas.{Counted, Asking, Answering, counted_here, counted_not, asked_decided}
use Rattle.past_events.proofs.asks.was_asked.Goals as goal
use Rattle.past_events.proofs.asks.was_asked.Goals.{then-is_ask_for, else-is_ask_for, then-position-ge2+then-is_like, else-position-ge2, else-position-ge2-via-then-position-ge2+else-is_like, else-position-ge2-via-else-position-ge2}

pub loop-position-preserved : goal.loop-position-preserved
loop-position-preserved c =
    let past = c.args.past.now in
    let e = c.args.event.now in
    let position = c.loop-position.position in
    let earlier = c.index-past-position.result in
    let was = c.loop-position.invariant in
    let at = at_index past position earlier c.loop-position-test.true c.index-past-position.is in
    let Asks = Counted (Asking e) (take (position + 1) past) c.if-is_ask_for.asks × (c.if-is_ask_for.asks ≤ position + 1) in
    let asks : Asks = elim c.if-is_ask_for.branch as (λ _. Asks) [
      | then-is_ask_for w ↦ (subst (Counted (Asking e) (take (position + 1) past)) (sym w.asks-is) (counted_here (Asking e) past position c.loop-position.asks earlier at (c.is_ask_for.ensures.0 w.if-is_ask_for.true) was.0), omega (arith, was.2, w.asks-is))
      | else-is_ask_for w ↦ (subst (Counted (Asking e) (take (position + 1) past)) (sym w.asks-is) (counted_not (Asking e) past position c.loop-position.asks earlier at (λ h. no_true c.is_ask_for.result w.if-is_ask_for.false (c.is_ask_for.ensures.1 h)) was.0), omega (arith, was.2, w.asks-is))
    ] in
    let Answered = Counted (Answering e) (take (position + 1) past) c.if-position-ge2.answered × (c.if-position-ge2.answered ≤ position + 1) in
    let answered : Answered = elim c.if-position-ge2.branch as (λ _. Answered) [
      | then-position-ge2+then-is_like w ↦
          (subst (Counted (Answering e) (take (position + 1) past)) (sym w.answered-is) (counted_here (Answering e) past position c.loop-position.answered earlier at (w.if-position-ge2.true, w.is_like.ensures.0 w.if-is_like.true) was.1), omega (arith, was.3, w.answered-is))
      | else-position-ge2 w ↦
          let not : ¬ Answering e position earlier = elim w.else-position-ge2.branch as (λ _. ¬ Answering e position earlier) [
            | else-position-ge2-via-then-position-ge2+else-is_like v ↦ λ h. no_true v.is_like.result v.if-is_like.false (v.is_like.ensures.1 h.1)
            | else-position-ge2-via-else-position-ge2 v ↦ λ h. absurd (omega (arith, h.0, v.if-position-ge2.false))
          ] in
          (subst (Counted (Answering e) (take (position + 1) past)) (sym w.answered-is) (counted_not (Answering e) past position c.loop-position.answered earlier at not was.1), omega (arith, was.3, w.answered-is))
    ] in
    (asks.0, answered.0, asks.1, answered.1)

pub returns : goal.returns
returns c =
    let past = c.args.past.now in
    let e = c.args.event.now in
    let whole = take_all c.loop-position.position past c.loop-position-test.false in
    let was = c.loop-position.invariant in
    let told = asked_decided past e c.loop-position.asks c.loop-position.answered (subst (λ xs. Counted (Asking e) xs c.loop-position.asks) whole was.0) (subst (λ xs. Counted (Answering e) xs c.loop-position.answered) whole was.1) in
    (λ t. told.0 (ltb-true c.loop-position.answered c.loop-position.asks t), λ h. lt-ltb c.loop-position.answered c.loop-position.asks (told.1 h))
