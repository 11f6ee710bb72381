use Rattle.std.proofs.Common.{List, All, true, subst, refl}
use Rattle.placement_core.proofs.ListLemmas.{at_index}
use Rattle.cluster_core.specs.Legal.{Legal}
use Rattle.cluster_core.specs.declared.event.Event.{Event}
use Rattle.legal_events.specs.Sumless.{HasNoSums}
use Rattle.legal_events.proofs.LegalLemmas.{legal_more, legal_done}
use Rattle.legal_events.proofs.legal.any_legal.Goals as goal

pub loop-position-preserved : goal.loop-position-preserved
loop-position-preserved c =
    let events = c.as_slice-events.result.now in
    let position = c.loop-position.position in
    let event = c.index-events-position.result in
    let at = at_index events position event c.loop-position-test.true c.index-events-position.is in
    legal_more events position event at (c.in_ok-is_lawful_at.ensures.0 c.if-not-branch.false) c.loop-position.invariant

pub returns-clause-legal : goal.returns-clause-legal
returns-clause-legal c =
    let whole = legal_done c.as_slice-events.result.now c.loop-position.position c.loop-position-test.false c.loop-position.invariant in
    (λ t. subst (λ (events : List Event). Legal true events × All HasNoSums events) c.as_slice-events.ensures whole, λ h. refl)
