use Rattle.legal_events.proofs.LegalLemmas.{LegalBelow}
use Rattle.legal_events.proofs.legal.any_legal.Given as goal

abbrev pub invariant-loop-position : goal.invariant-loop-position
invariant-loop-position l = LegalBelow l.events l.position
