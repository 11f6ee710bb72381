use Rattle.join_laws.proofs.PeerLives.{boot-refused, cut-refused, notowned-refused, past-refused, stale-refused}
use Rattle.join_laws.proofs.peers.reason_of_a_call.Goals as goal

pub returns-clause-past : goal.returns-clause-past
returns-clause-past c = past-refused

pub returns-clause-cut : goal.returns-clause-cut
returns-clause-cut c = cut-refused

pub returns-clause-stale : goal.returns-clause-stale
returns-clause-stale c = stale-refused

pub returns-clause-boot : goal.returns-clause-boot
returns-clause-boot c = boot-refused

pub returns-clause-notowned : goal.returns-clause-notowned
returns-clause-notowned c = notowned-refused
