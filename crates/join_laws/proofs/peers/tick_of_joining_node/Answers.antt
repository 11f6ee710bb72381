use Rattle.join_laws.proofs.PeerLives.{tick_boot-caused, tick_fence-refused, tick_owner-refused}
use Rattle.join_laws.proofs.peers.tick_of_joining_node.Goals as goal

pub returns-clause-boot : goal.returns-clause-boot
returns-clause-boot c = tick_boot-caused

pub returns-clause-notowned : goal.returns-clause-notowned
returns-clause-notowned c = tick_owner-refused

pub returns-clause-stale : goal.returns-clause-stale
returns-clause-stale c = tick_fence-refused
