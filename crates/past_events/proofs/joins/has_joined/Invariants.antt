use Rattle.past_events.proofs.PeerLemmas.{ArePeers}
use Rattle.past_events.proofs.joins.has_joined.Given as goal

abbrev pub invariant-loop-former : goal.invariant-loop-former
invariant-loop-former l = ArePeers l.past l.assignments l.shard l.node l.tenure l.former-index l.peers.items
