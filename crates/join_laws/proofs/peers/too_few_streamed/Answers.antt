use Rattle.join_laws.proofs.PeerLives.{down-caused, first-caused, idle-caused, memory-caused}
use Rattle.join_laws.proofs.peers.too_few_streamed.Goals as goal

pub returns-clause-down : goal.returns-clause-down
returns-clause-down c = down-caused

pub returns-clause-memory : goal.returns-clause-memory
returns-clause-memory c = memory-caused

pub returns-clause-idle : goal.returns-clause-idle
returns-clause-idle c = idle-caused

pub returns-clause-first : goal.returns-clause-first
returns-clause-first c = first-caused
