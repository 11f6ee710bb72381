use Rattle.peer_streams.proofs.StreamLemmas.{whole_streams_join}
use Rattle.peer_streams.proofs.laws.whole_streams_join.Goals as goal

pub returns : goal.returns
returns c = whole_streams_join
