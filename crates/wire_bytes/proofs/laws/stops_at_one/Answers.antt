use Rattle.wire_bytes.proofs.StopLemmas.{stops_at_one as it}
use Rattle.wire_bytes.proofs.laws.stops_at_one.Goals as goal

pub returns : goal.returns
returns c = it
