use Rattle.wire_bytes.proofs.StopLemmas.{one_spelling_stops as it}
use Rattle.wire_bytes.proofs.laws.one_spelling_stops.Goals as goal

pub returns : goal.returns
returns c = it
