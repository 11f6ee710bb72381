use Rattle.line_tracks.proofs.calls.DeliverLemmas.{nothing_serves, nothing_tells}
use Rattle.line_tracks.proofs.call_laws.nothing_tells.Goals as goal

pub returns-clause-tells : goal.returns-clause-tells
returns-clause-tells c = nothing_tells

pub returns-clause-serves : goal.returns-clause-serves
returns-clause-serves c = nothing_serves
