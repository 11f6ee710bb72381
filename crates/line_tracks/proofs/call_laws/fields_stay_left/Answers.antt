use Rattle.line_tracks.proofs.calls.KeepLemmas.{left_as_before, left_by_delivery, left_by_write}
use Rattle.line_tracks.proofs.call_laws.fields_stay_left.Goals as goal

pub returns-clause-same_bag : goal.returns-clause-same_bag
returns-clause-same_bag g c = left_as_before c.args.net.now

pub returns-clause-delivery : goal.returns-clause-delivery
returns-clause-delivery g c = left_by_delivery c.args.net.now

pub returns-clause-write : goal.returns-clause-write
returns-clause-write g c = left_by_write c.args.net.now
