use Rattle.event_trail.proofs.Decides.{told_by_code}
use Rattle.event_trail.proofs.apart.tell_apart.Goals as goal

pub returns : goal.returns
returns g c x y = told_by_code g.row.E.coded x y
