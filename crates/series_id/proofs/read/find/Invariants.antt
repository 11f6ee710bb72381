use Rattle.std.proofs.Common.{◌≤◌, length, IsTrue, ◌↔◌}
use Rattle.m3_model.specs.Members.{IsIn}
use Rattle.m3_model.specs.declared.limits.TheConstants.{MOST_ID_BYTES}
use Rattle.series_id.specs.Positions.{IsReading}
use Rattle.series_id.proofs.Walks.{left}
use Rattle.series_id.proofs.read.find.Given as goal

abbrev pub invariant-loop-position : goal.invariant-loop-position
invariant-loop-position l = record { short : length l.text ≤ MOST_ID_BYTES; reads : IsReading (λ tags. IsTrue l.found ↔ IsIn tags (l.name, l.value)) l.text l.position }

abbrev pub decreases-loop-position : goal.decreases-loop-position
decreases-loop-position l = left l.position
