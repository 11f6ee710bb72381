use Rattle.std.proofs.Common.{refl}
use Rattle.event_trail.proofs.TrailLemmas.{opened_trail}
use Rattle.event_trail.proofs.trail.Trail.new.Goals as goal

pub invariant_of-result : goal.invariant_of-result
invariant_of-result g c = opened_trail g.D.Disk.state _ _ _ c.opening-past.ensures (c.requires, refl) tt
