use Rattle.event_trail.proofs.TrailLemmas.{longer_trail}
use Rattle.event_trail.proofs.trail.Trail.append_reserved.Goals as goal

pub invariant_of-self : goal.invariant_of-self
invariant_of-self g c = longer_trail g.D.Disk.state c.self.inside.len c.self.inside.past c.args.self.now _ c.args.event.now c.self.view_is c.with-longer.ensures c.self.invariant c.requires.lawful c.requires.room
