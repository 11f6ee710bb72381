use Rattle.replica_calls.proofs.AddLemmas.{added_alone, full_without_room}
use Rattle.replica_calls.proofs.TrackLemmas.{tracked_added}
use Rattle.replica_calls.proofs.replicas.Replicas.add.Goals as goal

pub invariant_of-self : goal.invariant_of-self
invariant_of-self g c = tracked_added g.D.Disk.state c.self.inside.map c.self.inside.trail c.append.new.self c.args.event.now c.append.result c.requires.no_step c.append.ensures.ok c.append.ensures.err c.self.invariant

pub returns-clause-ok : goal.returns-clause-ok
returns-clause-ok g c = rw (← c.self.view_is) (added_alone c.self.inside.trail c.append.new.self c.args.event.now c.append.result c.append.ensures.ok)

pub returns-clause-full : goal.returns-clause-full
returns-clause-full g c = rw (← c.self.view_is) (full_without_room _ _ c.know.ensures.short c.append.ensures.full)
