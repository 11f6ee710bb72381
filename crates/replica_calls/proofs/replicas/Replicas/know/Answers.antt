use Rattle.replica_calls.proofs.replicas.Replicas.know.Goals as goal

pub returns-clause-members : goal.returns-clause-members
returns-clause-members g c = rw (← c.self.view_is) c.self.invariant.are
