use Rattle.std.proofs.Common.{sym, ◌∙◌}
use Rattle.replica_calls.proofs.MapLemmas.{get_of}
use Rattle.replica_calls.specs.Slots.{slot_cmp}
use Rattle.replica_calls.proofs.replicas.Replicas.get.Goals as goal

pub returns : goal.returns
returns g c = rw (← c.self.view_is) (c.get.ensures.value ∙ sym (get_of slot_cmp c.self.inside.map.entries c.args.slot c.self.invariant.sorted))
