use Rattle.std.proofs.Common.{◌≡◌, ◌+◌, ◌*◌, ◌≤◌, List, length, map, take, vec_len}
use Rattle.std.specs.Prelude.{⊤, Result}
use Rattle.std.specs.Vec.{vec_capacity}
use Rattle.m3_model.specs.declared.reason.Reason.{Reason}
use Rattle.session_net.specs.cluster_core.declared.event.Event.{Event}
use Rattle.net_plan.specs.declared.late_write.LateWrite.{LateWrite}
use Rattle.session_net.specs.Deliveries.{known, outcome_of, AreDelivered}
use Rattle.session_net.specs.Runs.{Ran}
use Rattle.session_writes.proofs.deliver.put_late.Given as goal

abbrev pub invariant-loop-one : goal.invariant-loop-one
invariant-loop-one g l = record {
  room : vec_len l.outcomes + length l.late ≤ vec_capacity l.outcomes + l.one-index;
  deliveries : List (LateWrite × Result ⊤ Reason);
  puts : List Event;
  are : AreDelivered l.rules (known l.rules (take l.one-index l.late)) deliveries puts;
  ran : Ran g.D.Disk.state l.fn.replicas puts l.replicas;
  few : length puts ≤ 2 * l.one-index;
  outcomes_are : l.outcomes.items ≡ map outcome_of deliveries;
}
