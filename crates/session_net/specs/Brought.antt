-- What a message of a call leaves of the replicas.
use Rattle.std.specs.Prelude.{ℕ, ◌≤◌, List, length, Result}
use Rattle.m3_model.specs.declared.act.Fate.{Fate}
use Rattle.m3_model.specs.declared.reason.Reason.{Reason}
use Rattle.replica_calls.specs.m3_outside.DiskState.{DiskState}
use Rattle.replica_calls.specs.cluster_core.declared.event.Event.{Event}
use Rattle.replica_calls.specs.cluster_core.declared.event.StepCall.{StepCall}
use Rattle.replica_calls.specs.cluster_core.declared.event.StepReply.{StepReply}
use Rattle.replica_calls.specs.Calls.{Tracked}
use Rattle.session_net.specs.Messages.{IsDelivery, IsHeard}
use Rattle.session_net.specs.Runs.{Ran}

-- what one delivery brought
pub record Delivered {D X : Type 0} (state : D → DiskState) (ok : X → StepReply) (n s : ℕ) (c : StepCall) (said : Result X Reason) (old new : Tracked D) : Type 0 where
  pub more : List Event
  pub is : IsDelivery ok n s c said more
  pub few : length more ≤ 2
  pub ran : Ran state old more new

-- what a message brought
pub record Brought {D X : Type 0} (state : D → DiskState) (ok : X → StepReply) (f : Fate) (n s : ℕ) (c : StepCall) (said : Result X Reason) (old new : Tracked D) : Type 0 where
  pub more : List Event
  pub is : IsHeard ok f n s c said more
  pub few : length more ≤ 4
  pub ran : Ran state old more new
