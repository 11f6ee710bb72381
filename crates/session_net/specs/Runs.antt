-- What a call leaves of the replicas: the list of events grew, and each machine took the steps that stand for its slot in what came.
use Rattle.std.specs.Prelude.{◌≡◌, ℕ, List, [], ◌∷◌, ◌++◌, Option, Some, None, nat_eq, ◌&&◌, if◌then◌else◌}
use Rattle.std.specs.FinMap as finite
use Rattle.std.specs.List.{filter_map}
use Rattle.replica_calls.specs.m3_outside.DiskState.{DiskState}
use Rattle.replica_calls.specs.cluster_core.declared.event.Event.{Event}
use Rattle.replica_calls.specs.cluster_core.declared.event.Event.TheVariants as event
use Rattle.replica_calls.specs.cluster_core.declared.event.StepCall.{StepCall}
use Rattle.replica_calls.specs.cluster_core.declared.event.StepReply.{StepReply}
use Rattle.replica_calls.specs.Machines.{MachineState}
use Rattle.replica_calls.specs.Steps.{IsStep}
use Rattle.replica_calls.specs.Member.{Member}
use Rattle.replica_calls.specs.Slot.{Slot}
use Rattle.replica_calls.specs.Calls.{Tracked}

-- the slot of a node for a shard
abbrev pub slot_at : ℕ → ℕ → Slot
slot_at node shard = record { shard = shard; node = node }

-- A call of a machine with its reply.
pub record Step : Type 0 where
  pub call : StepCall
  pub reply : StepReply

-- the step of this slot that an event is
abbrev pub step_in : Slot → Event → Option Step
step_in slot (event.Step n s c a) = if nat_eq n slot.node && nat_eq s slot.shard then Some (record { call = c; reply = a }) else None
step_in slot _ = None

-- the steps of the slot among these events, in their order
abbrev pub steps_of : Slot → List Event → List Step
steps_of slot events = filter_map (step_in slot) events

-- a machine takes these steps, one after the other
abbrev pub TakesSteps : {D : Type 0} → (D → DiskState) → List Step → MachineState D → MachineState D → Type 0
TakesSteps state [] old new = new ≡ old
TakesSteps {D} state (step ∷ steps) old new = (mid : MachineState D) × IsStep state old step.call step.reply mid × TakesSteps state steps mid new

-- the machine of a slot takes these steps, over the disk over which it was made; where there is none, there is none afterwards
abbrev pub IsStepped : {D : Type 0} → (D → DiskState) → List Step → Option (Member D) → Option (Member D) → Type 0
IsStepped state steps None new = new ≡ None
IsStepped {D} state steps (Some old) new = (m : Member D) × (new ≡ Some m) × (m.first ≡ old.first) × TakesSteps state steps old.machine m.machine

-- these events came to the list, and with them the machine of each slot took its steps among them; a slot without a machine has none
pub record Ran {D : Type 0} (state : D → DiskState) (old : Tracked D) (more : List Event) (new : Tracked D) : Type 0 where
  pub grew : new.events ≡ old.events ++ more
  pub stepped : (s : Slot) → IsStepped state (steps_of s more) (finite.get old.members s) (finite.get new.members s)
  pub only : (s : Slot) → finite.get old.members s ≡ None → steps_of s more ≡ []
