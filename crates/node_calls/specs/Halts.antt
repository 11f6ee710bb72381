-- What stops and restarts of a node's replicas bring.
use Rattle.std.specs.Prelude.{◌≡◌, ◌≢◌, ◌↔◌, ◌⊎◌, ℕ, List, ◌∷◌, ◌++◌, None, filter, nat_eq}
use Rattle.std.specs.FinMap as finite
use Rattle.std.specs.List.{flat_map}
use Rattle.m3_model.specs.Members.{IsIn}
use Rattle.m3_model.specs.declared.reason.Reason.{Reason}
use Rattle.m3_model.specs.declared.reason.Reason.TheVariants as reason
use Rattle.cluster_members.specs.cluster_core.declared.event.Event.{Event}
use Rattle.cluster_members.specs.cluster_core.declared.event.StepCall.TheVariants as call
use Rattle.cluster_members.specs.cluster_core.declared.event.StepReply.TheVariants as reply
use Rattle.cluster_members.specs.replica_exchange.declared.slot.Slot.{Slot}
use Rattle.cluster_members.specs.replica_calls.Calls.{Tracked}
use Rattle.cluster_members.specs.session_net.Messages.{exchange}

-- ---- slots

-- the slots of a node
abbrev pub slots_of_node : ℕ → List Slot → List Slot
slots_of_node node slots = filter (λ s. nat_eq s.node node) slots

-- each of these slots has a replica
abbrev pub AreManned : {D : Type 0} → List Slot → Tracked D → Type 0
AreManned slots replicas = (s : Slot) → IsIn slots s → finite.get replicas.members s ≢ None

-- the same slots have replicas
abbrev pub HaveSameSlots : {D : Type 0} → Tracked D → Tracked D → Type 0
HaveSameSlots old new = (s : Slot) → finite.get new.members s ≡ None ↔ finite.get old.members s ≡ None

-- ---- stops

-- the replica is asked to stop, and does
abbrev pub stop_at : Slot → List Event
stop_at s = exchange s.node s.shard call.Stop reply.Done

-- ---- restarts

-- the replica is asked to restart, and does
abbrev pub restart_at : Slot → List Event
restart_at s = exchange s.node s.shard call.Restart reply.Done

-- want of memory, or a fault of the disk
abbrev pub IsRestartRefusal : Reason → Type 0
IsRestartRefusal why = (why ≡ reason.Memory) ⊎ (why ≡ reason.Disk)

-- one of these slots couldn't be restarted, those before it were, and no later one was tried: this brought these events
pub record IsUnrestarted (slots : List Slot) (shard : ℕ) (why : Reason) (events : List Event) : Type 0 where
  pub before : List Slot
  pub slot : Slot
  pub later : List Slot
  pub parts : slots ≡ before ++ slot ∷ later
  pub shard_is : slot.shard ≡ shard
  pub refusal : IsRestartRefusal why
  pub are : events ≡ flat_map restart_at before ++ exchange slot.node slot.shard call.Restart (reply.Refused why)
