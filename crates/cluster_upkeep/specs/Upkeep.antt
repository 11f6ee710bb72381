-- What upkeep of a cluster that stands answers, and what that leaves of it.
use Rattle.std.specs.Prelude.{◌≡◌, ℕ, ◌*◌, ◌≤◌, List, map, length}
use Rattle.std.specs.List.{Any, flat_map}
use Rattle.m3_model.specs.Members.{IsIn}
use Rattle.m3_model.specs.declared.answer.Answer.{Answer}
use Rattle.m3_model.specs.declared.answer.Answer.TheVariants as answer
use Rattle.m3_model.specs.declared.answer.StatusLine.{StatusLine}
use Rattle.m3_model.specs.declared.limits.TheConstants.{MOST_NODES, MOST_SHARDS}
use Rattle.m3_model.specs.declared.reason.Reason.{Reason}
use Rattle.m3_outside.specs.DiskState.{DiskState}
use Rattle.m3_outside.specs.declared.disk.Disk.{Ghosts}
use Rattle.placement_core.specs.Shards.{shard_at}
use Rattle.cluster_core.specs.declared.event.StepCall.{StepCall}
use Rattle.node_calls.specs.replica_exchange.MachineCalls.{HasRoom}
use Rattle.node_calls.specs.session_net.Runs.{Ran}
use Rattle.node_calls.specs.transcripts.Sweeps.{AreAllMembers, Entry, done_in, failed_in, slot_of}
use Rattle.node_calls.specs.Members.{Members}
use Rattle.node_calls.specs.Nodes.{KeepsButBoots}
use Rattle.cluster_upkeep.specs.Status.{told_at}
use Rattle.cluster_upkeep.specs.Sweeps.{AreOfFiles, asked_at}

-- the list lacks room for so many events for each replica of the placement, and nothing changed
pub record LacksUpkeepRoom {D : Type 0} {G : Ghosts D} (each : ℕ) (old new : Members D G) : Type 0 where
  pub slots : List (ℕ × ℕ)
  pub members : AreAllMembers old.net.state.place slots
  pub few : length slots ≤ MOST_NODES * MOST_SHARDS
  pub room : ¬ HasRoom (each * length slots) old.net.replicas.events
  pub same : new ≡ old

-- ---- sweeps

-- Each replica of the placement was asked for this, by shard and then by name, and the answer lists what each said. All else stays.
pub record HasSwept {D : Type 0} {G : Ghosts D} (state : D → DiskState) (c : StepCall) (old : Members D G) (done : List (ℕ × ℕ × ℕ)) (failed : List (ℕ × ℕ × Reason)) (new : Members D G) : Type 0 where
  pub entries : List Entry
  pub members : AreAllMembers old.net.state.place (map slot_of entries)
  pub few : length entries ≤ MOST_NODES * MOST_SHARDS
  pub ran : Ran state old.net.replicas (flat_map (asked_at c) entries) new.net.replicas
  pub files : AreOfFiles entries
  pub done_are : done ≡ done_in entries
  pub failed_are : failed ≡ failed_in entries
  pub keeps : KeepsButBoots old new

-- the replicas were swept, unless memory is wanted for the answer or the list lacks room
abbrev pub IsSwept : {D : Type 0} {G : Ghosts D} → (D → DiskState) → StepCall → Members D G → Answer → Members D G → Type 0
IsSwept state c old (answer.Swept done failed) new = HasSwept state c old done failed new
IsSwept state c old answer.Memory new = new ≡ old
IsSwept state c old answer.Full new = LacksUpkeepRoom 2 old new
IsSwept state c old _ new = ⊥

-- ---- status

-- Each replica of the placement reported, by shard and then by name, and the answer has a line of each, with the state in which its node has the shard. All else
-- stays.
pub record HasTold {D : Type 0} {G : Ghosts D} (state : D → DiskState) (old : Members D G) (now : ℕ) (lines : List StatusLine) (version : ℕ) (new : Members D G) : Type 0 where
  pub now_is : now ≡ old.net.state.rules.now
  pub version_is : version ≡ old.net.state.place.version
  pub members : AreAllMembers old.net.state.place (map (λ line. (line.node, line.shard)) lines)
  pub few : length lines ≤ MOST_NODES * MOST_SHARDS
  pub states : (line : StatusLine) → IsIn lines line → Any (λ a. (a.node ≡ line.node) × (a.state ≡ line.state)) (shard_at old.net.state.place line.shard)
  pub ran : Ran state old.net.replicas (flat_map told_at lines) new.net.replicas
  pub keeps : KeepsButBoots old new

-- the replicas reported, unless memory is wanted for the answer or the list lacks room
abbrev pub IsTold : {D : Type 0} {G : Ghosts D} → (D → DiskState) → Members D G → Answer → Members D G → Type 0
IsTold state old (answer.Status now lines version) new = HasTold state old now lines version new
IsTold state old answer.Memory new = new ≡ old
IsTold state old answer.Full new = LacksUpkeepRoom 1 old new
IsTold state old _ new = ⊥
