-- What an act that makes no placement leaves of the slots of a cluster that stands.
use Rattle.std.specs.Prelude.{◌≡◌, List, [], ◌++◌, None, Bool, true, false}
use Rattle.std.specs.FinMap as finite
use Rattle.m3_model.specs.declared.act.Act.{Act}
use Rattle.m3_model.specs.declared.act.Act.TheVariants as act
use Rattle.m3_model.specs.declared.answer.Answer.{Answer}
use Rattle.m3_outside.specs.DiskState.{DiskState}
use Rattle.m3_outside.specs.declared.disk.Disk.{Ghosts}
use Rattle.cluster_core.specs.declared.event.Event.{Event}
use Rattle.node_calls.specs.replica_exchange.declared.call_id.CallId.{CallId}
use Rattle.node_calls.specs.replica_exchange.declared.slot.Slot.{Slot}
use Rattle.node_calls.specs.session_net.Runs.{steps_of}
use Rattle.node_calls.specs.cluster_members.declared.members.Members.{Members}
use Rattle.node_calls.specs.Halts.{HaveSameSlots}
use Rattle.line_tracks.specs.tracks.Acts.{Does}

-- the act bootstraps a node, which may end moves
abbrev pub is_bootstrap : Act → Bool
is_bootstrap (act.Bootstrap node shard) = true
is_bootstrap _ = false

-- the slots stay, the same ones have replicas, events only came, of which slots without a replica have no step, and the same placements are kept
pub record KeepsSlots {D : Type 0} {G : Ghosts D} (old new : Members D G) : Type 0 where
  pub slots : new.slots.items ≡ old.slots.items
  pub past : new.past.items ≡ old.past.items
  pub place : new.net.state.place ≡ old.net.state.place
  pub came : (more : List Event) × (new.net.replicas.events ≡ old.net.replicas.events ++ more)
  pub only : (s : Slot) → finite.get old.net.replicas.members s ≡ None → steps_of s came.0 ≡ []
  pub same : HaveSameSlots old.net.replicas new.net.replicas

-- So it is after each act other than these and `init`, whatever it is answered.
abbrev pub ActsKeepSlots : {D : Type 0} {G : Ghosts D} → (D → DiskState) → Members D G → Type 0
ActsKeepSlots {D} {G} state old = (id : CallId) (a : Act) (b : Answer) (new : Members D G) → is_bootstrap a ≡ false → Does state id old a b new → KeepsSlots old new
