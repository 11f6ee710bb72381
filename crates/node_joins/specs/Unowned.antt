-- Begins that are refused, as the replica doesn't own the tenure.
use Rattle.std.specs.Prelude.{◌≡◌, ℕ, suc, List, ◌++◌, take, Some}
use Rattle.std.specs.FinMap as finite
use Rattle.m3_model.specs.declared.reason.Reason.TheVariants as reason
use Rattle.cluster_core.specs.Lists.{At}
use Rattle.cluster_core.specs.declared.event.Event.{Event}
use Rattle.cluster_core.specs.declared.event.Event.TheVariants as event
use Rattle.cluster_core.specs.declared.event.StepCall.TheVariants as call
use Rattle.cluster_core.specs.declared.event.StepReply.TheVariants as reply
use Rattle.session_net.specs.m3_outside.DiskState.{DiskState}
use Rattle.session_net.specs.replica_calls.Calls.{Tracked}
use Rattle.session_net.specs.replica_calls.Slots.{MemberMap}
use Rattle.session_net.specs.replica_exchange.Exchanges.{ask_of}
use Rattle.session_net.specs.replica_exchange.MachineCalls.{IsMemberOf}
use Rattle.session_net.specs.replica_exchange.declared.member.Member.{Member}
use Rattle.session_net.specs.replica_exchange.declared.slot.Slot.{Slot}
use Rattle.session_net.specs.replica_machine.Boots.{MayBeUnowned}
use Rattle.session_net.specs.Runs.{slot_at}

-- the machine that is the slot's replica after these events, made over its first disk, doesn't own the tenure: it began a higher one, or its files hold one
pub record IsTenureUnowned {D : Type 0} (state : D → DiskState) (members : MemberMap D) (slot : Slot) (past : List Event) (tenure : ℕ) : Type 0 where
  pub was : Member D
  pub there : finite.get members slot ≡ Some was
  pub now : Member D
  pub is : IsMemberOf state slot past now
  pub first : now.first ≡ was.first
  pub unowned : MayBeUnowned state tenure now.machine

-- each begin among these events that is refused as not owned stands behind its Ask, and its replica doesn't own the tenure there
abbrev pub AreUnowned : {D : Type 0} → (D → DiskState) → MemberMap D → List Event → List Event → Type 0
AreUnowned state members past more = (n s tenure j : ℕ) → At more j (event.Step n s (call.Begin tenure) (reply.Refused reason.NotOwned)) → (k : ℕ) × (j ≡ suc k) × At more k (ask_of n s (call.Begin tenure)) × IsTenureUnowned state members (slot_at n s) (past ++ take k more) tenure

-- so it is of the events that came to the list
abbrev pub CameUnowned : {D : Type 0} → (D → DiskState) → Tracked D → Tracked D → Type 0
CameUnowned state old new = (more : List Event) → new.events ≡ old.events ++ more → AreUnowned state old.members old.events more
