-- How often the disk of a slot failed in its steps, and that its count of faults rose by as much.
use Rattle.std.specs.Prelude.{◌≡◌, ℕ, List, [], Some, None, Bool, true, false, count_by}
use Rattle.std.specs.FinMap as finite
use Rattle.m3_model.specs.declared.reason.Reason.TheVariants as reason
use Rattle.m3_outside.specs.Causes.{RoseBy}
use Rattle.m3_outside.specs.DiskState.{DiskState}
use Rattle.cluster_core.specs.declared.event.Event.{Event}
use Rattle.cluster_core.specs.declared.event.StepReply.{StepReply}
use Rattle.cluster_core.specs.declared.event.StepReply.TheVariants as reply
use Rattle.node_calls.specs.replica_exchange.declared.member.Member.{Member}
use Rattle.node_calls.specs.replica_exchange.declared.slot.Slot.{Slot}
use Rattle.node_calls.specs.replica_calls.Calls.{Tracked}
use Rattle.node_calls.specs.session_net.Runs.{Ran, Step, steps_of}

-- the disk failed in a step that was replied to so
abbrev pub is_failure : StepReply → Bool
is_failure (reply.Refused reason.Disk) = true
is_failure _ = false

-- in how many of these steps it failed
abbrev pub failures_in : List Step → ℕ
failures_in steps = count_by (λ step. is_failure step.reply) steps

-- the count of the replica's disk rose by at least as much since the replica was made
abbrev pub CountsFailures : {D : Type 0} → (D → DiskState) → List Step → Member D → Type 0
CountsFailures state steps m = RoseBy (failures_in steps) (state (m.first).value).faults (state m.machine.disk).faults

-- a slot without a replica took none of these steps
abbrev pub OnlyReplicasStep : {D : Type 0} → Tracked D → List Event → Type 0
OnlyReplicasStep t events = (s : Slot) → finite.get t.members s ≡ None → steps_of s events ≡ []

-- each replica's disk counts the failures of its slot in the whole list, which has no steps of other slots
pub record CountsFaults {D : Type 0} (state : D → DiskState) (t : Tracked D) : Type 0 where
  pub counts : (s : Slot) (m : Member D) → finite.get t.members s ≡ Some m → CountsFailures state (steps_of s t.events) m
  pub others : OnlyReplicasStep t t.events

-- ---- laws

-- What comes to the list is counted with it.
abbrev pub CountGoesOn : {D : Type 0} → (D → DiskState) → Tracked D → Type 0
CountGoesOn {D} state old = (new : Tracked D) (more : List Event) → CountsFaults state old → Ran state old more new → OnlyReplicasStep old more → CountsFaults state new

-- A slot that took none of the steps has its replica, or none, as before.
abbrev pub OtherSlotsStay : {D : Type 0} → (D → DiskState) → Tracked D → Type 0
OtherSlotsStay {D} state old = (new : Tracked D) (more : List Event) (s : Slot) → Ran state old more new → steps_of s more ≡ [] → finite.get new.members s ≡ finite.get old.members s
