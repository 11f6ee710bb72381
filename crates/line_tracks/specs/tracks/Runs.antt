-- What replicas did since they were made over their disks, as the whole list tells.
use Rattle.std.specs.Prelude.{◌≡◌, ℕ, List, [], ◌∷◌, Option, Some, true}
use Rattle.std.specs.FinMap as finite
use Rattle.m3_model.specs.declared.placement.Placement.{Placement}
use Rattle.m3_model.specs.declared.reason.Damage.{Damage}
use Rattle.m3_model.specs.declared.reason.Reason.TheVariants as reason
use Rattle.m3_model.specs.declared.rules.MetaState.{MetaState}
use Rattle.m3_model.specs.declared.rules.Rules.{Rules}
use Rattle.m3_model.specs.Members.{IsIn}
use Rattle.m3_outside.specs.Causes.{RoseBy}
use Rattle.m3_outside.specs.Depots.{Depot, TellAll}
use Rattle.m3_outside.specs.DiskState.{DiskState, IsEmpty}
use Rattle.m3_outside.specs.Slots.{Held, MayGive}
use Rattle.m3_outside.specs.declared.slot.DiskSlot.{DiskSlot}
use Rattle.cluster_core.specs.Core.{AgreesWith}
use Rattle.cluster_core.specs.Legal.{Legal}
use Rattle.transcripts.specs.Record.{Record}
use Rattle.cluster_core.specs.declared.event.Event.{Event}
use Rattle.cluster_core.specs.declared.event.Event.TheVariants as event
use Rattle.cluster_core.specs.declared.event.StepCall.{StepCall}
use Rattle.cluster_core.specs.declared.event.StepReply.TheVariants as reply
use Rattle.node_calls.specs.replica_exchange.declared.member.Member.{Member}
use Rattle.node_calls.specs.replica_exchange.declared.slot.Slot.{Slot}
use Rattle.node_calls.specs.replica_calls.Calls.{Tracked, first_member}
use Rattle.node_calls.specs.session_net.Runs.{IsStepped, Ran, Step, steps_of}
use Rattle.first_cluster.specs.Depots.{disk_slot_of}
use Rattle.first_cluster.specs.Bare.{AreBare}
use Rattle.line_tracks.specs.tracks.Failures.{CountsFaults, OnlyReplicasStep, failures_in}
use Rattle.line_tracks.specs.tracks.Lain.{HadLain, no_points}
use Rattle.life_ends.specs.Runs.{OpensAsLeft}

-- the replica was made over the disk that its slot gave of what lay there, and the slot still shows its count
pub record IsMadeOver {D : Type 0} (state : D → DiskState) (lay : DiskSlot → Held D) (depot : Depot D) (s : Slot) (m : Member D) : Type 0 where
  pub disk : D
  pub is_first : m ≡ first_member disk
  pub counted : (state disk).faults ≡ depot.counted (disk_slot_of s)
  pub given : MayGive (λ d. IsEmpty (state d)) (lay (disk_slot_of s)) disk

-- the replica was made so, at the run's beginning or later, and took these steps since
pub record HasRun {D : Type 0} (state : D → DiskState) (lay : DiskSlot → Held D) (depot : Depot D) (s : Slot) (steps : List Step) (m : Member D) : Type 0 where
  pub made : Member D
  pub over : IsMadeOver state lay depot s made
  pub stepped : IsStepped state steps (Some made) (Some m)

-- Two events open the list; and each replica took the steps of its slot in it, which are all steps of the list.
pub record HaveRun {D : Type 0} (state : D → DiskState) (lay : DiskSlot → Held D) (depot : Depot D) (t : Tracked D) : Type 0 where
  pub place : Placement
  pub rules : Rules
  pub later : List Event
  pub opened : t.events ≡ event.Place place [] ∷ event.Clock rules ∷ later
  pub each : (s : Slot) (m : Member D) → finite.get t.members s ≡ Some m → HasRun state lay depot s (steps_of s t.events) m
  pub others : OnlyReplicasStep t t.events

-- no step found damage
abbrev pub HasNoDamage : List Event → Type 0
HasNoDamage events = (n s : ℕ) (c : StepCall) (damage : Damage) → IsIn events (event.Step n s c (reply.Refused (reason.Corrupt damage))) → ⊥

-- the count of a slot's disk rose since the disk was taken by at least as much as it failed in steps
pub record RoseByFailures {D : Type 0} (state : D → DiskState) (depot : Depot D) (t : Tracked D) : Type 0 where
  pub rose : (s : Slot) (m : Member D) → finite.get t.members s ≡ Some m → RoseBy (failures_in (steps_of s t.events)) (depot.counted (disk_slot_of s)) (state m.machine.disk).faults
  pub others : OnlyReplicasStep t t.events

-- ---- laws

-- It is so also of what comes to the list.
abbrev pub RunGoesOn : {D : Type 0} → (D → DiskState) → Tracked D → Type 0
RunGoesOn {D} state old =
    (lay : DiskSlot → Held D) (depot : Depot D) (new : Tracked D) (more : List Event) → HaveRun state lay depot old → Ran state old more new → OnlyReplicasStep old more → HaveRun state lay depot new

-- Then the disks count their failures.
abbrev pub RunIsCounted : {D : Type 0} → (D → DiskState) → Tracked D → Type 0
RunIsCounted {D} state t = (lay : DiskSlot → Held D) (depot : Depot D) → HaveRun state lay depot t → CountsFaults state t × RoseByFailures state depot t

-- Where the disks tell and had no points, no replica first began with a point.
abbrev pub RunOpensEmpty : {D : Type 0} → (D → DiskState) → Tracked D → Type 0
RunOpensEmpty {D} state t = (lay : DiskSlot → Held D) (depot : Depot D) → TellAll state → AreBare state lay → HaveRun state lay depot t → AgreesWith t.events no_points

-- Where what lay there stands for the life, the replicas first began with what earlier runs left.
abbrev pub RunOpensAsLeft : {D : Type 0} → (D → DiskState) → Tracked D → Type 0
RunOpensAsLeft {D} state t =
    (past : List Record) (start : Option MetaState) (lay : DiskSlot → Held D) (depot : Depot D) → TellAll state → HadLain state past start lay → HaveRun state lay depot t → Legal true t.events → OpensAsLeft past start t.events

-- And none of their steps found damage.
abbrev pub RunFindsNoDamage : {D : Type 0} → (D → DiskState) → Tracked D → Type 0
RunFindsNoDamage {D} state t =
    (past : List Record) (start : Option MetaState) (lay : DiskSlot → Held D) (depot : Depot D) → TellAll state → HadLain state past start lay → HaveRun state lay depot t → HasNoDamage t.events
