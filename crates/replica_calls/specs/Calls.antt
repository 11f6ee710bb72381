-- What a call of the replica at a slot does to all replicas and to the list of events.
use Rattle.std.specs.Prelude.{◌≡◌, ◌≢◌, ◌⊎◌, ℕ, ◌≤◌, ⊤, List, length, Option, Some, None, Result, Err, IsTrue, refl}
use Rattle.std.specs.BTreeMap.{BTreeMap}
use Rattle.std.specs.Coded.{Coded, code_by, coded×, coded_list}
use Rattle.std.specs.FinMap as finite
use Rattle.replica_exchange.specs.m3_model.declared.reason.Reason.TheVariants as reason
use Rattle.replica_exchange.specs.m3_outside.DiskState.{DiskState}
use Rattle.replica_exchange.specs.cluster_core.declared.event.Event.{Event}
use Rattle.replica_exchange.specs.cluster_core.declared.event.Event.TheVariants as event
use Rattle.replica_exchange.specs.cluster_core.declared.event.StepCall.{StepCall}
use Rattle.replica_exchange.specs.cluster_core.declared.event.StepReply.{StepReply}
use Rattle.replica_exchange.specs.Machines.{first_machine}
use Rattle.replica_exchange.specs.MachineCalls.{IsMemberOf, HasRoom, Adding, Promise, HasAnswered, AddsBoth, AddsStep}
use Rattle.replica_exchange.specs.declared.call_err.CallErr.{CallErr}
use Rattle.replica_exchange.specs.declared.call_err.CallErr.TheVariants as call_err
use Rattle.replica_exchange.specs.declared.member.Member.{Member}
use Rattle.replica_exchange.specs.declared.slot.Slot.{Slot}
use Rattle.replica_calls.specs.Slots.{slot_cmp, shown, MemberMap, member_map_code}

-- ---- replicas and their list

-- the replica of each slot, and the list of events so far
pub record Tracked (D : Type 0) : Type 0 where
  pub members : MemberMap D
  pub events : List Event

abbrev pub tracked_code : {D : Type 0} → Coded D → Coded Event → Coded (Tracked D)
tracked_code disk_code event_code =
    code_by (_ × _) (coded× (member_map_code disk_code) (coded_list event_code)) (λ t. (t.members, t.events)) (λ p. record { members = p.0; events = p.1 }) (λ _. refl)

-- over a disk from which nothing was read yet
abbrev pub first_member : {D : Type 0} → D → Member D
first_member disk = record { machine = first_machine disk; first = shown disk }

-- the machine of each slot is that of its replica
abbrev pub AreMembersOf : {D : Type 0} → (D → DiskState) → Tracked D → Type 0
AreMembersOf {D} state t = (s : Slot) (m : Member D) → finite.get t.members s ≡ Some m → IsMemberOf state s t.events m

-- what is so of them; the list was opened by a placement and by rules
pub record IsTracked {D : Type 0} (state : D → DiskState) (map : BTreeMap Slot (Member D)) (events : List Event) : Type 0 where
  pub opened : 2 ≤ length events
  pub sorted : IsTrue (finite.is_sorted slot_cmp map.entries)
  pub are : AreMembersOf state (record { members = finite.from_sorted map.entries; events = events })

-- ---- a call

-- why a replica isn't called: the slot has none, or the list has no room for so many events
abbrev pub IsMissed : {D Y : Type 0} → ℕ → Option (Member D) → List Event → Result Y CallErr → Type 0
IsMissed more None events result = result ≡ Err (call_err.Refused reason.NotOwned)
IsMissed more (Some m) events result = (¬ HasRoom more events) × (result ≡ Err call_err.Full)

-- it wasn't called, and nothing changed
pub record WasNotCalled {D Y : Type 0} (more : ℕ) (slot : Slot) (result : Result Y CallErr) (old new : Tracked D) : Type 0 where
  pub same : new ≡ old
  pub missed : IsMissed more (finite.get old.members slot) old.events result

-- the machine of this slot was called, and nothing else changed
pub record WasCalled {D X Y : Type 0} (state : D → DiskState) (slot : Slot) (c : StepCall) (ok : X → StepReply) (Promised : Promise D X) (Adds : Adding) (f : X → Y) (result : Result Y CallErr) (old new : Tracked D) : Type 0 where
  pub before : Member D
  pub there : finite.get old.members slot ≡ Some before
  pub after : Member D
  pub members : new.members ≡ finite.insert old.members slot after
  pub answered : HasAnswered state c ok Promised Adds f result before old.events after new.events

-- the replica of the slot was called, or couldn't be
abbrev pub MayCallBy : {D X Y : Type 0} → ℕ → Adding → (D → DiskState) → Slot → StepCall → (X → StepReply) → Promise D X → (X → Y) → Result Y CallErr → Tracked D → Tracked D → Type 0
MayCallBy more Adds state slot c ok Promised f result old new = WasNotCalled more slot result old new ⊎ WasCalled state slot c ok Promised Adds f result old new

-- with an Ask
abbrev pub MayCall : {D X Y : Type 0} → (D → DiskState) → Slot → StepCall → (X → StepReply) → Promise D X → (X → Y) → Result Y CallErr → Tracked D → Tracked D → Type 0
MayCall state slot c ok Promised f result old new = MayCallBy 2 (AddsBoth slot) state slot c ok Promised f result old new

-- without one, as nobody asks for a report
abbrev pub MayTell : {D X Y : Type 0} → (D → DiskState) → Slot → StepCall → (X → StepReply) → Promise D X → (X → Y) → Result Y CallErr → Tracked D → Tracked D → Type 0
MayTell state slot c ok Promised f result old new = MayCallBy 1 (AddsStep slot) state slot c ok Promised f result old new

-- ---- events that no replica makes

abbrev pub IsNoStep : Event → Type 0
IsNoStep (event.Step n s c a) = ⊥
IsNoStep e = ⊤
