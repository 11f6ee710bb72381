-- Events of begins, and what the replicas of a first cluster say of theirs.
use Rattle.std.proofs.Common.{◌≡◌, ◌+◌, ℕ, List, [], ◌∷◌, refl, sym, ap, subst, ◌∙◌, inl, inr, arith}
use Rattle.std.specs.Prelude.{◌⊎◌, Option, Some, None, Ok, Err}
use Rattle.std.proofs.lemmas.Option.{same_Some}
use Rattle.m3_model.specs.Members.{IsIn}
use Rattle.m3_model.proofs.MemberLemmas.{IsIn-append_cases, IsIn-append_left, IsIn-append_right}
use Rattle.m3_model.specs.declared.placement.Assignment.{Assignment}
use Rattle.m3_model.specs.declared.placement.Placement.{Placement}
use Rattle.m3_model.specs.declared.point.Point.{Point}
use Rattle.m3_model.specs.declared.reason.Reason.{Reason}
use Rattle.m3_model.specs.declared.reason.Reason.TheVariants as reason
use Rattle.m3_model.specs.declared.replica.Standing.TheVariants as standing
use Rattle.m3_outside.specs.Depots.{Depot}
use Rattle.m3_outside.specs.DiskState.{DiskState}
use Rattle.m3_outside.specs.declared.disk.Disk.{Ghosts}
use Rattle.placement_core.proofs.ListLemmas.{Any-from_IsIn, IsIn-from_Any}
use Rattle.cluster_core.specs.Lists.{At}
use Rattle.cluster_core.specs.declared.event.Event.{Event}
use Rattle.cluster_core.specs.declared.event.Event.TheVariants as event
use Rattle.cluster_core.specs.declared.event.StepCall.{StepCall}
use Rattle.cluster_core.specs.declared.event.StepCall.TheVariants as call
use Rattle.cluster_core.specs.declared.event.StepReply.{StepReply}
use Rattle.cluster_core.specs.declared.event.StepReply.TheVariants as reply
use Rattle.node_calls.specs.replica_machine.Boots.{IsBootReason}
use Rattle.node_calls.specs.replica_machine.Machines.{first_machine}
use Rattle.node_calls.specs.replica_machine.declared.machine.Began.{Began}
use Rattle.node_calls.specs.replica_exchange.Exchanges.{ask_of}
use Rattle.node_calls.specs.replica_exchange.Promises.{Begins}
use Rattle.node_calls.specs.replica_exchange.declared.member.Member.{Member}
use Rattle.node_calls.specs.replica_exchange.declared.slot.Slot.{Slot}
use Rattle.node_calls.specs.replica_calls.Calls.{first_member}
use Rattle.node_calls.specs.session_net.Runs.{slot_at}
use Rattle.node_calls.specs.cluster_members.declared.members.Members.{Members}
use Rattle.first_cluster.specs.Begins.{Said, begin_of, begin_reply, begins_of, WantedMemory}
use Rattle.first_cluster.specs.First.{IsFirst}
use Rattle.first_cluster.specs.Slots.{start_at, starts_of}
use Rattle.first_cluster.specs.declared.start.Start.{Start}
use Rattle.first_cluster.proofs.PlacedSlots.{from_start, start_from, start_slot}
use Rattle.told_runs.specs.told_by.Hears.{IsFirstBegun}
use Rattle.told_runs.specs.told_by.Makes.{IsAssigned}

-- ---- an event of begins

-- the step of a start that said this
abbrev pub step_of : Start → Said → Event
step_of start said = event.Step start.slot.node start.slot.shard (call.Begin start.tenure) (begin_reply said)

abbrev pub ask_for : Start → Event
ask_for start = ask_of start.slot.node start.slot.shard (call.Begin start.tenure)

-- it is the Ask or the step of one of the starts
pub record IsOfBegin (said : Slot → Said) (starts : List Start) (e : Event) : Type 0 where
  pub start : Start
  pub among : IsIn starts start
  pub is : (ask_for start ≡ e) ⊎ (step_of start (said start.slot) ≡ e)

pub of_begin : (said : Slot → Said) (starts : List Start) (e : Event) → IsIn (begins_of said starts) e → IsOfBegin said starts e
of_begin said [] e i = absurd i
of_begin said (start ∷ starts) e i =
    elim (IsIn-append_cases (begin_of start (said start.slot)) (begins_of said starts) e i) as (λ _. IsOfBegin said (start ∷ starts) e) [
      | inl here ↦ record { start = start; among = inl refl; is = (elim here as (λ _. (ask_for start ≡ e) ⊎ (step_of start (said start.slot) ≡ e)) [ inl ask ↦ inl ask | inr rest ↦ elim rest as (λ _. (ask_for start ≡ e) ⊎ (step_of start (said start.slot) ≡ e)) [ inl step ↦ inr step | inr none ↦ absurd none ] ]) }
      | inr later ↦ let rest = of_begin said starts e later in record { start = rest.start; among = inr rest.among; is = rest.is }
    ]

-- and each start's step is there
pub step_there : (said : Slot → Said) (starts : List Start) (start : Start) → IsIn starts start → IsIn (begins_of said starts) (step_of start (said start.slot))
step_there said [] start i = absurd i
step_there said (x ∷ starts) start (inl same) = IsIn-append_left (begin_of x (said x.slot)) (begins_of said starts) (step_of start (said start.slot)) (inr (inl (ap (λ (s : Start). step_of s (said s.slot)) same)))
step_there said (x ∷ starts) start (inr rest) = IsIn-append_right (begin_of x (said x.slot)) (begins_of said starts) (step_of start (said start.slot)) (step_there said starts start rest)

-- ---- what an event of begins tells

-- what an event has, if it is a step
abbrev pub Shown : Type 0
Shown = Option (ℕ × ℕ × StepCall × StepReply)

abbrev pub shown_in : Event → Shown
shown_in (event.Step n s c a) = Some (n, s, c, a)
shown_in _ = None

-- a step among them is that of a start
pub record IsStepOf (said : Slot → Said) (starts : List Start) (n s : ℕ) (c : StepCall) (a : StepReply) : Type 0 where
  pub start : Start
  pub among : IsIn starts start
  pub node_is : start.slot.node ≡ n
  pub shard_is : start.slot.shard ≡ s
  pub call_is : call.Begin start.tenure ≡ c
  pub reply_is : begin_reply (said start.slot) ≡ a

step_in_so : (said : Slot → Said) (starts : List Start) (n s : ℕ) (c : StepCall) (a : StepReply) → IsOfBegin said starts (event.Step n s c a) → IsStepOf said starts n s c a
step_in_so said starts n s c a h =
    elim h.is as (λ _. IsStepOf said starts n s c a) [
      | inl ask ↦ absurd (let bad : None ≡ Some (n, s, c, a) = ap shown_in ask in cc)
      | inr step ↦
          let same : ◌≡◌ {A = ℕ × ℕ × StepCall × StepReply} (h.start.slot.node, h.start.slot.shard, call.Begin h.start.tenure, begin_reply (said h.start.slot)) (n, s, c, a) =
          same_Some {A = ℕ × ℕ × StepCall × StepReply} (h.start.slot.node, h.start.slot.shard, call.Begin h.start.tenure, begin_reply (said h.start.slot)) (n, s, c, a) (ap shown_in step) in
          record {
            start = h.start;
            among = h.among;
            node_is = ap (λ (x : ℕ × ℕ × StepCall × StepReply). x.0) same;
            shard_is = ap (λ (x : ℕ × ℕ × StepCall × StepReply). x.1) same;
            call_is = ap (λ (x : ℕ × ℕ × StepCall × StepReply). x.2) same;
            reply_is = ap (λ (x : ℕ × ℕ × StepCall × StepReply). x.3) same;
          }
    ]

pub step_among : (said : Slot → Said) (starts : List Start) (n s : ℕ) (c : StepCall) (a : StepReply) → IsIn (begins_of said starts) (event.Step n s c a) → IsStepOf said starts n s c a
step_among said starts n s c a i = step_in_so said starts n s c a (of_begin said starts (event.Step n s c a) i)

-- ---- what was said

said_began : (said : Said) (fence : ℕ) (points : List Point) → begin_reply said ≡ reply.Began fence points → (began : Began) × (said ≡ Ok began) × (began.fence ≡ fence)
said_began (Ok began) fence points e = (began, refl, (let same : began.fence ≡ fence = cc in same))
said_began (Err why) fence points e = cc

pub began_so : (said : Said) (fence : ℕ) (points : List Point) → begin_reply said ≡ reply.Began fence points → (began : Began) × (said ≡ Ok began) × (began.fence ≡ fence)
began_so = said_began

pub refused_so : (said : Said) (why : Reason) → begin_reply said ≡ reply.Refused why → said ≡ Err why
refused_so (Ok began) why e = cc
refused_so (Err x) why e = let same : x ≡ why = cc in ap Err same

-- an `init` may answer ok where its replicas say this
first_reason : (why : Reason) → IsBootReason why → (why ≡ reason.Down → ⊥) → (why ≡ reason.Memory → ⊥) → IsFirstBegun (reply.Refused why)
first_reason reason.Down may down memory = absurd (down refl)
first_reason reason.NotOwned may down memory = tt
first_reason reason.Disk may down memory = tt
first_reason (reason.Corrupt damage) may down memory = tt
first_reason reason.Memory may down memory = absurd (memory refl)
first_reason _ may down memory = absurd may

first_begun : {D : Type 0} (state : D → DiskState) (tenure : ℕ) (disk : D) (after : Member D) (said : Said) → Begins state tenure (call.Begin tenure) said (first_machine disk) after.machine → ¬ WantedMemory said → IsFirstBegun (begin_reply said)
first_begun state tenure disk after (Ok began) promised no_want = tt
first_begun state tenure disk after (Err why) promised no_want =
    first_reason why promised.reasons (λ e. (let bad : standing.Boot ≡ standing.Down = promised.down.0 (ap Err e) in cc)) (λ e. no_want (ap Err e))

-- each replica of a first cluster says so
pub said_first : {D : Type 0} {G : Ghosts D} (state : D → DiskState) (rf shards seed : ℕ) (nodes : List (List ℕ × List ℕ)) (old new : Depot D) (m : Members D G) (first : IsFirst state rf shards seed nodes old new m)
    → (start : Start) → IsIn (starts_of m.net.state.place) start → IsFirstBegun (begin_reply (first.opened.begun.said start.slot))
said_first {D} {G} state rf shards seed nodes old new m first start i =
    let was = (first.opened.taken).taken start.slot (subst (λ xs. IsIn xs start.slot) (sym first.slots) (start_slot m.net.state.place start i)) in
    let begun = first.opened.begun.each start i in
    let same : begun.before ≡ first_member was.disk = same_Some begun.before (first_member was.disk) (sym begun.was ∙ was.stands) in
    first_begun state start.tenure was.disk begun.after (first.opened.begun.said start.slot)
    (subst (λ (x : Member D). Begins state start.tenure (call.Begin start.tenure) (first.opened.begun.said start.slot) x.machine begun.after.machine) same begun.promised) (first.opened.begun.no_want start i)

-- ---- whom the placement gives what

-- a start's slot is given its tenure
pub start_assigned : (place : Placement) (start : Start) → IsIn (starts_of place) start → IsAssigned place start.slot.node start.slot.shard start.tenure
start_assigned place start i =
    let of_it = start_from 0 place.shards start i in
    let number_is = of_it.shard_is in
    let same : of_it.number ≡ start.slot.shard = omega (arith, number_is) in
    (of_it.shard, subst (λ n. At place.shards n of_it.shard) same of_it.at, Any-from_IsIn (λ (a : Assignment). (a.node ≡ start.slot.node) × (a.tenure ≡ start.tenure)) of_it.shard of_it.assignment of_it.assigned (of_it.node_is, of_it.tenure_is))

-- and each that is given has a start
pub assigned_start : (place : Placement) (node shard tenure : ℕ) → IsAssigned place node shard tenure → IsIn (starts_of place) (record { slot = slot_at node shard; tenure = tenure })
assigned_start place node shard tenure h =
    let a = IsIn-from_Any (λ (a : Assignment). (a.node ≡ node) × (a.tenure ≡ tenure)) h.0 h.2 in
    let is : start_at shard a.0 ≡ record { slot = slot_at node shard; tenure = tenure } = λ k. record { slot = slot_at (a.2.0 k) shard; tenure = a.2.1 k } in
    let none : 0 + shard ≡ shard = omega arith in
    subst (IsIn (starts_of place)) is (subst (λ (k : ℕ). IsIn (starts_of place) (start_at k a.0)) none (from_start 0 place.shards shard h.0 a.0 h.1 a.1))
