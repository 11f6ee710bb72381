-- With what slots begin: the machines behind the steps that came, and what is so of those that begin first.
use Rattle.std.proofs.Common.{◌≡◌, ◌≢◌, ◌≤◌, ◌+◌, ℕ, zero, suc, List, [], ◌∷◌, ◌++◌, length, take, get_or, refl, sym, ap, ◌∙◌, subst, inl, inr, arith, Bool, true, false}
use Rattle.std.specs.Prelude.{◌⊎◌, Option, Some, None, nat_eq, ◌&&◌, if◌then◌else◌, fold}
use Rattle.std.specs.FinMap as finite
use Rattle.std.specs.declared.snapshot.Snapshot.{Snapshot}
use Rattle.std.specs.List.{Any, cons_option}
use Rattle.std.proofs.lemmas.Bool.{and_from, and_parts, cases_eq, eq-eqb, eqb-true}
use Rattle.std.proofs.lemmas.Grind.{fold-append}
use Rattle.std.proofs.lemmas.Option.{same_Some}
use Rattle.m3_model.specs.Ascends.{Ascends}
use Rattle.m3_model.specs.Members.{IsIn}
use Rattle.m3_model.specs.declared.placement.Assignment.{Assignment}
use Rattle.m3_model.specs.declared.placement.Placement.{Placement}
use Rattle.m3_model.specs.declared.point.Point.{Point}
use Rattle.m3_model.specs.declared.reason.Reason.TheVariants as reason
use Rattle.m3_model.specs.declared.rules.MetaState.{MetaState}
use Rattle.m3_model.proofs.MemberLemmas.{IsIn-append_cases}
use Rattle.m3_model.proofs.Lists.{IsIn-take}
use Rattle.m3_outside.specs.DiskState.{DiskState, EachImage}
use Rattle.m3_outside.specs.Files.{Files}
use Rattle.m3_outside.specs.declared.disk.Disk.{Ghosts}
use Rattle.node_calls.proofs.shard_files_proofs.FilesHoldLemmas.{files_hold_one}
use Rattle.cluster_core.specs.Earlier.{HasTenure, last_place}
use Rattle.cluster_core.specs.Lists.{At}
use Rattle.cluster_core.specs.Replicas.{after, fresh, replica, step_of}
use Rattle.cluster_core.specs.declared.event.Event.{Event}
use Rattle.cluster_core.specs.declared.event.Event.TheVariants as event
use Rattle.cluster_core.specs.declared.event.StepCall.{StepCall}
use Rattle.cluster_core.specs.declared.event.StepCall.TheVariants as call
use Rattle.cluster_core.specs.declared.event.StepReply.{StepReply}
use Rattle.cluster_core.specs.declared.event.StepReply.TheVariants as reply
use Rattle.cluster_core.specs.declared.replica_state.ReplicaState.{ReplicaState}
use Rattle.cluster_core.proofs.ListLemmas.{at_any, at_in, at_same, fold_suc}
use Rattle.cluster_core.proofs.ReplicaLemmas.{after_begun, some_there}
use Rattle.cluster_core.proofs.TraceLemmas.{step_cases}
use Rattle.placement_core.specs.Lawful.{IsLawful}
use Rattle.placement_core.specs.Shards.{Shard}
use Rattle.placement_core.proofs.ListLemmas.{IsIn-from_Any, index-from_IsIn}
use Rattle.placement_core.proofs.OrderLemmas.{apart_of}
use Rattle.node_calls.specs.replica_machine.Machines.{IsMachineOf, MachineState}
use Rattle.node_calls.specs.replica_machine.Openings.{AllSound, IsUpTo}
use Rattle.node_calls.specs.replica_machine.Steps.{IsStep}
use Rattle.node_calls.proofs.replica_machine_proofs.OpeningLemmas.{first_begin_is_as_made, stays_as_made}
use Rattle.node_calls.specs.replica_exchange.Exchanges.{ask_of}
use Rattle.node_calls.specs.replica_exchange.declared.member.Member.{Member}
use Rattle.node_calls.specs.replica_exchange.declared.slot.Slot.{Slot}
use Rattle.node_calls.specs.replica_calls.Calls.{Tracked}
use Rattle.node_calls.specs.session_net.Runs.{IsStepped, Ran, TakesSteps, slot_at, step_in, steps_of}
use Rattle.told_runs.specs.told_by.Makes.{IsAssigned}
use Rattle.told_runs.proofs.told_by_proofs.LeaveLemmas.{place_there}
use Rattle.told_runs.proofs.told_by_proofs.OneLemmas.{at_back}
use Rattle.told_runs.proofs.told_moves_proofs.SlotLemmas.{Tries, tries_by}
use Rattle.told_runs.specs.Lines.{OpensNext}
use Rattle.transcripts.specs.Moves.{IsLeftFence}
use Rattle.node_calls.specs.cluster_members.declared.members.Members.{Members}
use Rattle.line_tracks.specs.acts.Stays.{HaveNoPlace}
use Rattle.line_tracks.proofs.acts.GrowLemmas.{last_still, take_behind}
use Rattle.line_tracks.specs.acts.Keeps.{BeginsGiven, BeginsStill}
use Rattle.line_tracks.specs.acts.Opens.{IsGivenNow, IsLow, IsTenureUnowned, MayOpenSlots}

-- ---- steps of a slot among events

-- an event is none of the slot's, or a step of it
step_or_not : (slot : Slot) (e : Event) → ((step_in slot e ≡ None) × ((r : ReplicaState) → step_of slot.node slot.shard r e ≡ r))
    ⊎ ((c : StepCall) × (a : StepReply) × (e ≡ event.Step slot.node slot.shard c a) × (step_in slot e ≡ Some (record { call = c; reply = a })) × ((r : ReplicaState) → step_of slot.node slot.shard r e ≡ after r c a))
step_or_not slot (event.Step n s c a) = by (nat_eq n slot.node && nat_eq s slot.shard) refl
  where
    by : (b : Bool) → (nat_eq n slot.node && nat_eq s slot.shard) ≡ b → ((step_in slot (event.Step n s c a) ≡ None) × ((r : ReplicaState) → step_of slot.node slot.shard r (event.Step n s c a) ≡ r))
        ⊎ ((c' : StepCall) × (a' : StepReply) × (event.Step n s c a ≡ event.Step slot.node slot.shard c' a') × (step_in slot (event.Step n s c a) ≡ Some (record { call = c'; reply = a' })) × ((r : ReplicaState) → step_of slot.node slot.shard r (event.Step n s c a) ≡ after r c' a'))
    by true e =
        let parts = and_parts (nat_eq n slot.node) (nat_eq s slot.shard) e in
        inr (c, a, (λ i. event.Step (eqb-true n slot.node parts.0 i) (eqb-true s slot.shard parts.1 i) c a), ap (λ t. if t then Some (record { call = c; reply = a }) else None) e, λ r. ap (λ t. if t then after r c a else r) e)
    by false e = inl (ap (λ t. if t then Some (record { call = c; reply = a }) else None) e, λ r. ap (λ t. if t then after r c a else r) e)
step_or_not slot (event.Ask asked) = inl (refl, λ r. refl)
step_or_not slot (event.Clock rules) = inl (refl, λ r. refl)
step_or_not slot (event.Place placement done) = inl (refl, λ r. refl)
step_or_not slot (event.Send version s point) = inl (refl, λ r. refl)
step_or_not slot (event.Ack send nodes) = inl (refl, λ r. refl)
step_or_not slot (event.FetchStart version s rules pick from to) = inl (refl, λ r. refl)
step_or_not slot (event.FetchDone start nodes series) = inl (refl, λ r. refl)

own_step : (slot : Slot) (c : StepCall) (a : StepReply) → step_in slot (event.Step slot.node slot.shard c a) ≡ Some (record { call = c; reply = a })
own_step slot c a = ap (λ t. if t then Some (record { call = c; reply = a }) else None) (and_from (nat_eq slot.node slot.node) (nat_eq slot.shard slot.shard) (eq-eqb slot.node slot.node refl) (eq-eqb slot.shard slot.shard refl))

-- the machine of a replica over this disk took the step
pub record TookStep {D : Type 0} (state : D → DiskState) (first : D) (r : ReplicaState) (c : StepCall) (a : StepReply) : Type 0 where
  pub old : MachineState D
  pub new : MachineState D
  pub is : IsMachineOf state (state first).images r old
  pub step : IsStep state old c a new

module _ {D : Type 0} (state : D → DiskState) (slot : Slot) (first : D) where
  abbrev pub on : ReplicaState → Event → ReplicaState
  on r e = step_of slot.node slot.shard r e

  follows : (more : List Event) (r : ReplicaState) (old new : MachineState D) → IsMachineOf state (state first).images r old → TakesSteps state (steps_of slot more) old new → IsMachineOf state (state first).images (fold on r more) new
  follows [] r old new is taken = subst (IsMachineOf state (state first).images r) (sym taken) is
  follows (e ∷ more) r old new is taken = elim (step_or_not slot e) as (λ _. IsMachineOf state (state first).images (fold on (on r e) more) new) [
    | inl none ↦
        (let rest = subst (λ o. TakesSteps state (cons_option o (steps_of slot more)) old new) none.0 taken in
        subst (λ q. IsMachineOf state (state first).images (fold on q more) new) (sym (none.1 r)) (follows more r old new is rest))
    | inr own ↦
        (let first_step = subst (λ o. TakesSteps state (cons_option o (steps_of slot more)) old new) own.3 taken in
        subst (λ q. IsMachineOf state (state first).images (fold on q more) new) (sym (own.4 r)) (follows more (after r own.0 own.1) first_step.0 new ((first_step.1).follows first r is) first_step.2))
  ]

  took : (more : List Event) (r : ReplicaState) (old new : MachineState D) → IsMachineOf state (state first).images r old → TakesSteps state (steps_of slot more) old new → (j : ℕ) (c : StepCall) (a : StepReply) → At more j (event.Step slot.node slot.shard c a)
      → TookStep state first (fold on r (take j more)) c a
  took [] r old new is taken j c a at = absurd (at_in [] j (event.Step slot.node slot.shard c a) at)
  took (e ∷ more) r old new is taken zero c a at =
      let same : e ≡ event.Step slot.node slot.shard c a = same_Some e (event.Step slot.node slot.shard c a) at in
      let here = subst (λ o. TakesSteps state (cons_option o (steps_of slot more)) old new) (ap (step_in slot) same ∙ own_step slot c a) taken in
      record { old = old; new = here.0; is = is; step = here.1 }
  took (e ∷ more) r old new is taken (suc j) c a at = elim (step_or_not slot e) as (λ _. TookStep state first (fold on (on r e) (take j more)) c a) [
    | inl none ↦
        (let rest = subst (λ o. TakesSteps state (cons_option o (steps_of slot more)) old new) none.0 taken in
        subst (λ q. TookStep state first (fold on q (take j more)) c a) (sym (none.1 r)) (took more r old new is rest j c a at))
    | inr own ↦
        (let first_step = subst (λ o. TakesSteps state (cons_option o (steps_of slot more)) old new) own.3 taken in
        subst (λ q. TookStep state first (fold on q (take j more)) c a) (sym (own.4 r)) (took more (after r own.0 own.1) first_step.0 new ((first_step.1).follows first r is) first_step.2 j c a at))
  ]

-- ---- what a slot began and tried

unbegun_one : (r : ReplicaState) (c : StepCall) (a : StepReply) → (after r c a).begun ≡ [] → r.begun ≡ []
unbegun_one r c a none = elim (after_begun r c a) as (λ _. r.begun ≡ []) [
  | inl same ↦ sym same ∙ none
  | inr began ↦ (let is : after r c a ≡ after r (call.Begin began.0) (reply.Began began.1 began.2) = ap (λ d. after r d a) began.3 ∙ ap (after r (call.Begin began.0)) began.4 in
      absurd (some_there r.begun began.0 (sym (ap (λ (q : ReplicaState). q.begun) is) ∙ none)))
]

module _ (n s : ℕ) where
  unbegun_before : (more : List Event) (r : ReplicaState) → (fold (step_of n s) r more).begun ≡ [] → r.begun ≡ []
  unbegun_before [] r none = none
  unbegun_before (e ∷ more) r none =
      let rest = unbegun_before more (step_of n s r e) none in
      elim (step_cases n s r e) as (λ _. r.begun ≡ []) [
        | inl same ↦ ap (λ (q : ReplicaState). q.begun) (sym same) ∙ rest
        | inr own ↦ unbegun_one r own.0 own.1 (ap (λ (q : ReplicaState). q.begun) (sym own.3) ∙ rest)
      ]

  tried_before : (more : List Event) (r : ReplicaState) (tenure : ℕ) → Tries (fold (step_of n s) r more) tenure → Tries r tenure ⊎ ((a : StepReply) × IsIn more (event.Step n s (call.Begin tenure) a))
  tried_before [] r tenure h = inl h
  tried_before (e ∷ more) r tenure h = elim (tried_before more (step_of n s r e) tenure h) as (λ _. Tries r tenure ⊎ ((a : StepReply) × IsIn (e ∷ more) (event.Step n s (call.Begin tenure) a))) [
    | inl before ↦ elim (step_cases n s r e) as (λ _. Tries r tenure ⊎ ((a : StepReply) × IsIn (e ∷ more) (event.Step n s (call.Begin tenure) a))) [
      | inl same ↦ inl (subst (λ q. Tries q tenure) same before)
      | inr own ↦ elim (tries_by r own.0 own.1 tenure (subst (λ q. Tries q tenure) own.3 before)) as (λ _. Tries r tenure ⊎ ((a : StepReply) × IsIn (e ∷ more) (event.Step n s (call.Begin tenure) a))) [
        | inl was ↦ inl was
        | inr begin ↦ inr (own.1, inl (own.2 ∙ ap (λ c. event.Step n s c own.1) begin))
      ]
    ]
    | inr later ↦ inr (later.0, inr later.1)
  ]

-- ---- the tenure that the placement gives is one

one_tenure : (shard : Shard) (n a b : ℕ) → Ascends (λ (x y : Assignment). x.node ≢ y.node) shard → Any (λ (x : Assignment). (x.node ≡ n) × (x.tenure ≡ a)) shard → Any (λ (x : Assignment). (x.node ≡ n) × (x.tenure ≡ b)) shard → a ≡ b
one_tenure shard n a b distinct of_a of_b =
    let x = IsIn-from_Any (λ (z : Assignment). (z.node ≡ n) × (z.tenure ≡ a)) shard of_a in
    let y = IsIn-from_Any (λ (z : Assignment). (z.node ≡ n) × (z.tenure ≡ b)) shard of_b in
    let i = index-from_IsIn shard x.0 x.1 in
    let j = index-from_IsIn shard y.0 y.1 in
    elim (cases_eq i.0 j.0) as (λ _. a ≡ b) [
      | inl same ↦ sym x.2.1 ∙ ap (λ (z : Assignment). z.tenure) (sym (i.2 x.0) ∙ ap (λ k. get_or shard k x.0) same ∙ j.2 x.0) ∙ y.2.1
      | inr other ↦ absurd (apart_of (λ (p q : Assignment). p.node ≢ q.node) (λ p q f e. f (sym e)) shard distinct i.0 j.0 x.0 i.1 j.1 other (ap (λ (z : Assignment). z.node) (i.2 x.0) ∙ x.2.0 ∙ sym y.2.0 ∙ ap (λ (z : Assignment). z.node) (sym (j.2 x.0))))
    ]

same_given : (events : List Event) (place : Placement) → last_place events ≡ Some place → IsLawful place → (n s a b : ℕ) → IsGivenNow events n s a → IsGivenNow events n s b → a ≡ b
same_given events place last lawful n s a b of_a of_b =
    let same_a : of_a.0 ≡ place = same_Some of_a.0 place (sym of_a.1 ∙ last) in
    let same_b : of_b.0 ≡ place = same_Some of_b.0 place (sym of_b.1 ∙ last) in
    let x = subst (λ p. IsAssigned p n s a) same_a of_a.2 in
    let y = subst (λ p. IsAssigned p n s b) same_b of_b.2 in
    let same : y.0 ≡ x.0 = at_same place.shards s y.0 x.0 y.1 x.1 in
    one_tenure x.0 n a b (lawful.shards x.0 (at_in place.shards s x.0 x.1)).distinct x.2 (subst (λ sh. Any (λ (z : Assignment). (z.node ≡ n) × (z.tenure ≡ b)) sh) same y.2)

pub given_tenure : (events : List Event) (n s tenure : ℕ) → IsGivenNow events n s tenure → HasTenure events n s tenure
given_tenure events n s tenure given = let there = place_there events given.0 given.1 in at_any _ events there.0 (event.Place given.0 there.1) there.2 given.2

-- ---- what came

module _ {D : Type 0} (state : D → DiskState) (tells : Bool) (start : Option MetaState) (place : Placement) (old new : Tracked D) (last : last_place old.events ≡ Some place) (lawful : IsLawful place) (may : MayOpenSlots state tells start old) (more : List Event) (ran : Ran state old more new)
    (given : BeginsGiven old.events more) where
  abbrev pub events : List Event
  events = old.events

  abbrev pub whole : List Event
  whole = events ++ more

  -- a slot after some of what came
  split : (n s j : ℕ) → replica n s (take (length events + j) whole) ≡ fold (step_of n s) (replica n s events) (take j more)
  split n s j = ap (replica n s) (take_behind events more j) ∙ fold-append (step_of n s) fresh events (take j more)

  -- of one that still never began, nothing above its tenure was tried
  low_tried : tells ≡ true → (n s : ℕ) (some : List Event) → ((e : Event) → IsIn some e → IsIn more e) → (fold (step_of n s) (replica n s events) some).begun ≡ [] → (own : ℕ) → IsIn (fold (step_of n s) (replica n s events) some).tried own → (tenure : ℕ) → IsGivenNow events n s tenure → own ≤ tenure
  low_tried tell n s some among none own m tenure now = elim (tried_before n s some (replica n s events) own (inr m)) as (λ _. own ≤ tenure) [
    | inl was ↦
        (let before = unbegun_before n s some (replica n s events) none in
        elim was as (λ _. own ≤ tenure) [ inl began ↦ absurd (subst (λ ts. IsIn ts own) before began) | inr tried ↦ (may.low tell).tried n s own before tried tenure now ])
    | inr begin ↦ (let same = same_given events place last lawful n s own tenure (given n s own begin.0 (among (event.Step n s (call.Begin own) begin.0) begin.1)) now in omega (arith, same))
  ]

  -- the member of a slot of which a step came
  module _ (n s : ℕ) (was : Member D) (there : finite.get old.members (slot_at n s) ≡ Some was) where
    machine : (o : Option (Member D)) → finite.get old.members (slot_at n s) ≡ o → IsStepped state (steps_of (slot_at n s) more) o (finite.get new.members (slot_at n s)) → (m : MachineState D) × TakesSteps state (steps_of (slot_at n s) more) was.machine m
    machine None is h = let clash : Some was ≡ None = sym there ∙ is in cc
    machine (Some x) is h = let same : x ≡ was = same_Some x was (sym is ∙ there) in ((h.0).machine, subst (λ (y : Member D). TakesSteps state (steps_of (slot_at n s) more) y.machine (h.0).machine) same h.3)

    took_at : (j : ℕ) (c : StepCall) (a : StepReply) → At more j (event.Step n s c a) → TookStep state (was.first).value (replica n s (take (length events + j) whole)) c a
    took_at j c a at =
        let m = machine (finite.get old.members (slot_at n s)) refl (ran.stepped (slot_at n s)) in
        subst (λ r. TookStep state (was.first).value r c a) (sym (split n s j)) (took state (slot_at n s) (was.first).value more (replica n s events) was.machine m.0 (may.members (slot_at n s) was there) m.1 j c a at)

  -- ---- files of slots that never began

  module _ (tell : tells ≡ true) (n s tenure : ℕ) (now : IsGivenNow events n s tenure) (was : Member D) (there : finite.get old.members (slot_at n s) ≡ Some was) (before : (replica n s events).begun ≡ []) where
    low_file : (c : Files) → (state (was.first).value).images c → IsLow start tenure c
    low_file c image = (may.low tell).files (slot_at n s) was there before tenure now (may.tell tell (was.first).value) c image

    sound : AllSound (state (was.first).value).images
    sound c image = let low = low_file c image in record { points = low.points; tenure = low.held_tenure; fence = low.fence; held = low.held }

    -- numbers that came of these and of what was tried
    up_low : (base : ℕ) (tried : List ℕ) (x : ℕ) → base ≤ tenure → ((own : ℕ) → IsIn tried own → own ≤ tenure) → IsUpTo base tried x → x ≤ tenure
    up_low base tried x low each (inl le) = omega (arith, le, low)
    up_low base tried x low each (inr any) = let t = IsIn-from_Any (λ t. x ≤ t) tried any in let le = t.2 in let most = each t.0 t.1 in omega (arith, le, most)

    -- a first begin leaves the tenure as fence, or one that was left
    first_fence : (r : ReplicaState) (fence : ℕ) (points : List Point) → r.begun ≡ [] → ((own : ℕ) → IsIn r.tried own → own ≤ tenure) → TookStep state (was.first).value r (call.Begin tenure) (reply.Began fence points) → (fence ≡ tenure) ⊎ IsLeftFence start fence
    first_fence r fence points none each t =
        let made = first_begin_is_as_made state (was.first).value r tenure fence points t.old t.new sound (may.tell tell t.old.disk) t.is none t.step in
        let lawful_begin = t.step.lawful (was.first).value r t.is events n s (given_tenure events n s tenure now) in
        let high : tenure ≤ fence = lawful_begin.fence_high in
        let low = low_file made.before made.was in
        let one = files_hold_one low.points made.points_before low.held_tenure made.tenure_before low.fence made.fence_before made.before low.held made.held_before in
        elim made.fence_up as (λ _. (fence ≡ tenure) ⊎ IsLeftFence start fence) [
          | inl le ↦ elim low.fenced as (λ _. (fence ≡ tenure) ⊎ IsLeftFence start fence) [
            | inl under ↦ (let same = one.2 in inl (omega (arith, le, under, same, high)))
            | inr left ↦ (let same = one.2 in let most = left.not_above in inr (record { state = left.state; found = left.found; not_above = omega (arith, le, same, most) }))
          ]
          | inr any ↦
              (let x = IsIn-from_Any (λ t. fence ≤ t) (r.tried ++ tenure ∷ []) any in
              let le = x.2 in
              let most : x.0 ≤ tenure = elim (IsIn-append_cases r.tried (tenure ∷ []) x.0 x.1) as (λ _. x.0 ≤ tenure) [ inl tried ↦ each x.0 tried | inr own ↦ elim own as (λ _. x.0 ≤ tenure) [ inl is ↦ omega (arith, is) | inr nothing ↦ absurd nothing ] ] in
              inl (omega (arith, le, most, high)))
        ]

    -- and none is refused as not owned
    first_owned : (past : List Event) → (replica n s past).begun ≡ [] → ((own : ℕ) → IsIn (replica n s past).tried own → own ≤ tenure) → IsTenureUnowned state old.members (slot_at n s) past tenure → ⊥
    first_owned past none each h =
        let same : h.was ≡ was = same_Some h.was was (sym h.there ∙ there) in
        let first_is : (h.now.first) ≡ was.first = h.first ∙ ap (λ (m : Member D). m.first) same in
        let is = subst (λ (f : Snapshot D). IsMachineOf state (state f.value).images (replica n s past) h.now.machine) first_is h.is in
        elim h.unowned as (λ _. ⊥) [
          | inl higher ↦ elim is.begun.one_of as (λ _. ⊥) [ inl zero_ ↦ omega (arith, higher, zero_) | inr m ↦ subst (λ ts. IsIn ts h.now.machine.begun) none m ]
          | inr told ↦
              (let disk = h.now.machine.disk in
              let tells_it = may.tell tell disk in
              let holds = told tells_it in
              let image = (may.disks disk).read_is_image tells_it in
              let made = stays_as_made state (was.first).value (replica n s past) h.now.machine sound is none tells_it (state disk).files image in
              let low = low_file made.before made.was in
              let below = files_hold_one low.points made.points_before low.held_tenure made.tenure_before low.fence made.fence_before made.before low.held made.held_before in
              let one = files_hold_one made.points holds.points made.tenure holds.held_tenure made.fence holds.fence (state disk).files made.held holds.held in
              let base : made.tenure_before ≤ tenure = (let e = below.1 in let le = low.not_higher in omega (arith, e, le)) in
              let up = up_low made.tenure_before (replica n s past).tried made.tenure base each made.tenure_up in
              let e = one.1 in
              let higher = holds.higher in
              omega (arith, up, e, higher))
        ]

  -- ---- the line

  -- each begin that came and was refused as not owned was so by its machine
  abbrev pub AreUnowned : Type 0
  AreUnowned = (n s tenure j : ℕ) → At more j (event.Step n s (call.Begin tenure) (reply.Refused reason.NotOwned)) → (k : ℕ) × (j ≡ suc k) × At more k (ask_of n s (call.Begin tenure)) × IsTenureUnowned state old.members (slot_at n s) (events ++ take k more) tenure

  -- each begin that came is of a slot with a replica
  abbrev pub AreThere : Type 0
  AreThere = (n s tenure : ℕ) (a : StepReply) → IsIn more (event.Step n s (call.Begin tenure) a) → (was : Member D) × (finite.get old.members (slot_at n s) ≡ Some was)

  take_among : (j : ℕ) (e : Event) → IsIn (take j more) e → IsIn more e
  take_among j e m = IsIn-take j more e m

  pub opens_next : tells ≡ true → AreUnowned → AreThere → OpensNext start events more
  opens_next tell unowned there = record {
    fenced = λ i n s tenure fence points adds none.
        let step : Event = event.Step n s (call.Begin tenure) (reply.Began fence points) in
        let back = at_back events more i step adds.1 adds.0 in
        let m = at_in more back.0 step back.2 in
        let was = there n s tenure (reply.Began fence points) m in
        let now = given n s tenure (reply.Began fence points) m in
        let none_there : (replica n s (take (length events + back.0) whole)).begun ≡ [] = ap (λ k. (replica n s (take k whole)).begun) (sym back.1) ∙ none in
        let none_split = ap (λ (r : ReplicaState). r.begun) (sym (split n s back.0)) ∙ none_there in
        first_fence tell n s tenure now was.0 was.1 (unbegun_before n s (take back.0 more) (replica n s events) none_split) (replica n s (take (length events + back.0) whole)) fence points none_there
        (λ own tried. low_tried tell n s (take back.0 more) (take_among back.0) none_split own (subst (λ (r : ReplicaState). IsIn r.tried own) (split n s back.0) tried) tenure now)
        (took_at n s was.0 was.1 back.0 (call.Begin tenure) (reply.Began fence points) back.2);
    owned = λ i n s tenure adds none.
        let a : StepReply = reply.Refused reason.NotOwned in
        let step : Event = event.Step n s (call.Begin tenure) a in
        let back = at_back events more i step adds.1 adds.0 in
        let m = at_in more back.0 step back.2 in
        let was = there n s tenure a m in
        let now = given n s tenure a m in
        let u = unowned n s tenure back.0 back.2 in
        let none_split : (fold (step_of n s) (replica n s events) (take back.0 more)).begun ≡ [] = ap (λ (r : ReplicaState). r.begun) (sym (split n s back.0)) ∙ ap (λ k. (replica n s (take k whole)).begun) (sym back.1) ∙ none in
        let asked_same : fold (step_of n s) (replica n s events) (take back.0 more) ≡ fold (step_of n s) (replica n s events) (take u.0 more) = ap (λ k. fold (step_of n s) (replica n s events) (take k more)) u.1 ∙ fold_suc (step_of n s) (replica n s events) more u.0 (ask_of n s (call.Begin tenure)) u.2 in
        let past_is : replica n s (events ++ take u.0 more) ≡ fold (step_of n s) (replica n s events) (take u.0 more) = fold-append (step_of n s) fresh events (take u.0 more) in
        let none_past : (replica n s (events ++ take u.0 more)).begun ≡ [] = ap (λ (r : ReplicaState). r.begun) (past_is ∙ sym asked_same) ∙ none_split in
        first_owned tell n s tenure now was.0 was.1 (unbegun_before n s (take back.0 more) (replica n s events) none_split) (events ++ take u.0 more) none_past
        (λ own tried. low_tried tell n s (take u.0 more) (take_among u.0) (ap (λ (r : ReplicaState). r.begun) (sym past_is) ∙ none_past) own (subst (λ (r : ReplicaState). IsIn r.tried own) past_is tried) tenure now) u.3;
  }

  -- ---- afterwards

  whole_is : (n s : ℕ) → replica n s new.events ≡ fold (step_of n s) (replica n s events) more
  whole_is n s = ap (replica n s) ran.grew ∙ fold-append (step_of n s) fresh events more

  still_given : HaveNoPlace more → (n s tenure : ℕ) → IsGivenNow new.events n s tenure → IsGivenNow events n s tenure
  still_given no_place n s tenure h = (h.0, sym (ap last_place ran.grew ∙ last_still events more no_place) ∙ h.1, h.2)

  -- the member of a slot was one over the same disk
  was_there : (slot : Slot) (m : Member D) → finite.get new.members slot ≡ Some m → (was : Member D) × (finite.get old.members slot ≡ Some was) × (m.first ≡ was.first) × TakesSteps state (steps_of slot more) was.machine m.machine
  was_there slot m at = by (finite.get old.members slot) refl (ran.stepped slot)
    where
      by : (o : Option (Member D)) → finite.get old.members slot ≡ o → IsStepped state (steps_of slot more) o (finite.get new.members slot) → (was : Member D) × (finite.get old.members slot ≡ Some was) × (m.first ≡ was.first) × TakesSteps state (steps_of slot more) was.machine m.machine
      by None is h = let clash : Some m ≡ None = sym at ∙ h in cc
      by (Some x) is h = let same : h.0 ≡ m = same_Some h.0 m (sym h.1 ∙ at) in (x, is, ap (λ (y : Member D). y.first) (sym same) ∙ h.2, subst (λ (y : Member D). TakesSteps state (steps_of slot more) x.machine y.machine) same h.3)

  pub begins_on : HaveNoPlace more → MayOpenSlots state tells start new
  begins_on no_place = record {
    disks = may.disks;
    tell = may.tell;
    members = λ slot m at.
        let w = was_there slot m at in
        let was = subst (λ (f : Snapshot D). IsMachineOf state (state f.value).images (replica slot.node slot.shard events) (w.0).machine) (sym w.2) (may.members slot w.0 w.1) in
        subst (λ r. IsMachineOf state (state (m.first).value).images r m.machine) (sym (whole_is slot.node slot.shard)) (follows state slot (m.first).value more (replica slot.node slot.shard events) (w.0).machine m.machine was w.3);
    low = λ tell. record {
      files = λ slot m at none tenure now.
          let w = was_there slot m at in
          let before = unbegun_before slot.node slot.shard more (replica slot.node slot.shard events) (ap (λ (r : ReplicaState). r.begun) (sym (whole_is slot.node slot.shard)) ∙ none) in
          subst (λ (f : Snapshot D). EachImage (state f.value) (IsLow start tenure)) (sym w.2) ((may.low tell).files slot w.0 w.1 before tenure (still_given no_place slot.node slot.shard tenure now));
      tried = λ n s own none m tenure now.
          low_tried tell n s more (λ e i. i) (ap (λ (r : ReplicaState). r.begun) (sym (whole_is n s)) ∙ none) own (subst (λ (r : ReplicaState). IsIn r.tried own) (whole_is n s) m) tenure (still_given no_place n s tenure now);
    };
  }

pub begins_still : {D : Type 0} {G : Ghosts D} (state : D → DiskState) (old : Members D G) → BeginsStill state old
begins_still {D} {G} state old tells start new more ready may ran no_place given = begins_on state tells start old.net.state.place old.net.replicas new ready.place ready.lawful may more ran given no_place
