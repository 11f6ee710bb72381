-- A call's Ask and its step come to the list.
use Rattle.std.proofs.Common.{◌≡◌, ℕ, ◌≤◌, List, [], ◌∷◌, ◌++◌, length, refl, sym, ap, ◌∙◌, subst, inl, inr, arith, Bool, true, false, cond, length-append}
use Rattle.std.specs.Prelude.{◌⊎◌}
use Rattle.std.proofs.lemmas.List.{append-nil}
use Rattle.std.proofs.lemmas.List.Sums.{fold-append}
use Rattle.replica_machine.specs.m3_outside.DiskState.{DiskState}
use Rattle.replica_machine.specs.cluster_core.Asks.{StepWasAsked}
use Rattle.replica_machine.specs.cluster_core.Earlier.{IsClock, IsSend, GivesTenure, GavePage}
use Rattle.replica_machine.specs.cluster_core.Legal.{Legal, LawfulAt}
use Rattle.replica_machine.specs.cluster_core.Replicas.{replica, fresh, after, step_of}
use Rattle.replica_machine.specs.cluster_core.declared.event.Event.{Event}
use Rattle.replica_machine.specs.cluster_core.declared.event.Event.TheVariants as event
use Rattle.replica_machine.specs.cluster_core.declared.event.StepCall.{StepCall}
use Rattle.replica_machine.specs.cluster_core.declared.event.StepCall.TheVariants as call
use Rattle.replica_machine.specs.cluster_core.declared.event.StepReply.{StepReply}
use Rattle.replica_machine.specs.cluster_core.declared.replica_state.ReplicaState.{ReplicaState}
use Rattle.replica_machine.proofs.cluster_core_proofs.ExtendLemmas.{any_more}
use Rattle.replica_machine.proofs.cluster_core_proofs.OwnLemmas.{lawful_later}
use Rattle.replica_machine.proofs.cluster_core_proofs.ReplicaLemmas.{step_own}
use Rattle.replica_machine.proofs.cluster_core_proofs.TraceLemmas.{step_cases}
use Rattle.event_trail.specs.Trails.{IsLegalOver, IsLawfulOver}
use Rattle.event_trail.proofs.Balances.{legal_init, balanced, was_asked, asked_by}
use Rattle.event_trail.proofs.Untold.{weaker}
use Rattle.replica_machine.specs.Machines.{MachineState, IsMachineOf}
use Rattle.replica_machine.specs.Steps.{IsStep, IsGiven}
use Rattle.replica_exchange.specs.MachineCalls.{IsMemberOf, Adding, IsAnswer, OtherReplicasStay, AddsBoth, AddsStep}
use Rattle.replica_exchange.specs.Exchanges.{ask_of, is_callers, own_events, seen_in, IsNothing, HasExchanged}
use Rattle.replica_exchange.specs.declared.member.Member.{Member}
use Rattle.replica_exchange.specs.declared.slot.Slot.{Slot}

-- ---- what a caller made

pub own_append : (xs ys : List Event) → own_events (xs ++ ys) ≡ own_events xs ++ own_events ys
own_append [] ys = refl
own_append (x ∷ xs) ys = by (is_callers x) (own_append xs ys)
  where
    by : (b : Bool) → own_events (xs ++ ys) ≡ own_events xs ++ own_events ys → cond b (x ∷ own_events (xs ++ ys)) (own_events (xs ++ ys)) ≡ cond b (x ∷ own_events xs) (own_events xs) ++ own_events ys
    by true e = ap (λ l. x ∷ l) e
    by false e = e

-- ---- what a call is given stands still

pub given_more : (past more : List Event) (n s : ℕ) (c : StepCall) → IsGiven past n s c → IsGiven (past ++ more) n s c
given_more past more n s (call.Begin tenure) h = any_more (GivesTenure n s tenure) past more h
given_more past more n s (call.Put client number rules version point) h = (any_more (IsClock rules) past more h.0, any_more (IsSend version s point) past more h.1)
given_more past more n s (call.Read client number rules version pick from to) h = any_more (IsClock rules) past more h
given_more past more n s (call.Merge page) h = any_more (GavePage s page) past more h
given_more past more n s (call.Tick rules) h = any_more (IsClock rules) past more h
given_more past more n s (call.Flush rules) h = any_more (IsClock rules) past more h
given_more past more n s (call.Digests rules) h = any_more (IsClock rules) past more h
given_more past more n s _ h = h

step_apart : (n s : ℕ) (c : StepCall) (a : StepReply) (m t : ℕ) (r : ReplicaState) → (m ≡ n → t ≡ s → ⊥) → step_of m t r (event.Step n s c a) ≡ r
step_apart n s c a m t r apart =
    elim (step_cases m t r (event.Step n s c a)) as (λ _. step_of m t r (event.Step n s c a) ≡ r) [
      | inl same ↦ same
      | inr own ↦
          let is : event.Step n s c a ≡ event.Step m t own.0 own.1 = own.2 in
          let node : n ≡ m = cc in
          let shard : s ≡ t = cc in
          absurd (apart (sym node) (sym shard))
    ]

-- ---- the two events

module _ (n s : ℕ) (c : StepCall) (a : StepReply) (past : List Event) where
  abbrev pub asking : List Event
  asking = past ++ ask_of n s c ∷ []

  abbrev pub exchanged : List Event
  exchanged = asking ++ event.Step n s c a ∷ []

  -- where nobody else adds anything
  pub exchanged_alone : (events : List Event) → events ≡ exchanged → HasExchanged IsNothing n s c a (seen_in past) (seen_in events)
  exchanged_alone events e =
      let whole : exchanged ≡ (((past ++ []) ++ ask_of n s c ∷ []) ++ []) ++ event.Step n s c a ∷ [] =
      ap (λ l. l ++ event.Step n s c a ∷ []) (sym (append-nil ((past ++ []) ++ ask_of n s c ∷ []) ∙ ap (λ l. l ++ ask_of n s c ∷ []) (append-nil past))) in
      let own : own_events exchanged ≡ own_events past ++ ask_of n s c ∷ [] = own_append asking (event.Step n s c a ∷ []) ∙ (append-nil (own_events asking) ∙ own_append past (ask_of n s c ∷ [])) in
      record {
        before = [];
        between = [];
        may_before = refl;
        may_between = refl;
        after = ap seen_in e ∙ (λ i. record { events = whole i; own = own i });
      }

  replica_asking : (m t : ℕ) → replica m t asking ≡ replica m t past
  replica_asking m t = fold-append (step_of m t) fresh past (ask_of n s c ∷ [])

  -- the slot's replica took the step
  replica_exchanged : replica n s exchanged ≡ after (replica n s past) c a
  replica_exchanged = fold-append (step_of n s) fresh asking (event.Step n s c a ∷ []) ∙ (ap (λ r. step_of n s r (event.Step n s c a)) (replica_asking n s) ∙ step_own n s (replica n s past) c a)

  -- and no other changed
  replica_others : (m t : ℕ) → (m ≡ n → t ≡ s → ⊥) → replica m t exchanged ≡ replica m t past
  replica_others m t apart = fold-append (step_of m t) fresh asking (event.Step n s c a ∷ []) ∙ (step_apart n s c a m t (replica m t asking) apart ∙ replica_asking m t)

module _ {D : Type 0} (state : D → DiskState) (slot : Slot) where
  -- A step is lawful, whatever stands before it, where it was asked for and has what it is given.
  pub step_lawful : (c : StepCall) (a : StepReply) (events : List Event) (old : Member D) (new : MachineState D) → 2 ≤ length events → StepWasAsked events (event.Step slot.node slot.shard c a) → IsGiven events slot.node slot.shard c
      → IsMemberOf state slot events old → IsStep state old.machine c a new → IsLawfulOver state events (event.Step slot.node slot.shard c a)
  step_lawful c a events old new two asked' given is step tells all =
      let n = slot.node in
      let s = slot.shard in
      let r : ReplicaState = replica n s events in
      let law = step.lawful (old.first).value r is events n s given in
      lawful_later tells (length events) events (event.Step n s c a) two (asked', weaker (state (old.machine).disk).tells tells (λ t. all t (old.machine).disk) events n s r c a law)

  -- so is the one that answers an Ask
  pub answer_lawful : (same : (x y : StepCall) → (x ≡ y) ⊎ (x ≡ y → ⊥)) (c : StepCall) (a : StepReply) (events : List Event) → IsAnswer state slot c a events → IsLegalOver state events → IsLawfulOver state events (event.Step slot.node slot.shard c a)
  answer_lawful same c a events h legal tells all =
      let n = slot.node in
      let s = slot.shard in
      let past : List Event = h.past in
      let more : List Event = asking n s c a past in
      let legal' : Legal tells more = subst (Legal tells) h.asked (legal tells all) in
      let asked' = was_asked n s c a past (balanced n s c a same h.answers tells past (legal_init tells past (ask_of n s c ∷ []) legal')) in
      let is' : IsMemberOf state slot more h.old = subst (λ r. IsMachineOf state (state ((h.old).first).value).images r (h.old).machine) (sym (replica_asking n s c a past n s)) h.is in
      let opened = h.opened in
      let two : 2 ≤ length more = omega (arith, opened, length-append past (ask_of n s c ∷ [])) in
      subst (λ l. LawfulAt tells (length l) l (event.Step n s c a)) (sym h.asked)
      (step_lawful c a more h.old h.new two (asked_by more n s c a asked') (given_more past (ask_of n s c ∷ []) n s c h.given) is' h.step tells all)

  -- the machine is then that of the slot's replica
  stays_member : (c : StepCall) (a : StepReply) (past events : List Event) (old new : Member D) → events ≡ exchanged slot.node slot.shard c a past → IsMemberOf state slot past old → IsStep state old.machine c a new.machine → new.first ≡ old.first
      → IsMemberOf state slot events new
  stays_member c a past events old new grew is step first =
      subst (λ l. IsMemberOf state slot l new) (sym grew)
      (subst (λ f. IsMachineOf state (state f.value).images (replica slot.node slot.shard (exchanged slot.node slot.shard c a past)) new.machine) (sym first)
      (subst (λ r. IsMachineOf state (state (old.first).value).images r new.machine) (sym (replica_exchanged slot.node slot.shard c a past)) (step.follows (old.first).value (replica slot.node slot.shard past) is)))

-- ---- as a call makes them

pub opened_after : {was now : ℕ} → 2 ≤ was → was ≤ now → 2 ≤ now
opened_after opened longer = omega (arith, opened, longer)

pub is_answer : {D : Type 0} (state : D → DiskState) (slot : Slot) (past mid : List Event) (old : Member D) (new : MachineState D) (c c1 c2 : StepCall) (a a1 : StepReply) → mid ≡ past ++ ask_of slot.node slot.shard c1 ∷ [] → c1 ≡ c → c2 ≡ c → a1 ≡ a
    → 2 ≤ length past → IsGiven past slot.node slot.shard c → IsMemberOf state slot past old → IsStep state old.machine c a new → (c ≡ call.Report → ⊥) → IsAnswer state slot c2 a1 mid
is_answer state slot past mid old new c c1 c2 a a1 asked e f g opened given is step other =
    subst (λ b. IsAnswer state slot c2 b mid) (sym g)
    (subst (λ d. IsAnswer state slot d a mid) (sym f)
    (record { past = past; asked = asked ∙ ap (λ d. past ++ ask_of slot.node slot.shard d ∷ []) e; opened = opened; given = given; old = old; new = new; is = is; step = step; answers = other }))

-- what it comes to
pub record Went {D : Type 0} (state : D → DiskState) (slot : Slot) (Adds : Adding) (c : StepCall) (a : StepReply) (past events : List Event) (new : Member D) : Type 0 where
  pub is : IsMemberOf state slot events new
  pub others : OtherReplicasStay slot past events
  pub longer : length past ≤ length events
  pub adds : Adds c a (seen_in past) (seen_in events)

pub went : {D : Type 0} (state : D → DiskState) (slot : Slot) (past mid events : List Event) (old new : Member D) (c c1 c2 : StepCall) (a a1 : StepReply) → mid ≡ past ++ ask_of slot.node slot.shard c1 ∷ []
    → events ≡ mid ++ event.Step slot.node slot.shard c2 a1 ∷ [] → c1 ≡ c → c2 ≡ c → a1 ≡ a → IsMemberOf state slot past old → IsStep state old.machine c a new.machine → new.first ≡ old.first → Went state slot (AddsBoth slot) c a past events new
went state slot past mid events old new c c1 c2 a a1 asked stepped e f g is step first =
    let n = slot.node in
    let s = slot.shard in
    let grew : events ≡ exchanged n s c a past = stepped ∙ ((λ i. mid ++ event.Step n s (f i) (g i) ∷ []) ∙ ap (λ l. l ++ event.Step n s c a ∷ []) (asked ∙ ap (λ d. past ++ ask_of n s d ∷ []) e)) in
    record {
      is = stays_member state slot c a past events old new grew is step first;
      others = λ m t apart. ap (λ l. replica m t l) grew ∙ replica_others n s c a past m t apart;
      longer = (let long = ap length grew in let k = length-append (asking n s c a past) (event.Step n s c a ∷ []) in let j = length-append past (ask_of n s c ∷ []) in omega (arith, long, k, j));
      adds = exchanged_alone n s c a past events grew;
    }

-- ---- a report, which nobody asks for

module _ {D : Type 0} (state : D → DiskState) (slot : Slot) (a : StepReply) (events : List Event) (m : Member D) where
  pub tell_lawful : 2 ≤ length events → IsMemberOf state slot events m → IsStep state m.machine call.Report a m.machine → IsLawfulOver state events (event.Step slot.node slot.shard call.Report a)
  tell_lawful opened is step = step_lawful state slot call.Report a events m m.machine opened tt tt is step

  pub told : (now : List Event) → now ≡ events ++ event.Step slot.node slot.shard call.Report a ∷ [] → IsMemberOf state slot events m → IsStep state m.machine call.Report a m.machine → Went state slot (AddsStep slot) call.Report a events now m
  told now grew is step =
      let n = slot.node in
      let s = slot.shard in
      let more : List Event = event.Step n s call.Report a ∷ [] in
      let whole : events ++ more ≡ (events ++ []) ++ more = ap (λ l. l ++ more) (sym (append-nil events)) in
      let own : own_events (events ++ more) ≡ own_events events = own_append events more ∙ append-nil (own_events events) in
      let after_is : replica n s now ≡ after (replica n s events) call.Report a = ap (λ l. replica n s l) grew ∙ (fold-append (step_of n s) fresh events more ∙ step_own n s (replica n s events) call.Report a) in
      record {
        is = subst (λ r. IsMachineOf state (state (m.first).value).images r m.machine) (sym after_is) (step.follows (m.first).value (replica n s events) is);
        others = λ q t apart. ap (λ l. replica q t l) grew ∙ (fold-append (step_of q t) fresh events more ∙ step_apart n s call.Report a q t (replica q t events) apart);
        longer = (let long = ap length grew in let k = length-append events more in omega (arith, long, k));
        adds = record { before = []; may_before = refl; after = ap seen_in grew ∙ (λ i. record { events = whole i; own = own i }) };
      }
