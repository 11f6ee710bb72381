-- Failures counted along the list.
use Rattle.std.proofs.Common.{◌≡◌, ℕ, ◌+◌, ◌≤◌, List, [], ◌∷◌, ◌++◌, Bool, true, false, cond, refl, sym, ap, subst, ◌∙◌, arith}
use Rattle.std.specs.Prelude.{Option, Some, None}
use Rattle.std.specs.FinMap as finite
use Rattle.std.proofs.lemmas.List.Elements.{filter_map-append}
use Rattle.std.proofs.lemmas.Option.{same_Some}
use Rattle.m3_model.specs.declared.reason.Reason.TheVariants as reason
use Rattle.m3_outside.specs.Causes.{RoseBy, CountsFaults as CountsCalls}
use Rattle.m3_outside.specs.DiskState.{DiskState}
use Rattle.cluster_core.specs.declared.event.Event.{Event}
use Rattle.cluster_core.specs.declared.event.StepReply.{StepReply}
use Rattle.cluster_core.specs.declared.event.StepReply.TheVariants as reply
use Rattle.node_calls.specs.replica_machine.Machines.{MachineState}
use Rattle.node_calls.specs.replica_exchange.declared.member.Member.{Member}
use Rattle.node_calls.specs.replica_exchange.declared.slot.Slot.{Slot}
use Rattle.node_calls.specs.replica_calls.Calls.{Tracked}
use Rattle.node_calls.specs.session_net.Runs.{IsStepped, Ran, Step, TakesSteps, step_in, steps_of}
use Rattle.told_runs.proofs.told_causes_proofs.FaultLemmas.{count_append}
use Rattle.line_tracks.specs.tracks.Failures.{CountGoesOn, CountsFailures, OnlyReplicasStep, OtherSlotsStay, failures_in, is_failure}

-- ---- counts

pub rose_none : (n m : ℕ) → n ≤ m → RoseBy 0 n m
rose_none n m le = omega arith

-- a count that rose by so much, and then by so much
pub rose_both : (n m before mid now : ℕ) → RoseBy n before mid → RoseBy m mid now → RoseBy (n + m) before now
rose_both n m before mid now first next = omega arith

-- ---- steps

failure_is : (a : StepReply) → is_failure a ≡ true → a ≡ reply.Refused reason.Disk
failure_is (reply.Refused reason.Disk) e = refl
failure_is _ e = cc

-- one step's count
rose_step : (a : StepReply) (before now : ℕ) → CountsCalls (a ≡ reply.Refused reason.Disk) before now → RoseBy (cond (is_failure a) 1 0) before now
rose_step a before now h = by (is_failure a) refl
  where
    by : (b : Bool) → is_failure a ≡ b → RoseBy (cond b 1 0) before now
    by true is = h.rose (failure_is a is)
    by false is = rose_none before now h.later

pub failures_append : (xs ys : List Step) → failures_in (xs ++ ys) ≡ failures_in xs + failures_in ys
failures_append xs ys = count_append (λ (step : Step). is_failure step.reply) xs ys

failures_one : (step : Step) → failures_in (step ∷ []) ≡ cond (is_failure step.reply) 1 0
failures_one step = by (is_failure step.reply)
  where
    by : (b : Bool) → 0 + cond b 1 0 ≡ cond b 1 0
    by true = refl
    by false = refl

pub steps_append : (s : Slot) (xs ys : List Event) → steps_of s (xs ++ ys) ≡ steps_of s xs ++ steps_of s ys
steps_append s xs ys = filter_map-append (step_in s) xs ys

no_some : {X : Type 0} (o : Option X) (x : X) → o ≡ None → o ≡ Some x → ⊥
no_some o x none some = let clash : None ≡ Some x = sym none ∙ some in cc

module _ {D : Type 0} (state : D → DiskState) where
  pub rises : (steps : List Step) (old new : MachineState D) → TakesSteps state steps old new → RoseBy (failures_in steps) (state old.disk).faults (state new.disk).faults
  rises [] old new same = subst (λ (m : MachineState D). RoseBy 0 (state old.disk).faults (state m.disk).faults) (sym same) (rose_none (state old.disk).faults (state old.disk).faults (omega arith))
  rises (step ∷ steps) old new h =
      let mid = h.0 in
      let one = rose_step step.reply (state old.disk).faults (state mid.disk).faults (h.1).faults in
      let rest = rises steps mid new h.2 in
      let sum : failures_in (step ∷ steps) ≡ cond (is_failure step.reply) 1 0 + failures_in steps = failures_append (step ∷ []) steps ∙ ap (λ n. n + failures_in steps) (failures_one step) in
      subst (λ n. RoseBy n (state old.disk).faults (state new.disk).faults) (sym sum) (rose_both (cond (is_failure step.reply) 1 0) (failures_in steps) (state old.disk).faults (state mid.disk).faults (state new.disk).faults one rest)

  -- where a slot has a replica after steps, it had one before
  pub record Stepped (steps : List Step) (old : Option (Member D)) (m : Member D) : Type 0 where
    pub before : Member D
    pub was : old ≡ Some before
    pub first : m.first ≡ before.first
    pub takes : TakesSteps state steps before.machine m.machine

  pub stepped_from : (steps : List Step) (old new : Option (Member D)) (m : Member D) → IsStepped state steps old new → new ≡ Some m → Stepped steps old m
  stepped_from steps None new m gone is = absurd (no_some new m gone is)
  stepped_from steps (Some before) new m h is =
      let same : h.0 ≡ m = same_Some h.0 m (sym h.1 ∙ is) in
      record { before = before; was = refl; first = subst (λ (x : Member D). x.first ≡ before.first) same h.2; takes = subst (λ (x : Member D). TakesSteps state steps before.machine x.machine) same h.3 }

  -- and where it has none after steps, it had none
  pub stepped_none : (steps : List Step) (old new : Option (Member D)) → IsStepped state steps old new → new ≡ None → old ≡ None
  stepped_none steps None new gone is = refl
  stepped_none steps (Some before) new h is = absurd (no_some new h.0 is h.1)

  module _ (old new : Tracked D) (more : List Event) (ran : Ran state old more new) where
    pub steps_grew : (s : Slot) → steps_of s new.events ≡ steps_of s old.events ++ steps_of s more
    steps_grew s = ap (steps_of s) ran.grew ∙ steps_append s old.events more

    pub others_on : OnlyReplicasStep old old.events → OnlyReplicasStep old more → OnlyReplicasStep new new.events
    others_on was came s none =
        let before = stepped_none (steps_of s more) (finite.get old.members s) (finite.get new.members s) (ran.stepped s) none in
        steps_grew s ∙ ap (λ xs. xs ++ steps_of s more) (was s before) ∙ came s before

    counts_on : ((s : Slot) (m : Member D) → finite.get old.members s ≡ Some m → CountsFailures state (steps_of s old.events) m) → (s : Slot) (m : Member D) → finite.get new.members s ≡ Some m → CountsFailures state (steps_of s new.events) m
    counts_on was s m is =
        let h = stepped_from (steps_of s more) (finite.get old.members s) (finite.get new.members s) m (ran.stepped s) is in
        let first : (state (m.first).value).faults ≡ (state (h.before.first).value).faults = ap (λ f. (state f.value).faults) h.first in
        let sum : failures_in (steps_of s new.events) ≡ failures_in (steps_of s old.events) + failures_in (steps_of s more) = ap failures_in (steps_grew s) ∙ failures_append (steps_of s old.events) (steps_of s more) in
        subst (λ n. RoseBy n (state (m.first).value).faults (state m.machine.disk).faults) (sym sum)
        (subst (λ n. RoseBy (failures_in (steps_of s old.events) + failures_in (steps_of s more)) n (state m.machine.disk).faults) (sym first)
        (rose_both (failures_in (steps_of s old.events)) (failures_in (steps_of s more)) (state (h.before.first).value).faults (state h.before.machine.disk).faults (state m.machine.disk).faults
        (was s h.before h.was) (rises (steps_of s more) h.before.machine m.machine h.takes)))

  pub count_goes_on : (old : Tracked D) → CountGoesOn state old
  count_goes_on old new more was ran came = record { counts = counts_on old new more ran was.counts; others = others_on old new more ran was.others came }

  stays_by : (steps : List Step) (old new : Option (Member D)) → IsStepped state steps old new → steps ≡ [] → new ≡ old
  stays_by steps None new gone none = gone
  stays_by steps (Some before) new h none =
      let takes = subst (λ xs. TakesSteps state xs before.machine (h.0).machine) none h.3 in
      h.1 ∙ ap Some (λ i. record { machine = takes i; first = h.2 i })

  pub other_slots_stay : (old : Tracked D) → OtherSlotsStay state old
  other_slots_stay old new more s ran none = stays_by (steps_of s more) (finite.get old.members s) (finite.get new.members s) (ran.stepped s) none
