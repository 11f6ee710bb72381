-- Deliveries: each outcome is of its message and has its cause.
use Rattle.std.specs.Prelude.{[], ◌∷◌}
use Rattle.cluster_core.specs.Rows.{LawfulStep, ReplicaMayRefuse}
use Rattle.transcripts.specs.Deliveries.{shard_of_message, AreOutcomes, IsLateMessage, LateMessage, MayComeOf}
use Rattle.m3_model.specs.Rules.{InWindow, IsPast, IsFuture}
use Rattle.told_by.specs.Hears.{HearsLate, HearsOutcomes, IsLatePut}
use Rattle.told_causes.specs.Deliveries.{IsKnownDelivery, OutcomesAreSaid}
use Rattle.told_causes.proofs.CallLemmas.{fault_here, outside_future, outside_past, put_outside}
use Rattle.std.proofs.Common.{◌≡◌, ℕ, List, [], ◌∷◌, ◌++◌, take, length, refl, ap, ◌∙◌, subst, false, Bool}
use Rattle.std.specs.Prelude.{Option, Some, None, slice_get}
use Rattle.m3_model.specs.Rules.{InWindow, IsPast, IsFuture}
use Rattle.m3_model.specs.declared.reason.Reason.{Reason}
use Rattle.m3_model.specs.declared.reason.Reason.TheVariants as reason
use Rattle.m3_model.specs.declared.rules.MetaState.{MetaState}
use Rattle.m3_model.specs.declared.rules.Rules.{Rules}
use Rattle.m3_model.specs.declared.turn.Turn.{Turn}
use Rattle.cluster_core.specs.Lists.{At}
use Rattle.cluster_core.specs.Refusals.{first_refusal}
use Rattle.cluster_core.specs.Replicas.{replica}
use Rattle.cluster_core.specs.Rows.{LawfulStep, ReplicaMayRefuse}
use Rattle.cluster_core.specs.declared.event.Event.{Event}
use Rattle.cluster_core.specs.declared.event.Event.TheVariants as event
use Rattle.cluster_core.specs.declared.event.StepCall.{StepCall}
use Rattle.cluster_core.specs.declared.event.StepCall.TheVariants as call
use Rattle.cluster_core.specs.declared.event.StepReply.TheVariants as reply
use Rattle.cluster_core.specs.declared.replica_state.ReplicaState.{ReplicaState}
use Rattle.cluster_core.proofs.TraceLemmas.{lawful_step}
use Rattle.transcripts.specs.Faults.{Fault, Failing, Damaged}
use Rattle.transcripts.specs.Record.{TurnPosition, inner_turns}
use Rattle.transcripts.specs.Rules.{rules_at}
use Rattle.told_by.specs.Told.{ToldBy}
use Rattle.told_causes.specs.Calls.{Within}
use Rattle.told_causes.specs.Faults.{faults_told}
use Rattle.told_causes.specs.Standing.{IsHaltAct}
use Rattle.told_causes.proofs.BootLemmas.{boot_cause, boot_said}
use Rattle.told_causes.proofs.DownLemmas.{down_cause, down_said}
use Rattle.told_causes.proofs.RefusalLemmas.{refused_law}
use Rattle.told_causes.proofs.RunLemmas.{serves_begun, who_serves}
use Rattle.told_causes.specs.Running.{Serves}
use Rattle.told_by.specs.Makes.{OpensReplicas}
use Rattle.transcripts.specs.Fates.{OfNode, is_stopped}
use Rattle.transcripts.specs.Waiting.{IsBegunFor, idles_after}

module _ {tells : Bool} (start : Option MetaState) (turns : List Turn) (events : List Event) (told : ToldBy start turns events) (p : TurnPosition) (known : IsKnownDelivery tells start turns events told p) where
  abbrev faults : List Fault
  faults = faults_told told.ends events (length turns)

  abbrev state : ℕ → ℕ → ℕ → ReplicaState
  state node shard i = replica node shard (take i events)

  -- what the refusal of a late put is
  refused : (m : LateMessage) (shard i : ℕ) (c : StepCall) (why : Reason) → At events i (event.Step m.node shard c (reply.Refused why)) → ReplicaMayRefuse tells (take i events) shard (state m.node shard i) c why
  refused m shard i c why there = refused_law tells (take i events) m.node shard (state m.node shard i) c why (lawful_step events known.legal i m.node shard c (reply.Refused why) there)

  late_past : (m : LateMessage) (shard i : ℕ) (c : StepCall) → IsLatePut start p m c → first_refusal (state m.node shard i) c ≡ Some reason.Past → IsPast (rules_at start p) m.point
  late_past m shard i (call.Put client number rules version point) own e =
      subst (IsPast (rules_at start p)) own.4 (subst (λ (r : Rules). IsPast r point) own.2 (outside_past rules point (slice_get rules.spaces point.ns) refl (put_outside (state m.node shard i) client number version rules point reason.Past tt e)))
  late_past m shard i _ own e = absurd own

  late_future : (m : LateMessage) (shard i : ℕ) (c : StepCall) → IsLatePut start p m c → first_refusal (state m.node shard i) c ≡ Some reason.Future → IsFuture (rules_at start p) m.point
  late_future m shard i (call.Put client number rules version point) own e =
      subst (IsFuture (rules_at start p)) own.4 (subst (λ (r : Rules). IsFuture r point) own.2 (outside_future rules point (slice_get rules.spaces point.ns) refl (put_outside (state m.node shard i) client number version rules point reason.Future tt e)))
  late_future m shard i _ own e = absurd own

  late_taken : (m : LateMessage) (shard i : ℕ) (c : StepCall) → IsLatePut start p m c → LawfulStep tells (take i events) m.node shard (state m.node shard i) c reply.Done → InWindow (rules_at start p) m.point
  late_taken m shard i (call.Put client number rules version point) own law = subst (InWindow (rules_at start p)) own.4 (subst (λ (r : Rules). InWindow r point) own.2 law.in_window)
  late_taken m shard i _ own law = absurd own

  halts_nothing : IsHaltAct p.turn.act → ⊥
  halts_nothing h = subst IsHaltAct known.delivers h

  late_serves : (m : LateMessage) (shard i : ℕ) (c : StepCall) → IsLatePut start p m c → Serves c reply.Done
  late_serves m shard i (call.Put client number rules version point) own = tt
  late_serves m shard i _ own = absurd own

  -- the node that took a message isn't stopped
  late_runs : (m : LateMessage) → IsLateMessage start p m → (shard : ℕ) → HearsLate start (Within events told.spans p) p m shard None → OfNode m.used m.node (λ name. is_stopped (inner_turns p.lines) name ≡ false)
  late_runs m late shard h =
      let named = known.named m late shard h in
      let runs = who_serves start turns events known.legal told known.halts p known.in_run m.node shard named.0 named.2 h.0 reply.Done (late_serves m shard (h.2).0 h.0 h.1) h.2 in
      record { instance_ = (named.1).instance_; stands = (named.1).stands; holds = ap (is_stopped (inner_turns p.lines)) (named.1).holds ∙ runs }

  opens_nothing : OpensReplicas p.turn.act → ⊥
  opens_nothing h = subst OpensReplicas known.delivers h

  -- and its replica was begun
  late_begun : (m : LateMessage) → IsLateMessage start p m → (shard : ℕ) → HearsLate start (Within events told.spans p) p m shard None → IsBegunFor start p m.used shard m.node
  late_begun m late shard h =
      let named = known.named m late shard h in
      let begun = serves_begun start turns events known.legal told known.halts p known.in_run opens_nothing halts_nothing m.node shard named.0 named.2 h.0 reply.Done (late_serves m shard (h.2).0 h.0 h.1) h.2 in
      record {
        instance_ = (named.1).instance_;
        stands = (named.1).stands;
        holds = ap (λ own. idles_after (record { shard = shard; node = m.node; name = own }) start (inner_turns p.lines ++ (p.earlier ++ p.beside))) (named.1).holds ∙ begun;
      }

  came : (m : LateMessage) → IsLateMessage start p m → (shard : ℕ) → shard ≡ shard_of_message start m → (o : Option Reason) → HearsLate start (Within events told.spans p) p m shard o → MayComeOf tells faults start p m shard o
  came m late shard to None h = let s = (h.2).1 in (late_taken m shard (h.2).0 h.0 h.1 (lawful_step events known.legal (h.2).0 m.node shard h.0 reply.Done s.2), late_runs m late shard h, late_begun m late shard h)
  came m late shard to (Some reason.Memory) h = tt
  came m late shard to (Some reason.Past) h = let s = (h.2).1 in late_past m shard (h.2).0 h.0 h.1 (refused m shard (h.2).0 h.0 reason.Past s.2)
  came m late shard to (Some reason.Future) h = let s = (h.2).1 in late_future m shard (h.2).0 h.0 h.1 (refused m shard (h.2).0 h.0 reason.Future s.2)
  came m late shard to (Some reason.Cut) h = let s = (h.2).1 in absurd (refused m shard (h.2).0 h.0 reason.Cut s.2)
  came m late shard to (Some reason.Disk) h =
      let s = (h.2).1 in
      fault_here start turns events known.legal told p known.in_run (h.2).0 (event.Step m.node shard h.0 (reply.Refused reason.Disk)) (record { line = length p.lines; node = m.node; shard = shard; kind = Failing }) s.0 s.1 s.2 refl refl
  came m late shard to (Some (reason.Corrupt damage)) h =
      let step = h.1 in
      let s = (step.2).1 in
      (fault_here start turns events known.legal told p known.in_run (step.2).0 (event.Step m.node shard step.0 (reply.Refused (reason.Corrupt damage))) (record { line = length p.lines; node = m.node; shard = shard; kind = Damaged }) s.0 s.1 s.2 refl refl, h.0)
  came m late shard to (Some reason.Down) h =
      let steady = (known.explained m late shard to reason.Down h).0 in
      down_said faults start p m.used m.node shard steady.name steady.named steady.there
      (down_cause start turns events known.legal told p known.in_run halts_nothing m.node shard steady.name steady.everywhere h.0 h.2)
  came m late shard to (Some reason.Boot) h =
      let why = known.explained m late shard to reason.Boot h in
      let steady = why.0 in
      λ is. boot_said start p m.used m.node shard steady.name steady.named (boot_cause start turns events known.legal told p known.in_run halts_nothing m.node shard steady.name (why.1 is) h.0 h.2)
  came m late shard to (Some reason.NotOwned) h = (known.explained m late shard to reason.NotOwned h).1
  came m late shard to (Some (reason.Stale fence)) h = (known.explained m late shard to (reason.Stale fence) h).1

  each_said : (messages : List LateMessage) (outcomes : List (ℕ × ℕ × Option Reason)) → HearsOutcomes start (Within events told.spans p) p messages outcomes → AreOutcomes tells faults start p messages outcomes
  each_said [] [] h = tt
  each_said (m ∷ messages) (x ∷ outcomes) h =
      let one = h.0 in
      (record { message = one.message; node_is = one.node_is; shard_is = one.shard_is; came = came m one.message x.1 one.shard_is x.2 one.heard }, each_said messages outcomes h.1)
  each_said [] (x ∷ outcomes) h = absurd h
  each_said (m ∷ messages) [] h = absurd h

pub outcomes_said : {tells : Bool} → OutcomesAreSaid tells
outcomes_said start turns events told p known outcomes h = record { in_order = h.in_order; each = each_said start turns events told p known h.messages outcomes h.each }
