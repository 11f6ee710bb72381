-- One replica that is asked, or that reports.
use Rattle.std.proofs.Common.{◌≡◌, ℕ, List, ◌∷◌, [], ◌++◌, refl, sym, ap, ◌∙◌, subst, inl, inr}
use Rattle.std.proofs.lemmas.List.{append-nil}
use Rattle.std.specs.Prelude.{◌≢◌, ◌⊎◌, Option, Some, None, Result, Ok, Err, IsErrOf, IfErr}
use Rattle.std.specs.FinMap as finite
use Rattle.m3_model.specs.declared.reason.Damage.{Damage}
use Rattle.m3_model.specs.declared.reason.Reason.{Reason}
use Rattle.m3_model.specs.declared.reason.Reason.TheVariants as reason
use Rattle.m3_model.specs.declared.replica.Report.{Report}
use Rattle.m3_model.specs.declared.replica.Standing.{Standing}
use Rattle.m3_model.specs.declared.replica.Standing.TheVariants as standing
use Rattle.m3_outside.specs.DiskState.{DiskState}
use Rattle.cluster_core.specs.Refusals.{shut}
use Rattle.cluster_core.specs.declared.event.Event.{Event}
use Rattle.cluster_core.specs.declared.event.Event.TheVariants as event
use Rattle.cluster_core.specs.declared.event.StepCall.{StepCall}
use Rattle.cluster_core.specs.declared.event.StepCall.TheVariants as call
use Rattle.cluster_core.specs.declared.event.StepReply.{StepReply}
use Rattle.cluster_core.specs.declared.event.StepReply.TheVariants as reply
use Rattle.node_calls.specs.replica_machine.Damages.{IsFileDamage}
use Rattle.node_calls.specs.replica_machine.Machines.{IsOwn, IsRefusedFor, MachineState, refusal}
use Rattle.node_calls.specs.replica_machine.Steps.{reply_by}
use Rattle.node_calls.specs.replica_exchange.MachineCalls.{HasRoom, Promise, AddsStep, result_of}
use Rattle.node_calls.specs.replica_exchange.Promises.{Reports, Saves}
use Rattle.node_calls.proofs.replica_exchange_proofs.ExchangeLemmas.{exchanged, exchanged_alone}
use Rattle.node_calls.specs.replica_exchange.declared.call_err.CallErr.{CallErr}
use Rattle.node_calls.specs.replica_exchange.declared.call_err.CallErr.TheVariants as call_err
use Rattle.node_calls.specs.replica_exchange.declared.member.Member.{Member}
use Rattle.node_calls.specs.replica_exchange.declared.slot.Slot.{Slot}
use Rattle.node_calls.specs.replica_calls.Calls.{Tracked, IsMissed, MayCall, MayTell, WasCalled}
use Rattle.node_calls.specs.session_net.Messages.{exchange}
use Rattle.node_calls.specs.session_net.Runs.{Ran}
use Rattle.node_calls.proofs.session_net_proofs.RunLemmas.{ran_called}
use Rattle.node_calls.proofs.RunLemmas.{was_called}
use Rattle.cluster_upkeep.specs.Status.{reported}
use Rattle.cluster_upkeep.specs.Sweeps.{HasSaid}

-- ---- asked

same_said : (a b : Result ℕ Reason) → result_of (λ n. n) a ≡ result_of (λ n. n) b → a ≡ b
same_said (Ok n) (Ok m) e = let same : n ≡ m = cc in ap (λ k. Ok k) same
same_said (Ok n) (Err why) e = cc
same_said (Err why) (Ok m) e = cc
same_said (Err why) (Err other) e = let same : why ≡ other = cc in ap (λ k. Err k) same

-- a call that counts, of which the promise says that damage is that of a file
module _ {D : Type 0} (state : D → DiskState) (slot : Slot) (c : StepCall) (Promised : Promise D ℕ) (form_of : (said : Result ℕ Reason) (a b : MachineState D) → Promised c said a b → (damage : Damage) → IsErrOf said (reason.Corrupt damage) → IsFileDamage damage)
    (result : Result ℕ CallErr) (old new : Tracked D) (there : finite.get old.members slot ≢ None) (room : HasRoom 2 old.events) (h : MayCall state slot c (λ n. reply.Count n) Promised (λ n. n) result old new) where
  pub has_said : (said : Result ℕ Reason) → result ≡ result_of (λ n. n) said → HasSaid state slot c said old new
  has_said said is =
      let called = was_called state slot c (λ n. reply.Count n) Promised (λ n. n) result old new there room h in
      let own = called.answered.said in
      let same : own ≡ said = same_said own said (sym called.answered.told ∙ is) in
      record {
        ran = subst (λ r. Ran state old (exchange slot.node slot.shard c (reply_by (λ n. reply.Count n) r)) new) same (ran_called state slot c (λ n. reply.Count n) Promised (λ n. n) result old new called);
        form = subst (λ r. (damage : Damage) → IsErrOf r (reason.Corrupt damage) → IsFileDamage damage) same (form_of own called.before.machine called.after.machine called.answered.promised);
      }

  never_full : result ≡ Err call_err.Full → ⊥
  never_full full =
      let called = was_called state slot c (λ n. reply.Count n) Promised (λ n. n) result old new there room h in
      never called.answered.said (sym called.answered.told ∙ full)
    where
      never : (said : Result ℕ Reason) → result_of (λ n. n) said ≡ Err call_err.Full → ⊥
      never (Ok n) e = cc
      never (Err why) e = cc

-- ---- saved

-- want of memory and a fault are no damage
own_is_no_damage : (why : Reason) → IsOwn why → (damage : Damage) → why ≡ reason.Corrupt damage → ⊥
own_is_no_damage why (inl is) damage e = let same : reason.Memory ≡ reason.Corrupt damage = sym is ∙ e in cc
own_is_no_damage why (inr is) damage e = let same : reason.Disk ≡ reason.Corrupt damage = sym is ∙ e in cc

refused_no_damage : (s : Standing) (said : Result ℕ Reason) → IsRefusedFor (shut s) said → (damage : Damage) → IsErrOf said (reason.Corrupt damage) → ⊥
refused_no_damage standing.Open (Err why) h damage is = let same : why ≡ reason.Corrupt damage = cc in own_is_no_damage why h damage same
refused_no_damage standing.Down (Err why) h damage is = cc
refused_no_damage standing.Boot (Err why) h damage is = cc
refused_no_damage s (Ok n) h damage is = cc

-- a machine that saves reads no file, so it finds no damage
pub saves_form : {D : Type 0} (state : D → DiskState) (said : Result ℕ Reason) (a b : MachineState D) → Saves state call.Snapshot said a b → (damage : Damage) → IsErrOf said (reason.Corrupt damage) → IsFileDamage damage
saves_form state said a b promised damage is = absurd (refused_no_damage a.standing said promised.refused damage is)

-- ---- reported

-- a step came that nobody asks for: its machine took it as if it had been asked
ran_told : {D X Y : Type 0} (state : D → DiskState) (slot : Slot) (c : StepCall) (ok : X → StepReply) (Promised : Promise D X) (f : X → Y) (result : Result Y CallErr) (old new : Tracked D) → (h : WasCalled state slot c ok Promised (AddsStep slot) f result old new)
    → Ran state old (event.Step slot.node slot.shard c (reply_by ok h.answered.said) ∷ []) new
ran_told {D} state slot c ok Promised f result old new h =
    let said : StepReply = reply_by ok h.answered.said in
    let stepped : List Event = event.Step slot.node slot.shard c said ∷ [] in
    let both : Tracked D = record { members = new.members; events = exchanged slot.node slot.shard c said old.events } in
    let as_asked = ran_called state slot c ok Promised f result old both (record {
      before = h.before;
      there = h.there;
      after = h.after;
      members = h.members;
      answered = record {
        said = h.answered.said;
        step = h.answered.step;
        promised = h.answered.promised;
        first = h.answered.first;
        adds = exchanged_alone slot.node slot.shard c said old.events both.events refl;
        told = h.answered.told;
      };
    }) in
    let adds = h.answered.adds in
    record {
      grew = ap (λ x. x.events) adds.after ∙ ap (λ b. (old.events ++ b) ++ stepped) adds.may_before ∙ ap (λ es. es ++ stepped) (append-nil old.events);
      stepped = as_asked.stepped;
      only = as_asked.only;
    }

module _ {D : Type 0} (state : D → DiskState) (slot : Slot) (result : Result Report CallErr) (old new : Tracked D) (there : finite.get old.members slot ≢ None) (room : HasRoom 1 old.events)
    (h : MayTell state slot call.Report (λ report. reply.Told report) (Reports state) (λ report. report) result old new) where
  not_missed : (o : Option (Member D)) → finite.get old.members slot ≡ o → IsMissed 1 o old.events result → ⊥
  not_missed None is missed = absurd (there is)
  not_missed (Some m) is missed = absurd (missed.0 room)

  told_it : WasCalled state slot call.Report (λ report. reply.Told report) (Reports state) (AddsStep slot) (λ report. report) result old new
  told_it = elim h as (λ _. WasCalled state slot call.Report (λ report. reply.Told report) (Reports state) (AddsStep slot) (λ report. report) result old new) [
    | inl missed ↦ absurd (not_missed (finite.get old.members slot) refl missed.missed)
    | inr called ↦ called
  ]

  -- what it said is its report
  said_report : (said : Result Report Reason) → IfErr said (λ why. ⊥) → (report : Report) → result_of (λ r. r) said ≡ Ok report → said ≡ Ok report
  said_report (Ok own) fine report e = let same : own ≡ report = cc in ap (λ r. Ok r) same
  said_report (Err why) fine report e = absurd fine

  pub has_reported : (report : Report) → result ≡ Ok report → Ran state old (reported slot report) new
  has_reported report is =
      let same = said_report told_it.answered.said told_it.answered.promised.never_refused report (sym told_it.answered.told ∙ is) in
      subst (λ said. Ran state old (event_of said ∷ []) new) same (ran_told state slot call.Report (λ r. reply.Told r) (Reports state) (λ r. r) result old new told_it)
    where
      event_of : Result Report Reason → Event
      event_of said = event.Step slot.node slot.shard call.Report (reply_by (λ r. reply.Told r) said)

  pub never_silent : (e : CallErr) → result ≡ Err e → ⊥
  never_silent e is = never told_it.answered.said told_it.answered.promised.never_refused (sym told_it.answered.told ∙ is)
    where
      never : (said : Result Report Reason) → IfErr said (λ why. ⊥) → result_of (λ r. r) said ≡ Err e → ⊥
      never (Ok own) fine e = cc
      never (Err why) fine e = fine
