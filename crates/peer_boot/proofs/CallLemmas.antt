-- What a call of a replica that is there leaves, where the list has room for it.
use Rattle.std.proofs.Common.{◌≡◌, List, refl, sym, ap, ◌∙◌, subst, inl, inr}
use Rattle.std.specs.Prelude.{◌≢◌, ◌⊎◌, ⊤, ℕ, Bool, true, false, Option, Some, None, Result, Ok, Err, IfErr, IsErrOf, if◌then◌else◌, nat_le}
use Rattle.std.specs.FinMap as finite
use Rattle.std.specs.Option.{option_or}
use Rattle.m3_model.specs.declared.point.Key.{Key}
use Rattle.m3_model.specs.declared.point.Page.{Page}
use Rattle.m3_model.specs.declared.reason.Damage.{Damage}
use Rattle.m3_model.specs.declared.reason.Reason.{Reason}
use Rattle.m3_model.specs.declared.reason.Reason.TheVariants as reason
use Rattle.m3_model.specs.declared.replica.Standing.{Standing}
use Rattle.m3_model.specs.declared.replica.Standing.TheVariants as standing
use Rattle.session_net.specs.cluster_core.Earlier.{HasPage}
use Rattle.session_net.specs.cluster_core.Refusals.{shut, unowned, untenured}
use Rattle.session_net.specs.cluster_core.Replicas.{replica}
use Rattle.session_net.specs.cluster_core.Rows.{ReplicaMayRefuse}
use Rattle.session_net.specs.cluster_core.declared.event.Event.{Event}
use Rattle.session_net.specs.cluster_core.declared.event.StepCall.{StepCall}
use Rattle.session_net.specs.cluster_core.declared.event.StepCall.TheVariants as call
use Rattle.session_net.specs.cluster_core.declared.event.StepReply.{StepReply}
use Rattle.session_net.specs.cluster_core.declared.event.StepReply.TheVariants as reply
use Rattle.session_net.specs.cluster_core.declared.replica_state.ReplicaState.{ReplicaState}
use Rattle.session_net.specs.m3_outside.DiskState.{DiskState}
use Rattle.session_net.specs.replica_calls.Calls.{AreMembersOf, IsMissed, MayCall, Tracked, WasCalled}
use Rattle.session_net.specs.replica_exchange.MachineCalls.{AddsBoth, HasRoom, IsMemberOf, Promise, result_of}
use Rattle.session_net.specs.replica_exchange.Promises.{Fences, Merges, Pages}
use Rattle.session_net.specs.replica_exchange.declared.call_err.CallErr.{CallErr}
use Rattle.session_net.specs.replica_exchange.declared.call_err.CallErr.TheVariants as call_err
use Rattle.session_net.specs.replica_exchange.declared.member.Member.{Member}
use Rattle.session_net.specs.replica_exchange.declared.slot.Slot.{Slot}
use Rattle.session_net.specs.replica_machine.Damages.{IsFileDamage}
use Rattle.session_net.specs.replica_machine.Machines.{IsRefusedFor, MachineState, refusal}
use Rattle.session_net.specs.replica_machine.Steps.{IsStep, reply_by}
use Rattle.session_net.specs.Runs.{Ran}
use Rattle.session_net.proofs.RunLemmas.{ran_called}
use Rattle.peer_streams.specs.Joins.{IsEnding, IsPassing}
use Rattle.peer_streams.specs.Streams.{replied}
use Rattle.peer_boot.specs.Tries.{IsCalled, IsMergeReason, IsOfForm}

-- ---- any call

told_same : {X : Type 0} (said : Result X Reason) (result : Result X Reason) → result_of (λ x. x) said ≡ result_of (λ x. x) result → said ≡ result
told_same (Ok x) (Ok y) e = cc
told_same (Ok x) (Err why) e = cc
told_same (Err why) (Ok y) e = cc
told_same (Err why) (Err own) e = cc

module _ {D X : Type 0} (state : D → DiskState) (slot : Slot) (c : StepCall) (ok : X → StepReply) (Promised : Promise D X) (result : Result X CallErr) (old new : Tracked D) (there : finite.get old.members slot ≢ None) (room : HasRoom 2 old.events) where
  not_missed : (o : Option (Member D)) → finite.get old.members slot ≡ o → IsMissed 2 o old.events result → ⊥
  not_missed None is h = absurd (there is)
  not_missed (Some m) is h = absurd (h.0 room)

  -- it was called
  pub was_called : MayCall state slot c ok Promised (λ x. x) result old new → WasCalled state slot c ok Promised (AddsBoth slot) (λ x. x) result old new
  was_called (inl missed) = absurd (not_missed (finite.get old.members slot) refl missed.missed)
  was_called (inr called) = called

  -- and said so
  pub is_called : MayCall state slot c ok Promised (λ x. x) result old new → (said : Result X Reason) → result ≡ result_of (λ x. x) said → ((was now : MachineState D) → Promised c said was now → IfErr said IsOfForm) → IsCalled state slot.node slot.shard c ok old new said
  is_called h said is form =
      let called = was_called h in
      let same = told_same called.answered.said said (sym called.answered.told ∙ is) in (
        subst (λ x. Ran state old (replied slot.node slot.shard c (reply_by ok x)) new) same (ran_called state slot c ok Promised (λ x. x) result old new called),
        form (called.before).machine (called.after).machine (subst (λ x. Promised c x (called.before).machine (called.after).machine) same called.answered.promised),
      )

  -- there is room for it
  pub never_full : MayCall state slot c ok Promised (λ x. x) result old new → result ≡ Err call_err.Full → ⊥
  never_full h full = by (was_called h).answered.said (sym (was_called h).answered.told ∙ full)
    where
      by : (said : Result X Reason) → result_of (λ x. x) said ≡ Err call_err.Full → ⊥
      by (Ok x) e = cc
      by (Err why) e = cc

-- ---- reasons

-- a reason that stands against a fence isn't damage
fence_form : (o : Option Reason) (why : Reason) → ((w : Reason) → o ≡ Some w → IsPassing w) → IsRefusedFor {X = ⊤} o (Err why) → IsOfForm why
fence_form None why none (inl memory) damage is = let clash : reason.Memory ≡ reason.Corrupt damage = sym memory ∙ is in cc
fence_form None why none (inr disk) damage is = let clash : reason.Disk ≡ reason.Corrupt damage = sym disk ∙ is in cc
fence_form (Some w) why passes same damage is =
    let here : w ≡ why = cc in
    absurd (subst IsPassing (here ∙ is) (passes w refl))

-- nor is one that stands against a call of an owner
unowned_passes : (standing : Standing) (tenure : Option ℕ) (version : ℕ) (w : Reason) → option_or (shut standing) (unowned tenure version) ≡ Some w → IsPassing w
unowned_passes standing.Down tenure version w is = let same : reason.Down ≡ w = cc in subst IsPassing same tt
unowned_passes standing.Boot tenure version w is = let same : reason.Boot ≡ w = cc in subst IsPassing same tt
unowned_passes standing.Open None version w is = let same : reason.NotOwned ≡ w = cc in subst IsPassing same tt
unowned_passes standing.Open (Some tenure) version w is = by (nat_le tenure version) is
  where
    by : (b : Bool) → (if b then None else Some reason.NotOwned) ≡ Some w → IsPassing w
    by true e = let clash : None ≡ Some w = e in cc
    by false e = let same : reason.NotOwned ≡ w = cc in subst IsPassing same tt

untenured_passes : (standing : Standing) (tenure : Option ℕ) (w : Reason) → option_or (shut standing) (untenured tenure) ≡ Some w → IsPassing w
untenured_passes standing.Down tenure w is = let same : reason.Down ≡ w = cc in subst IsPassing same tt
untenured_passes standing.Boot tenure w is = let same : reason.Boot ≡ w = cc in subst IsPassing same tt
untenured_passes standing.Open None w is = let same : reason.NotOwned ≡ w = cc in subst IsPassing same tt
untenured_passes standing.Open (Some tenure) w is = let clash : None ≡ Some w = is in cc

-- what may refuse a merge
may_refuse : (tells : Bool) (past : List Event) (s : ℕ) (r : ReplicaState) (page : Page) (why : Reason) → ReplicaMayRefuse tells past s r (call.Merge page) why → IsMergeReason why
may_refuse tells past s r page reason.Cut h = absurd h
may_refuse tells past s r page reason.Down h = inl tt
may_refuse tells past s r page reason.Boot h = inl tt
may_refuse tells past s r page reason.NotOwned h = inl tt
may_refuse tells past s r page (reason.Stale fence) h = inl (untenured_passes r.standing r.tenure (reason.Stale fence) h)
may_refuse tells past s r page reason.Past h = inl (untenured_passes r.standing r.tenure reason.Past h)
may_refuse tells past s r page reason.Future h = inl (untenured_passes r.standing r.tenure reason.Future h)
may_refuse tells past s r page reason.Disk h = inr tt
may_refuse tells past s r page (reason.Corrupt damage) h = inr tt
may_refuse tells past s r page reason.Memory h = inr tt

-- ---- the three calls

module _ {D : Type 0} (state : D → DiskState) (slot : Slot) where
  pub fence_reasons : (version : ℕ) (said : Result ⊤ Reason) (was now : MachineState D) → Fences state version (call.Fence version) said was now → IfErr said IsOfForm
  fence_reasons version (Ok u) was now h = tt
  fence_reasons version (Err why) was now h = fence_form (refusal was (call.Fence version)) why (λ w is. unowned_passes was.standing was.tenure version w is) h.refused

  pub page_reasons : (after : Option Key) (said : Result Page Reason) (was now : MachineState D) → Pages state after (call.Page after) said was now → IfErr said IsOfForm
  page_reasons after (Ok page) was now h = tt
  page_reasons after (Err why) was now h = λ damage is. h.form damage (ap (λ (w : Reason). Err w) is)

  pub merge_forms : (page : Page) (said : Result ℕ Reason) (was now : MachineState D) → Merges state page (call.Merge page) said was now → IfErr said IsOfForm
  merge_forms page (Ok n) was now h = tt
  merge_forms page (Err why) was now h = λ damage is. h.form damage (ap (λ (w : Reason). Err w) is)

  pub merge_reasons : (page : Page) (result : Result ℕ CallErr) (old new : Tracked D) (there : finite.get old.members slot ≢ None) (room : HasRoom 2 old.events) → AreMembersOf state old → HasPage old.events slot.shard page
      → MayCall state slot (call.Merge page) (λ (n : ℕ). reply.Count n) (Merges state page) (λ x. x) result old new → (why : Reason) → result ≡ Err (call_err.Refused why) → IsMergeReason why
  merge_reasons page result old new there room members given h why is =
      let called = was_called state slot (call.Merge page) (λ (n : ℕ). reply.Count n) (Merges state page) result old new there room h in
      let said = told_same called.answered.said (Err why) (sym called.answered.told ∙ is) in
      let r = replica slot.node slot.shard old.events in
      let step = subst (λ x. IsStep state (called.before).machine (call.Merge page) (reply_by (λ (n : ℕ). reply.Count n) x) (called.after).machine) said called.answered.step in
      may_refuse (state ((called.before).machine).disk).tells old.events slot.shard r page why
      (step.lawful ((called.before).first).value r (members slot called.before called.there) old.events slot.node slot.shard given)
