-- A call that is refused for a plain reason is a step of the core that changes nothing.
use Rattle.std.proofs.Common.{◌≡◌, ℕ, List, refl, subst, Bool, Some, Result, Err}
use Rattle.std.specs.Prelude.{IsErrOf}
use Rattle.m3_model.specs.declared.reason.Damage.{Damage}
use Rattle.m3_model.specs.declared.reason.Reason.{Reason}
use Rattle.m3_model.specs.declared.reason.Reason.TheVariants as reason
use Rattle.m3_outside.specs.Files.{Files}
use Rattle.m3_outside.specs.DiskState.{DiskState}
use Rattle.shard_store.proofs.LogStepLemmas.{counts_same}
use Rattle.cluster_core.specs.Refusals.{first_refusal}
use Rattle.cluster_core.specs.Replicas.{after}
use Rattle.cluster_core.specs.Rows.{LawfulStep, MayBeUnowned, ReplicaMayRefuse}
use Rattle.cluster_core.specs.declared.event.Event.{Event}
use Rattle.cluster_core.specs.declared.event.StepCall.{StepCall}
use Rattle.cluster_core.specs.declared.event.StepCall.TheVariants as call
use Rattle.cluster_core.specs.declared.event.StepReply.TheVariants as reply
use Rattle.cluster_core.specs.declared.replica_state.ReplicaState.{ReplicaState}
use Rattle.replica_machine.specs.Bases.{HasOpening}
use Rattle.replica_machine.specs.Machines.{MachineState, IsMachineOf}
use Rattle.replica_machine.specs.Steps.{IsStep}
use Rattle.replica_machine.proofs.ReasonLemmas.{IsPlain, plain_lawful, plain_no_damage, plain_no_fault}

-- the replica is as it was
plain_keeps : (r : ReplicaState) (c : StepCall) (why : Reason) → IsPlain why → r ≡ after r c (reply.Refused why)
plain_keeps r (call.Begin tenure) reason.Disk plain = absurd plain
plain_keeps r (call.Put client number rules version point) reason.Disk plain = absurd plain
plain_keeps r (call.Merge page) reason.Disk plain = absurd plain
plain_keeps r (call.Fence version) reason.Disk plain = absurd plain
plain_keeps r (call.Tick rules) reason.Disk plain = absurd plain
plain_keeps r (call.Tick rules) (reason.Corrupt damage) plain = absurd plain
plain_keeps r _ reason.Disk plain = absurd plain
plain_keeps r _ (reason.Corrupt damage) plain = absurd plain
plain_keeps r _ _ plain = refl

-- a step that refuses is lawful as the core says of refusals
refused_lawful : (tells : Bool) (past : List Event) (n s : ℕ) (r : ReplicaState) (c : StepCall) (why : Reason) → ReplicaMayRefuse tells past s r c why → LawfulStep tells past n s r c (reply.Refused why)
refused_lawful tells past n s r (call.Begin tenure) why may = may
refused_lawful tells past n s r (call.Put client number rules version point) why may = may
refused_lawful tells past n s r (call.Read client number rules version pick from to) why may = may
refused_lawful tells past n s r (call.Fence version) why may = may
refused_lawful tells past n s r (call.Page from) why may = may
refused_lawful tells past n s r (call.Block ns start size from) why may = may
refused_lawful tells past n s r (call.Merge page) why may = may
refused_lawful tells past n s r (call.Tick rules) why may = may
refused_lawful tells past n s r (call.Flush rules) why may = may
refused_lawful tells past n s r call.Snapshot why may = may
refused_lawful tells past n s r (call.Digests rules) why may = may
refused_lawful tells past n s r call.Report why may = may
refused_lawful tells past n s r call.End why may = may
refused_lawful tells past n s r call.Stop why may = may
refused_lawful tells past n s r call.Restart why may = may

-- a refusal opens nothing
refused_opens : (base : Files → Type 0) (tried : List ℕ) (c : StepCall) (why : Reason) → HasOpening base tried c (reply.Refused why)
refused_opens base tried (call.Begin tenure) why = tt
refused_opens base tried _ why = tt

-- such a reason is no fault of the disk
pub plain_unfailed : (X : Type 0) (why : Reason) → IsPlain why → (let r : Result X Reason = Err why in IsErrOf r reason.Disk) → ⊥
plain_unfailed X why plain f = plain_no_fault why plain (err_same f)
  where
    err_same : (let r : Result X Reason = Err why in IsErrOf r reason.Disk) → why ≡ reason.Disk
    err_same f = cc

-- where it is the first reason that stands against the call, and the call may be refused as not owned on that ground alone
pub plain_step : {D : Type 0} (state : D → DiskState) (old : MachineState D) (c : StepCall) → ((tells : Bool) (r : ReplicaState) → first_refusal r c ≡ Some reason.NotOwned → MayBeUnowned tells r c) → (why : Reason) → IsPlain why
    → ((made : D) (r : ReplicaState) → IsMachineOf state (state made).images r old → first_refusal r c ≡ Some why) → IsStep state old c (reply.Refused why) old
plain_step state old c unowned why plain first = record {
  lawful = λ made r h past n s given. refused_lawful _ past n s r c why (plain_lawful _ past s r c (unowned _ r) why plain (first made r h));
  follows = λ made r h. subst (λ (q : ReplicaState). IsMachineOf state (state made).images q old) (plain_keeps r c why plain) h;
  opens = λ made r h told none. refused_opens (state made).images r.tried c why;
  sound = λ damage e. absurd (plain_no_damage why plain damage (reply_damage damage e));
  tells = refl;
  faults = counts_same _ _ (λ e. plain_no_fault why plain (reply_same e));
}
  where
    reply_same : reply.Refused why ≡ reply.Refused reason.Disk → why ≡ reason.Disk
    reply_same e = cc

    reply_damage : (damage : Damage) → reply.Refused why ≡ reply.Refused (reason.Corrupt damage) → why ≡ reason.Corrupt damage
    reply_damage damage e = cc
