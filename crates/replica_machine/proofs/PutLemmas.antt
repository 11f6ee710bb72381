-- A put is a step of the core.
use Rattle.std.proofs.Common.{◌≡◌, ℕ, true, [], ◌∷◌, ◌++◌, refl, sym, ap, subst, ◌∙◌, Option, Some, None, Result, Ok, Err}
use Rattle.std.specs.Prelude.{⊤, ◌≢◌, OnOk, IfErr, IsErrOf}
use Rattle.std.specs.Option.{option_or}
use Rattle.m3_model.specs.Contents.{raised}
use Rattle.m3_outside.proofs.Moments.{same_becomes}
use Rattle.m3_model.specs.Rules.{InWindow}
use Rattle.m3_model.specs.declared.point.Point.{Point}
use Rattle.m3_model.specs.declared.reason.Reason.{Reason}
use Rattle.m3_model.specs.declared.reason.Reason.TheVariants as reason
use Rattle.m3_model.specs.declared.replica.Standing.{Standing}
use Rattle.m3_model.specs.declared.replica.Standing.TheVariants as standing
use Rattle.m3_model.specs.declared.rules.Rules.{Rules}
use Rattle.m3_outside.specs.Causes.{CountsFaults}
use Rattle.m3_outside.specs.Files.{Files}
use Rattle.m3_outside.specs.DiskState.{DiskState, Becomes}
use Rattle.m3_outside.specs.declared.disk_err.DiskErr.{DiskErr}
use Rattle.m3_outside.specs.declared.disk_err.DiskErr.TheVariants as refused
use Rattle.shard_store.specs.shard_files.Gains.{a_point, Brings}
use Rattle.shard_store.specs.Stores.{StoreState}
use Rattle.cluster_core.specs.Refusals.{shut, unowned, outdated, outside, first_refusal}
use Rattle.cluster_core.specs.declared.event.StepCall.TheVariants as call
use Rattle.cluster_core.specs.declared.event.StepReply.TheVariants as reply
use Rattle.cluster_core.specs.declared.replica_state.ReplicaState.{ReplicaState}
use Rattle.replica_machine.specs.declared.work.Work.{Work}
use Rattle.replica_machine.specs.Machines.{MachineState, IsMachineOf, IsHeldBy, IsRefusedFor, refusal, unserved, shut_machine, settled, settled_answer}
use Rattle.replica_machine.specs.Steps.{reply_by, IsStep, BringsTo}
use Rattle.replica_machine.proofs.RefusalLemmas.{up}
use Rattle.replica_machine.proofs.PlainLemmas.{plain_step, plain_unfailed}
use Rattle.replica_machine.proofs.ReasonLemmas.{plain_no_fault, put_plain, shut_alike, after_three, refused_none, refused_some}
use Rattle.replica_machine.proofs.DiskLemmas.{each_step, reply_counts, brings_settled, brings_none_to, each_whole}
use Rattle.replica_machine.proofs.HeldByLemmas.{held_doubt}
use Rattle.replica_machine.proofs.StepLemmas.{machine_of, middle, kept_machine, shut_follows, put_follows, serving}

-- what a put answers and leaves
pub record PutDone {D : Type 0} (state : D → DiskState) (old : MachineState D) (version : ℕ) (rules : Rules) (p : Point) (result : Result ⊤ Reason) (new : MachineState D) : Type 0 where
  pub ok : OnOk result (new ≡ record old { disk = new.disk; buffered = raised old.buffered p; content = raised old.content p })
  pub window : OnOk result (InWindow rules p)
  pub err : IfErr result (λ why. why ≢ reason.Disk → new ≡ record old { disk = new.disk })
  pub plain : IfErr result (λ why. why ≢ reason.Disk → why ≢ reason.Memory → new ≡ old)
  pub unchanged : (state old.disk).tells ≡ true → IsErrOf result reason.Memory → Becomes (λ files. files) (state old.disk) (state new.disk)
  pub fault : IsErrOf result reason.Disk → new ≡ shut_machine standing.Down old new.disk
  pub refused : (client number : ℕ) → IsRefusedFor (refusal old (call.Put client number rules version p)) result
  pub disk : BringsTo (a_point p) result (state old.disk) (state new.disk)
  pub step : (client number : ℕ) → IsStep state old (call.Put client number rules version p) (reply_by (λ _. reply.Done) result) new

-- what a store's put did
pub record PutBy {D : Type 0} (state : D → DiskState) (old mid : MachineState D) (p : Point) (said : Result ⊤ DiskErr) : Type 0 where
  pub ok : OnOk said (mid ≡ record old { disk = mid.disk; buffered = raised old.buffered p; content = raised old.content p })
  pub memory : IsErrOf said refused.Memory → mid ≡ record old { disk = mid.disk }
  pub fault : mid ≡ record old { disk = mid.disk; buffered = mid.buffered; content = mid.content }
  pub unchanged : (state old.disk).tells ≡ true → IsErrOf said refused.Memory → Becomes (λ files. files) (state old.disk) (state mid.disk)
  pub disk : Brings (a_point p) said (state old.disk) (state mid.disk)

module _ {D : Type 0} (state : D → DiskState) (old : MachineState D) (version : ℕ) (rules : Rules) (p : Point) where
  alike : {base : Files → Type 0} → (r : ReplicaState) (client number : ℕ) → IsMachineOf state base r old → first_refusal r (call.Put client number rules version p) ≡ refusal old (call.Put client number rules version p)
  alike r client number h = shut_alike state r old h (λ t f. option_or (unowned t version) (option_or (outdated f version) (outside rules p)))

  -- refused before the store was called
  pub put_refused : (why : Reason) → option_or (shut old.standing) (option_or (unowned old.tenure version) (option_or (outdated old.fence version) (outside rules p))) ≡ Some why → PutDone state old version rules p (Err why) old
  put_refused why first =
      let plain = put_plain old.standing old.tenure old.fence version rules p why first in
      record {
        ok = tt;
        window = tt;
        err = λ not. refl;
        plain = λ not none. refl;
        unchanged = λ t f. same_becomes (state old.disk);
        fault = λ f. absurd (plain_unfailed ⊤ why plain f);
        refused = λ client number. refused_some ⊤ (refusal old (call.Put client number rules version p)) why first;
        disk = brings_none_to (a_point p) why (state old.disk) (plain_no_fault why plain);
        step = λ client number. plain_step state old (call.Put client number rules version p) (λ tells r e. e) why plain (λ made r h. alike r client number h ∙ first);
      }

  module _ (served : unserved old version ≡ None) (in_window : InWindow rules p) (inside : outside rules p ≡ None) (mid : MachineState D) where
    none_first : option_or (shut old.standing) (option_or (unowned old.tenure version) (option_or (outdated old.fence version) (outside rules p))) ≡ None
    none_first = after_three (shut old.standing) (unowned old.tenure version) (outdated old.fence version) (outside rules p) None served inside

    answer_counts : (said : Result ⊤ DiskErr) → PutBy state old mid p said → CountsFaults (reply_by (λ _. reply.Done) (settled_answer said) ≡ reply.Refused reason.Disk) (state old.disk).faults (state mid.disk).faults
    answer_counts said by = reply_counts (λ _. reply.Done) (settled_answer said) _ _ (λ x e. cc) (brings_settled (a_point p) said (state old.disk) (state mid.disk) by.disk).faults

    put_step : (said : Result ⊤ DiskErr) (client number : ℕ) → PutBy state old mid p said → IsStep state old (call.Put client number rules version p) (reply_by (λ _. reply.Done) (settled_answer said)) (settled said mid)
    put_step (Ok u) client number by = record {
      lawful = λ made r h past n s given. record { serving = serving state (state made).images r old version h served; in_window = in_window; sent = given.1; clock = given.0 };
      follows = λ made r h.
          subst (λ (m : MachineState D). IsMachineOf state (state made).images (record r { sure = r.sure ++ p ∷ [] }) m) (sym by.ok)
          (put_follows state (state made).images r old mid.disk p (up old.standing old.tenure old.fence version served).open_ by.disk.tells (λ t. by.disk.acknowledged t) h);
      opens = λ made r h told none. tt;
      sound = λ damage e. absurd (cc);
      tells = by.disk.tells;
      faults = answer_counts (Ok u) by;
    }
    put_step (Err refused.Failed) client number by = record {
      lawful = λ made r h past n s given. record { uses = refl; taken = alike r client number h ∙ none_first; clock = tt; there = given.1 };
      follows = λ made r h.
          let q : ReplicaState = record r { standing = standing.Down; doubt = r.doubt ++ p ∷ [] } in
          subst (λ (m : MachineState D). IsMachineOf state (state made).images q m) (ap (λ (m : MachineState D). shut_machine standing.Down m mid.disk) (sym by.fault))
          (shut_follows state (state made).images r q old standing.Down mid.disk (λ e. cc) refl refl refl refl h
          (λ b. each_step (state old.disk) (state mid.disk) (IsHeldBy r) (IsHeldBy q) by.disk.tells (λ t. (by.disk.any_moment t).images)
          (λ x y may held. held_doubt r q p refl refl refl (record { begun = λ t all. all; known = λ t is. is; fence = λ t f is. is }) x y may held) (h.files b))
          (λ none. absurd ((h.open_ (up old.standing old.tenure old.fence version served).open_).begun none))
          (each_whole (state old.disk) (state mid.disk) (state made).images by.disk.tells (λ t. (by.disk.any_moment t).images) (λ x y may. may.snapshots) h.snapshots));
      opens = λ made r h told none. tt;
      sound = λ damage e. absurd (cc);
      tells = by.disk.tells;
      faults = answer_counts (Err refused.Failed) by;
    }
    put_step (Err refused.Memory) client number by = record {
      lawful = λ made r h past n s given. tt;
      follows = λ made r h. subst (λ (m : MachineState D). IsMachineOf state (state made).images r m) (sym (by.memory refl)) (kept_machine state (state made).images r old mid.disk by.disk.tells (λ t. by.disk.unchanged t refl) h);
      opens = λ made r h told none. tt;
      sound = λ damage e. absurd (cc);
      tells = by.disk.tells;
      faults = answer_counts (Err refused.Memory) by;
    }

    put_done_said : (said : Result ⊤ DiskErr) → PutBy state old mid p said → PutDone state old version rules p (settled_answer said) (settled said mid)
    put_done_said (Ok u) by = record {
      ok = by.ok;
      window = in_window;
      err = tt;
      plain = tt;
      unchanged = λ t f. absurd (none f);
      fault = λ f. absurd (never f);
      refused = λ client number. refused_none (refusal old (call.Put client number rules version p)) (Ok u) none_first;
      disk = brings_settled (a_point p) (Ok u) (state old.disk) (state mid.disk) by.disk;
      step = λ client number. put_step (Ok u) client number by;
    }
      where
        never : (let r : Result ⊤ Reason = Ok u in IsErrOf r reason.Disk) → ⊥
        never f = cc

        none : (let r : Result ⊤ Reason = Ok u in IsErrOf r reason.Memory) → ⊥
        none f = cc
    put_done_said (Err refused.Failed) by = record {
      ok = tt;
      window = tt;
      err = λ not. absurd (not refl);
      plain = λ not none. absurd (not refl);
      unchanged = λ t f. absurd (none f);
      fault = λ f. ap (λ (m : MachineState D). shut_machine standing.Down m mid.disk) by.fault;
      refused = λ client number. refused_none (refusal old (call.Put client number rules version p)) (Err refused.Failed) none_first;
      disk = brings_settled (a_point p) (Err refused.Failed) (state old.disk) (state mid.disk) by.disk;
      step = λ client number. put_step (Err refused.Failed) client number by;
    }
      where
        none : (let r : Result ⊤ Reason = Err reason.Disk in IsErrOf r reason.Memory) → ⊥
        none f = cc
    put_done_said (Err refused.Memory) by = record {
      ok = tt;
      window = tt;
      err = λ not. by.memory refl;
      plain = λ not none. absurd (none refl);
      unchanged = λ t f. by.unchanged t refl;
      fault = λ f. absurd (never f);
      refused = λ client number. refused_none (refusal old (call.Put client number rules version p)) (Err refused.Memory) none_first;
      disk = brings_settled (a_point p) (Err refused.Memory) (state old.disk) (state mid.disk) by.disk;
      step = λ client number. put_step (Err refused.Memory) client number by;
    }
      where
        never : (let r : Result ⊤ Reason = Err reason.Memory in IsErrOf r reason.Disk) → ⊥
        never f = cc

    pub put_done : (said : Result ⊤ DiskErr) (result : Result ⊤ Reason) (new : MachineState D) → result ≡ settled_answer said → new ≡ settled said mid → PutBy state old mid p said → PutDone state old version rules p result new
    put_done said result new is left by =
        subst (λ (x : Result ⊤ Reason). PutDone state old version rules p x new) (sym is) (subst (λ (m : MachineState D). PutDone state old version rules p (settled_answer said) m) (sym left) (put_done_said said by))

-- with what the store's put did, or as it was where it was refused
pub put_by : {D : Type 0} (state : D → DiskState) (s : Standing) (tenure : Option ℕ) (begun : ℕ) (work : Work) (old : MachineState D) (before now : StoreState D) (p : Point) (said : Result ⊤ DiskErr) → machine_of s tenure begun work before ≡ old
    → OnOk said (now ≡ record before { disk = now.disk; buffered = raised before.buffered p; content = raised before.content p }) → ((state before.disk).tells ≡ true → IsErrOf said refused.Memory → Becomes (λ files. files) (state before.disk) (state now.disk))
    → Brings (a_point p) said (state before.disk) (state now.disk) → PutBy state old (middle s tenure begun work before now old said) p said
put_by {D} state s tenure begun work old before now p said view ok unchanged brings = subst (λ (m : MachineState D). PutBy state m (middle s tenure begun work before now m said) p said) view (by said ok unchanged brings)
  where
    by : (said : Result ⊤ DiskErr) → OnOk said (now ≡ record before { disk = now.disk; buffered = raised before.buffered p; content = raised before.content p }) → ((state before.disk).tells ≡ true → IsErrOf said refused.Memory → Becomes (λ files. files) (state before.disk) (state now.disk))
        → Brings (a_point p) said (state before.disk) (state now.disk) → PutBy state (machine_of s tenure begun work before) (middle s tenure begun work before now (machine_of s tenure begun work before) said) p said
    by (Ok u) ok unchanged brings =
        let is = ap (machine_of s tenure begun work) ok in
        record { ok = is; memory = λ f. absurd (cc); fault = is ∙ ap (λ (x : StoreState D). record (machine_of s tenure begun work before) { disk = now.disk; buffered = x.buffered; content = x.content }) (sym ok); unchanged = unchanged; disk = brings }
    by (Err why) ok unchanged brings = record { ok = tt; memory = λ f. refl; fault = refl; unchanged = unchanged; disk = brings }
