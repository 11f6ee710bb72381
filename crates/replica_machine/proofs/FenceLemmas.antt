-- A fence is a step of the core.
use Rattle.std.proofs.Common.{◌≡◌, inl, inr, ⊎_elim, ℕ, max, [], ◌∷◌, ◌++◌, refl, sym, ap, subst, ◌∙◌, Some, None, Result, Ok, Err, ◌≤◌, Bool, true, false, cond}
use Rattle.std.specs.Prelude.{⊤, ◌≢◌, Option, nat_le, OnOk, IfErr, IsErrOf}
use Rattle.std.specs.Option.{option_or}
use Rattle.std.proofs.lemmas.Bool.{leb-true}
use Rattle.m3_model.specs.declared.reason.Reason.{Reason}
use Rattle.m3_model.specs.declared.reason.Reason.TheVariants as reason
use Rattle.m3_model.specs.declared.replica.Standing.{Standing}
use Rattle.m3_model.specs.declared.replica.Standing.TheVariants as standing
use Rattle.m3_model.specs.Members.{IsIn}
use Rattle.m3_model.proofs.MemberLemmas.{IsIn-append_left}
use Rattle.m3_outside.specs.Causes.{CountsFaults}
use Rattle.m3_outside.proofs.Moments.{same_becomes}
use Rattle.m3_outside.specs.Files.{Files}
use Rattle.m3_outside.specs.DiskState.{DiskState, Becomes}
use Rattle.m3_outside.specs.declared.disk_err.DiskErr.{DiskErr}
use Rattle.m3_outside.specs.declared.disk_err.DiskErr.TheVariants as refused
use Rattle.shard_store.specs.shard_files.Gains.{a_fence, Brings}
use Rattle.shard_store.specs.Stores.{StoreState}
use Rattle.cluster_core.specs.Refusals.{shut, unowned, first_refusal}
use Rattle.cluster_core.specs.Replicas.{after}
use Rattle.cluster_core.specs.Rows.{IsOwner}
use Rattle.cluster_core.specs.declared.event.StepCall.TheVariants as call
use Rattle.cluster_core.specs.declared.event.StepReply.TheVariants as reply
use Rattle.cluster_core.specs.declared.replica_state.ReplicaState.{ReplicaState}
use Rattle.replica_machine.specs.declared.work.Work.{Work}
use Rattle.replica_machine.specs.Machines.{MachineState, IsMachineOf, IsHeldBy, IsRefusedFor, refusal, shut_machine, settled, settled_answer}
use Rattle.replica_machine.specs.Steps.{reply_by, IsStep, BringsTo}
use Rattle.replica_machine.proofs.PlainLemmas.{plain_step, plain_unfailed}
use Rattle.replica_machine.proofs.ReasonLemmas.{plain_no_fault, fence_plain, shut_alike, refused_none, refused_some}
use Rattle.replica_machine.proofs.DiskLemmas.{each_step, reply_counts, brings_settled, brings_none_to, each_whole}
use Rattle.replica_machine.proofs.HeldByLemmas.{held_fence_doubt}
use Rattle.replica_machine.proofs.StepLemmas.{machine_of, middle, kept_machine, shut_follows, fence_follows}

-- what a fence answers and leaves
pub record FenceDone {D : Type 0} (state : D → DiskState) (old : MachineState D) (version : ℕ) (result : Result ⊤ Reason) (new : MachineState D) : Type 0 where
  pub ok : OnOk result (new ≡ record old { disk = new.disk; fence = max old.fence version })
  pub err : IfErr result (λ why. why ≢ reason.Disk → new ≡ record old { disk = new.disk })
  pub plain : IfErr result (λ why. why ≢ reason.Disk → why ≢ reason.Memory → new ≡ old)
  pub unchanged : (state old.disk).tells ≡ true → IsErrOf result reason.Memory → Becomes (λ files. files) (state old.disk) (state new.disk)
  pub fault : IsErrOf result reason.Disk → new ≡ shut_machine standing.Down old new.disk
  pub refused : IsRefusedFor (refusal old (call.Fence version)) result
  pub disk : BringsTo (a_fence version) result (state old.disk) (state new.disk)
  pub step : IsStep state old (call.Fence version) (reply_by (λ _. reply.Done) result) new

-- what a store's fence did
pub record FenceBy {D : Type 0} (state : D → DiskState) (old mid : MachineState D) (version : ℕ) (said : Result ⊤ DiskErr) : Type 0 where
  pub ok : OnOk said (mid ≡ record old { disk = mid.disk; fence = max old.fence version })
  pub err : IfErr said (λ why. mid ≡ record old { disk = mid.disk })
  pub unchanged : (state old.disk).tells ≡ true → IsErrOf said refused.Memory → Becomes (λ files. files) (state old.disk) (state mid.disk)
  pub disk : Brings (a_fence version) said (state old.disk) (state mid.disk)

-- an open machine owns its shard at the version
pub record IsOwning (s : Standing) (t : Option ℕ) (version : ℕ) : Type 0 where
  pub open_ : s ≡ standing.Open
  pub tenure : ℕ
  pub owned : t ≡ Some tenure
  pub tenure_low : tenure ≤ version

owning_by : (tenure version : ℕ) (b : Bool) → nat_le tenure version ≡ b → cond b None (Some reason.NotOwned) ≡ None → IsOwning standing.Open (Some tenure) version
owning_by tenure version true is e = record { open_ = refl; tenure = tenure; owned = refl; tenure_low = leb-true tenure version is }
owning_by tenure version false is e = let wrong : Some reason.NotOwned ≡ None = e in absurd (cc)

owning : (s : Standing) (t : Option ℕ) (version : ℕ) → option_or (shut s) (unowned t version) ≡ None → IsOwning s t version
owning standing.Down t version e = let wrong : Some reason.Down ≡ None = e in absurd (cc)
owning standing.Boot t version e = let wrong : Some reason.Boot ≡ None = e in absurd (cc)
owning standing.Open None version e = let wrong : Some reason.NotOwned ≡ None = e in absurd (cc)
owning standing.Open (Some tenure) version e = owning_by tenure version (nat_le tenure version) refl e

module _ {D : Type 0} (state : D → DiskState) (old : MachineState D) (version : ℕ) where
  alike : {base : Files → Type 0} → (r : ReplicaState) → IsMachineOf state base r old → first_refusal r (call.Fence version) ≡ refusal old (call.Fence version)
  alike r h = shut_alike state r old h (λ t f. unowned t version)

  -- refused before the store was called
  pub fence_refused : (why : Reason) → option_or (shut old.standing) (unowned old.tenure version) ≡ Some why → FenceDone state old version (Err why) old
  fence_refused why first =
      let plain = fence_plain old.standing old.tenure version why first in
      record {
        ok = tt;
        err = λ not. refl;
        plain = λ not none. refl;
        unchanged = λ t f. same_becomes (state old.disk);
        fault = λ f. absurd (plain_unfailed ⊤ why plain f);
        refused = refused_some ⊤ (refusal old (call.Fence version)) why first;
        disk = brings_none_to (a_fence version) why (state old.disk) (plain_no_fault why plain);
        step = plain_step state old (call.Fence version) (λ tells r e. e) why plain (λ made r h. alike r h ∙ first);
      }

  module _ (first : option_or (shut old.standing) (unowned old.tenure version) ≡ None) (mid : MachineState D) where
    is_owner : {base : Files → Type 0} → (r : ReplicaState) → IsMachineOf state base r old → IsOwner r version
    is_owner r h =
        let own = owning old.standing old.tenure version first in
        let all = h.open_ own.open_ in
        record { open_ = sym h.stands ∙ own.open_; tenure = own.tenure; owned = sym all.tenure ∙ own.owned; tenure_low = own.tenure_low }

    answer_counts : (said : Result ⊤ DiskErr) → FenceBy state old mid version said → CountsFaults (reply_by (λ _. reply.Done) (settled_answer said) ≡ reply.Refused reason.Disk) (state old.disk).faults (state mid.disk).faults
    answer_counts said by = reply_counts (λ _. reply.Done) (settled_answer said) _ _ (λ x e. cc) (brings_settled (a_fence version) said (state old.disk) (state mid.disk) by.disk).faults

    fence_step : (said : Result ⊤ DiskErr) → FenceBy state old mid version said → IsStep state old (call.Fence version) (reply_by (λ _. reply.Done) (settled_answer said)) (settled said mid)
    fence_step (Ok u) by = record {
      lawful = λ made r h past n s given. is_owner r h;
      follows = λ made r h.
          subst (λ (m : MachineState D). IsMachineOf state (state made).images (after r (call.Fence version) reply.Done) m) (sym by.ok)
          (fence_follows state (state made).images r old mid.disk version (owning old.standing old.tenure version first).open_ by.disk.tells (λ t. by.disk.acknowledged t) h);
      opens = λ made r h told none. tt;
      sound = λ damage e. absurd (cc);
      tells = by.disk.tells;
      faults = answer_counts (Ok u) by;
    }
    fence_step (Err refused.Failed) by = record {
      lawful = λ made r h past n s given. record { uses = refl; taken = alike r h ∙ first; clock = tt; there = tt };
      follows = λ made r h.
          let q : ReplicaState = record r { standing = standing.Down; doubt_fences = r.doubt_fences ++ version ∷ [] } in
          let all = h.open_ (owning old.standing old.tenure version first).open_ in
          subst (λ (m : MachineState D). IsMachineOf state (state made).images q m) (ap (λ (m : MachineState D). shut_machine standing.Down m mid.disk) (sym by.err))
          (shut_follows state (state made).images r q old standing.Down mid.disk (λ e. cc) refl refl refl refl h
          (λ b. each_step (state old.disk) (state mid.disk) (IsHeldBy r) (IsHeldBy q) by.disk.tells (λ t. (by.disk.any_moment t).images)
          (λ x y may held. held_fence_doubt r version all.sure_fences q refl refl refl (record { kept = λ o m. m; gained = λ o m. absurd m; gone = λ o stays. stays }) (λ t a. a) (λ t a. ⊎_elim (λ (m : IsIn r.begun t). inl m) (λ (m : IsIn r.tried t × IsIn r.doubt_fences t). inr (m.0, IsIn-append_left r.doubt_fences (version ∷ []) t m.1)) a) x y may held) (h.files b))
          (λ none. absurd (all.begun none))
          (each_whole (state old.disk) (state mid.disk) (state made).images by.disk.tells (λ t. (by.disk.any_moment t).images) (λ x y may. may.snapshots) h.snapshots));
      opens = λ made r h told none. tt;
      sound = λ damage e. absurd (cc);
      tells = by.disk.tells;
      faults = answer_counts (Err refused.Failed) by;
    }
    fence_step (Err refused.Memory) by = record {
      lawful = λ made r h past n s given. tt;
      follows = λ made r h. subst (λ (m : MachineState D). IsMachineOf state (state made).images r m) (sym by.err) (kept_machine state (state made).images r old mid.disk by.disk.tells (λ t. by.disk.unchanged t refl) h);
      opens = λ made r h told none. tt;
      sound = λ damage e. absurd (cc);
      tells = by.disk.tells;
      faults = answer_counts (Err refused.Memory) by;
    }

    fence_done_said : (said : Result ⊤ DiskErr) → FenceBy state old mid version said → FenceDone state old version (settled_answer said) (settled said mid)
    fence_done_said (Ok u) by = record {
      ok = by.ok;
      err = tt;
      plain = tt;
      unchanged = λ t f. absurd (none f);
      fault = λ f. absurd (never f);
      refused = refused_none (refusal old (call.Fence version)) (Ok u) first;
      disk = brings_settled (a_fence version) (Ok u) (state old.disk) (state mid.disk) by.disk;
      step = fence_step (Ok u) by;
    }
      where
        never : (let r : Result ⊤ Reason = Ok u in IsErrOf r reason.Disk) → ⊥
        never f = cc

        none : (let r : Result ⊤ Reason = Ok u in IsErrOf r reason.Memory) → ⊥
        none f = cc
    fence_done_said (Err refused.Failed) by = record {
      ok = tt;
      err = λ not. absurd (not refl);
      plain = λ not none. absurd (not refl);
      unchanged = λ t f. absurd (none f);
      fault = λ f. ap (λ (m : MachineState D). shut_machine standing.Down m mid.disk) by.err;
      refused = refused_none (refusal old (call.Fence version)) (Err refused.Failed) first;
      disk = brings_settled (a_fence version) (Err refused.Failed) (state old.disk) (state mid.disk) by.disk;
      step = fence_step (Err refused.Failed) by;
    }
      where
        none : (let r : Result ⊤ Reason = Err reason.Disk in IsErrOf r reason.Memory) → ⊥
        none f = cc
    fence_done_said (Err refused.Memory) by = record {
      ok = tt;
      err = λ not. by.err;
      plain = λ not none. absurd (none refl);
      unchanged = λ t f. by.unchanged t refl;
      fault = λ f. absurd (never f);
      refused = refused_none (refusal old (call.Fence version)) (Err refused.Memory) first;
      disk = brings_settled (a_fence version) (Err refused.Memory) (state old.disk) (state mid.disk) by.disk;
      step = fence_step (Err refused.Memory) by;
    }
      where
        never : (let r : Result ⊤ Reason = Err reason.Memory in IsErrOf r reason.Disk) → ⊥
        never f = cc

    pub fence_done : (said : Result ⊤ DiskErr) (result : Result ⊤ Reason) (new : MachineState D) → result ≡ settled_answer said → new ≡ settled said mid → FenceBy state old mid version said → FenceDone state old version result new
    fence_done said result new is left by =
        subst (λ (x : Result ⊤ Reason). FenceDone state old version x new) (sym is) (subst (λ (m : MachineState D). FenceDone state old version (settled_answer said) m) (sym left) (fence_done_said said by))

-- with what the store's fence did, or as it was where it was refused
pub fence_by : {D : Type 0} (state : D → DiskState) (s : Standing) (tenure : Option ℕ) (begun : ℕ) (work : Work) (old : MachineState D) (before now : StoreState D) (version : ℕ) (said : Result ⊤ DiskErr) → machine_of s tenure begun work before ≡ old
    → OnOk said (now ≡ record { disk = now.disk; open_ = true; buffered = before.buffered; content = before.content; tenure = before.tenure; fence = max before.fence version })
    → ((state before.disk).tells ≡ true → IsErrOf said refused.Memory → Becomes (λ files. files) (state before.disk) (state now.disk)) → Brings (a_fence version) said (state before.disk) (state now.disk)
    → FenceBy state old (middle s tenure begun work before now old said) version said
fence_by {D} state s tenure begun work old before now version said view ok unchanged brings = subst (λ (m : MachineState D). FenceBy state m (middle s tenure begun work before now m said) version said) view (by said ok unchanged brings)
  where
    by : (said : Result ⊤ DiskErr) → OnOk said (now ≡ record { disk = now.disk; open_ = true; buffered = before.buffered; content = before.content; tenure = before.tenure; fence = max before.fence version })
        → ((state before.disk).tells ≡ true → IsErrOf said refused.Memory → Becomes (λ files. files) (state before.disk) (state now.disk)) → Brings (a_fence version) said (state before.disk) (state now.disk)
        → FenceBy state (machine_of s tenure begun work before) (middle s tenure begun work before now (machine_of s tenure begun work before) said) version said
    by (Ok u) ok unchanged brings = record { ok = ap (machine_of s tenure begun work) ok; err = tt; unchanged = unchanged; disk = brings }
    by (Err why) ok unchanged brings = record { ok = tt; err = refl; unchanged = unchanged; disk = brings }

-- an open machine's store is open, where nothing stands against a fence
pub fence_open : (s : Standing) → shut s ≡ None → s ≡ standing.Open
fence_open standing.Down e = let wrong : Some reason.Down ≡ None = e in absurd (cc)
fence_open standing.Boot e = let wrong : Some reason.Boot ≡ None = e in absurd (cc)
fence_open standing.Open e = refl
