-- Stops, restarts, reports and reads are steps of the core.
use Rattle.std.proofs.Common.{◌≡◌, inl, inr, ℕ, List, [], refl, sym, ap, subst, ◌∙◌, true, Some, None, Result, Ok, Err, arith}
use Rattle.std.specs.Prelude.{⊤, Option, slice_get, OnOk, IfErr, IsErrOf}
use Rattle.std.proofs.lemmas.Bool.{OnTrue_from}
use Rattle.m3_model.specs.Reads.{space_picked}
use Rattle.m3_model.specs.declared.point.Pick.{Pick}
use Rattle.m3_model.specs.declared.point.Series.{Series}
use Rattle.m3_model.specs.declared.reason.Reason.{Reason}
use Rattle.m3_model.specs.declared.reason.Reason.TheVariants as reason
use Rattle.m3_model.specs.declared.replica.Report.{Report}
use Rattle.m3_model.specs.declared.replica.Standing.{Standing}
use Rattle.m3_model.specs.declared.replica.Standing.TheVariants as standing
use Rattle.m3_model.specs.declared.rules.Rules.{Rules}
use Rattle.m3_model.specs.declared.rules.Space.{Space}
use Rattle.m3_outside.specs.Files.{Files}
use Rattle.m3_outside.specs.DiskState.{DiskState, StepOf}
use Rattle.m3_outside.specs.DiskCalls.{Restarts}
use Rattle.m3_outside.specs.declared.disk_err.DiskErr.{DiskErr}
use Rattle.m3_outside.specs.declared.disk_err.DiskErr.TheVariants as refused
use Rattle.shard_store.specs.shard_files.Parts.{AreWhole}
use Rattle.shard_store.specs.shard_files.Gains.{nothing, Gains}
use Rattle.shard_store.specs.Stores.{StoreState, closed_over}
use Rattle.shard_store.proofs.shard_files_proofs.GainLemmas.{gains_nothing}
use Rattle.shard_store.proofs.LogStepLemmas.{counts_same}
use Rattle.shard_store.proofs.Counts.{counts_for}
use Rattle.cluster_core.specs.Replicas.{fresh}
use Rattle.cluster_core.specs.Rows.{open_fence}
use Rattle.cluster_core.specs.declared.event.StepCall.TheVariants as call
use Rattle.cluster_core.specs.declared.event.StepReply.TheVariants as reply
use Rattle.cluster_core.specs.declared.replica_state.ReplicaState.{ReplicaState}
use Rattle.replica_machine.specs.declared.work.Work.{Work}
use Rattle.replica_machine.specs.Bases.{CameFrom}
use Rattle.replica_machine.specs.Machines.{MachineState, IsStoreOf, IsMachineOf, IsHeldBy, IsLiveAnswer, IsOwn, first_machine, shut_machine, unserved, reason_of, left_by, settled_answer}
use Rattle.replica_machine.specs.Steps.{reply_by, IsStep, RestartsTo}
use Rattle.replica_machine.proofs.LiveLemmas.{live_found}
use Rattle.replica_machine.proofs.DiskLemmas.{stays_steps}
use Rattle.replica_machine.proofs.BaseLemmas.{came_itself}
use Rattle.replica_machine.proofs.HeldByLemmas.{held_nothing}
use Rattle.replica_machine.proofs.StepLemmas.{machine_of, stands_at, stands_untenured, kept_machine, shut_follows, shut_kept, serving, shown}

-- a store of which only the disk changed is still its machine's
pub store_moved : {D : Type 0} (s : Standing) (store after : StoreState D) → after ≡ record store { disk = after.disk } → IsStoreOf s store → IsStoreOf s after
store_moved standing.Down store after is of = is ∙ ap (λ (x : StoreState _). record x { disk = after.disk }) of
store_moved standing.Boot store after is of = is ∙ ap (λ (x : StoreState _). record x { disk = after.disk }) of
store_moved standing.Open store after is of = ap (λ (x : StoreState _). x.open_) is ∙ of

module _ {D : Type 0} (state : D → DiskState) (old : MachineState D) where
  pub stop_step : IsStep state old call.Stop reply.Done (shut_machine standing.Down old old.disk)
  stop_step = record {
    lawful = λ made r h past n s given. tt;
    follows = λ made r h.
        let q : ReplicaState = record r { standing = standing.Down } in
        shut_follows state (state made).images r q old standing.Down old.disk (λ e. cc) refl refl refl refl h (λ b tells c image. held_nothing r q (stands_at r standing.Down) c c (gains_nothing c) (h.files b tells c image)) h.unbegun h.snapshots;
    opens = λ made r h told none. tt;
    sound = λ damage e. absurd (cc);
    tells = refl;
    faults = counts_same _ _ (λ e. cc);
  }

  -- a machine whose tenure ended
  ended : {base : Files → Type 0} → (r : ReplicaState) → IsMachineOf state base r old → IsMachineOf state base (record r { tenure = None }) (record old { tenure = None })
  ended r h = record {
    stands = h.stands;
    begun = h.begun;
    below = h.below;
    empty = h.empty;
    open_ = λ o. let a = h.open_ o in record { begun = a.begun; tenure = refl; fence = a.fence; sure = a.sure; sure_fences = a.sure_fences; shows = λ t. let shown' = a.shows t in record { sure = shown'.sure; all = shown'.all } };
    files = λ b tells c image. held_nothing r (record r { tenure = None }) (stands_untenured r) c c (gains_nothing c) (h.files b tells c image);
    unbegun = h.unbegun;
    snapshots = h.snapshots;
  }

  pub end_step : IsStep state old call.End reply.Done (record old { tenure = None })
  end_step = record {
    lawful = λ made r h past n s given. tt;
    follows = λ made r h. ended r h;
    opens = λ made r h told none. tt;
    sound = λ damage e. absurd (cc);
    tells = refl;
    faults = counts_same _ _ (λ e. cc);
  }

  report_fence : {base : Files → Type 0} → (r : ReplicaState) → IsMachineOf state base r old → (s : Standing) → old.standing ≡ s → open_fence s old.fence ≡ open_fence s r.fence
  report_fence r h standing.Down e = refl
  report_fence r h standing.Boot e = refl
  report_fence r h standing.Open e = (h.open_ e).fence

  pub report_step : (report : Report) → report.standing ≡ old.standing → report.fence ≡ open_fence old.standing old.fence → IsStep state old call.Report (reply.Told report) old
  report_step report stands fence = record {
    lawful = λ made r h past n s given. record {
      standing = stands ∙ h.stands;
      fence = fence ∙ report_fence r h old.standing refl ∙ ap (λ (s : Standing). open_fence s r.fence) h.stands;
    };
    follows = λ made r h. h;
    opens = λ made r h told none. tt;
    sound = λ damage e. absurd (cc);
    tells = refl;
    faults = counts_same _ _ (λ e. cc);
  }

  pub read_found : (client number version from to : ℕ) (rules : Rules) (pick : Pick) (space : Space) (series : List Series) → slice_get rules.spaces (space_picked pick) ≡ Some space → unserved old version ≡ None
      → IsLiveAnswer old.content rules pick from to series → IsStep state old (call.Read client number rules version pick from to) (reply.Found series) old
  read_found client number version from to rules pick space series at up answer = record {
    lawful = λ made r h past n s given. (serving state (state made).images r old version h up, given, OnTrue_from (state old.disk).tells _ (λ tells. live_found r old.content rules pick from to space series at (shown state (state made).images r old version h up tells) answer));
    follows = λ made r h. h;
    opens = λ made r h told none. tt;
    sound = λ damage e. absurd (cc);
    tells = refl;
    faults = counts_same _ _ (λ e. cc);
  }

pub first_follows : {D : Type 0} (state : D → DiskState) (disk : D) → IsMachineOf state (state disk).images fresh (first_machine disk)
first_follows state disk = record {
  stands = refl;
  begun = record { none_higher = λ k d lt. absurd (omega (arith, lt)); one_of = inl refl };
  below = λ k d lt. absurd (omega (arith, lt));
  empty = λ e. refl;
  open_ = λ e. cc;
  files = λ b. absurd (b refl);
  unbegun = λ none tells c image. came_itself (state disk).images [] c image;
  snapshots = λ sound tells c image. sound c image;
}

-- ---- restarts

-- a restart of the disk, as the machine answers it
restarts_as : (said : Result ⊤ DiskErr) (a b : DiskState) → Restarts said a b → RestartsTo (settled_answer said) a b
restarts_as (Ok u) a b r = record {
  proceeds = record { tells = r.proceeds.tells; faults = counts_for _ _ _ _ (λ e. absurd (never e)) r.proceeds.faults; told = r.proceeds.told };
  image = r.image;
  only = r.only;
  refused = r.refused;
}
  where
    never : (let x : Result ⊤ Reason = Ok u in IsErrOf x reason.Disk) → ⊥
    never e = cc
restarts_as (Err refused.Failed) a b r = record {
  proceeds = record { tells = r.proceeds.tells; faults = counts_for _ _ _ _ (λ e. refl) r.proceeds.faults; told = r.proceeds.told };
  image = r.image;
  only = r.only;
  refused = r.refused;
}
restarts_as (Err refused.Memory) a b r = record {
  proceeds = record { tells = r.proceeds.tells; faults = counts_for _ _ _ _ (λ e. absurd (never e)) r.proceeds.faults; told = r.proceeds.told };
  image = r.image;
  only = r.only;
  refused = r.refused;
}
  where
    never : (let x : Result ⊤ Reason = Err reason.Memory in IsErrOf x reason.Disk) → ⊥
    never e = cc

-- what a restart answers and leaves
pub record RestartDone {D : Type 0} (state : D → DiskState) (old : MachineState D) (result : Result ⊤ Reason) (new : MachineState D) : Type 0 where
  pub ok : OnOk result (new ≡ shut_machine standing.Boot old new.disk)
  pub memory : IsErrOf result reason.Memory → new ≡ record old { disk = new.disk }
  pub fault : IsErrOf result reason.Disk → new ≡ shut_machine standing.Down old new.disk
  pub err : IfErr result IsOwn
  pub restarts : RestartsTo result (state old.disk) (state new.disk)
  pub step : IsStep state old call.Restart (reply_by (λ _. reply.Done) result) new

module _ {D : Type 0} (state : D → DiskState) (old : MachineState D) (d : D) where
  pub restart_ok : (u : ⊤) → Restarts (Ok u) (state old.disk) (state d) → RestartDone state old (Ok u) (shut_machine standing.Boot old d)
  restart_ok u restarts = record {
    ok = refl;
    memory = λ f. absurd (no_memory f);
    fault = λ f. absurd (no_fault f);
    err = tt;
    restarts = restarts_as (Ok u) (state old.disk) (state d) restarts;
    step = record {
      lawful = λ made r h past n s given. tt;
      follows = λ made r h.
          let q : ReplicaState = record r { standing = standing.Boot } in
          shut_follows state (state made).images r q old standing.Boot d (λ e. cc) refl refl refl refl h
          (λ b tells c image.
          let told : (state old.disk).tells ≡ true = sym restarts.proceeds.tells ∙ tells in
          let files = (state d).files in
          let held = held_nothing r q (stands_at r standing.Boot) files files (gains_nothing files) (h.files b told files (restarts.image told)) in
          subst (IsHeldBy q) (sym (restarts.only told c image)) held)
          (λ none tells c image.
          let told : (state old.disk).tells ≡ true = sym restarts.proceeds.tells ∙ tells in
          subst (CameFrom (state made).images r.tried) (sym (restarts.only told c image)) (h.unbegun none told (state d).files (restarts.image told)))
          (λ sound tells c image.
          let told : (state old.disk).tells ≡ true = sym restarts.proceeds.tells ∙ tells in
          subst AreWhole (sym (restarts.only told c image)) (h.snapshots sound told (state d).files (restarts.image told)));
      opens = λ made r h told none. tt;
      sound = λ damage e. absurd (cc);
      tells = restarts.proceeds.tells;
      faults = counts_for _ _ _ _ (λ e. cc) restarts.proceeds.faults;
    };
  }
    where
      no_memory : (let x : Result ⊤ Reason = Ok u in IsErrOf x reason.Memory) → ⊥
      no_memory f = cc

      no_fault : (let x : Result ⊤ Reason = Ok u in IsErrOf x reason.Disk) → ⊥
      no_fault f = cc

  steps : (e : DiskErr) → (let x : Result ⊤ DiskErr = Err e in Restarts x (state old.disk) (state d)) → (state old.disk).tells ≡ true → (c : Files) → (state d).images c → StepOf (Gains nothing) (state old.disk).images c
  steps e restarts tells = stays_steps (state old.disk) (state d) (restarts.proceeds.told tells)

  restart_left : (e : DiskErr) → (let x : Result ⊤ DiskErr = Err e in Restarts x (state old.disk) (state d)) → RestartDone state old (Err (reason_of e)) (left_by e (record old { disk = d }))
  restart_left refused.Failed restarts = record {
    ok = tt;
    memory = λ f. absurd (no_memory f);
    fault = λ f. refl;
    err = inr refl;
    restarts = restarts_as (Err refused.Failed) (state old.disk) (state d) restarts;
    step = record {
      lawful = λ made r h past n s given. record { uses = refl; taken = refl; clock = tt; there = tt };
      follows = λ made r h. shut_kept state (state made).images r old d restarts.proceeds.tells (steps refused.Failed restarts) h;
      opens = λ made r h told none. tt;
      sound = λ damage e. absurd (cc);
      tells = restarts.proceeds.tells;
      faults = counts_for _ _ _ _ (λ e. refl) restarts.proceeds.faults;
    };
  }
    where
      no_memory : (let x : Result ⊤ Reason = Err reason.Disk in IsErrOf x reason.Memory) → ⊥
      no_memory f = cc
  restart_left refused.Memory restarts = record {
    ok = tt;
    memory = λ f. refl;
    fault = λ f. absurd (no_fault f);
    err = inl refl;
    restarts = restarts_as (Err refused.Memory) (state old.disk) (state d) restarts;
    step = record {
      lawful = λ made r h past n s given. tt;
      follows = λ made r h. kept_machine state (state made).images r old d restarts.proceeds.tells (steps refused.Memory restarts) h;
      opens = λ made r h told none. tt;
      sound = λ damage e. absurd (cc);
      tells = restarts.proceeds.tells;
      faults = counts_for _ _ _ _ (λ e. cc) restarts.proceeds.faults;
    };
  }
    where
      no_fault : (let x : Result ⊤ Reason = Err reason.Memory in IsErrOf x reason.Disk) → ⊥
      no_fault f = cc

  pub restart_refused : (e : DiskErr) (why : Reason) (new : MachineState D) → why ≡ reason_of e → new ≡ left_by e (record old { disk = d }) → (let x : Result ⊤ DiskErr = Err e in Restarts x (state old.disk) (state d)) → RestartDone state old (Err why) new
  restart_refused e why new is left restarts =
      subst (λ (w : Reason). RestartDone state old (Err w) new) (sym is) (subst (λ (m : MachineState D). RestartDone state old (Err (reason_of e)) m) (sym left) (restart_left e restarts))

-- the same of a machine by its parts
pub end_step_of : {D : Type 0} (state : D → DiskState) (s : Standing) (tenure : Option ℕ) (begun : ℕ) (work : Work) (old : MachineState D) (store : StoreState D) → machine_of s tenure begun work store ≡ old → IsStep state old call.End reply.Done (machine_of s None begun work store)
end_step_of state s tenure begun work old store view = subst (λ (m : MachineState _). IsStep state m call.End reply.Done (machine_of s None begun work store)) view (end_step state (machine_of s tenure begun work store))

module _ {D : Type 0} (state : D → DiskState) (s : Standing) (tenure : Option ℕ) (begun : ℕ) (work : Work) (old : MachineState D) (before now : StoreState D) (view : machine_of s tenure begun work before ≡ old) where
  pub restart_refused_of : (e : DiskErr) (why : Reason) (new : MachineState D) → now ≡ record before { disk = now.disk } → why ≡ reason_of e → new ≡ left_by e (machine_of s tenure begun work now) → (let x : Result ⊤ DiskErr = Err e in Restarts x (state before.disk) (state now.disk))
      → RestartDone state old (Err why) new
  restart_refused_of e why new moved is left restarts =
      subst (λ (m : MachineState D). RestartDone state m (Err why) new) view (restart_refused state (machine_of s tenure begun work before) now.disk e why new is (left ∙ ap (left_by e) (ap (machine_of s tenure begun work) moved)) restarts)

  pub restart_ok_of : (u : ⊤) → now ≡ closed_over now.disk → Restarts (Ok u) (state before.disk) (state now.disk) → RestartDone state old (Ok u) (machine_of standing.Boot tenure begun work now)
  restart_ok_of u closed restarts =
      subst (λ (m : MachineState D). RestartDone state m (Ok u) (machine_of standing.Boot tenure begun work now)) view
      (subst (λ (store : StoreState D). RestartDone state (machine_of s tenure begun work before) (Ok u) (machine_of standing.Boot tenure begun work store)) (sym closed) (restart_ok state (machine_of s tenure begun work before) now.disk u restarts))

  pub stop_step_of : now ≡ closed_over before.disk → IsStep state old call.Stop reply.Done (machine_of standing.Down tenure begun work now)
  stop_step_of closed =
      subst (λ (m : MachineState D). IsStep state m call.Stop reply.Done (machine_of standing.Down tenure begun work now)) view
      (subst (λ (store : StoreState D). IsStep state (machine_of s tenure begun work before) call.Stop reply.Done (machine_of standing.Down tenure begun work store)) (sym closed) (stop_step state (machine_of s tenure begun work before)))
