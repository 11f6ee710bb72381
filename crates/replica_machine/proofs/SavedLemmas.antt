-- A snapshot is a step of the core.
use Rattle.std.proofs.Common.{◌≡◌, ◌≢◌, ℕ, List, refl, sym, ap, subst, ◌∙◌, true, Option, Some, None, Result, Ok, Err}
use Rattle.std.specs.Prelude.{IfOk, OnOk, IfErr, IsErrOf}
use Rattle.m3_model.specs.declared.reason.Reason.{Reason}
use Rattle.m3_model.specs.declared.reason.Reason.TheVariants as reason
use Rattle.m3_model.specs.declared.replica.Standing.{Standing}
use Rattle.m3_model.specs.declared.replica.Standing.TheVariants as standing
use Rattle.m3_outside.specs.Files.{Files}
use Rattle.m3_outside.specs.DiskState.{DiskState, EachImage}
use Rattle.m3_outside.specs.declared.disk_err.DiskErr.{DiskErr}
use Rattle.m3_outside.specs.declared.disk_err.DiskErr.TheVariants as refused
use Rattle.shard_store.specs.commit_log.Contents.{numbers, next_after}
use Rattle.shard_store.specs.shard_files.Keeps.{Rearranges}
use Rattle.shard_store.specs.shard_files.Parts.{KnownVolume, VolumesAre}
use Rattle.shard_store.specs.shard_files.Steps.{next_snapshot}
use Rattle.shard_store.proofs.Counts.{counts_for}
use Rattle.shard_store.specs.OneSnapshot.{HasOneSnapshot}
use Rattle.shard_store.specs.Stores.{StoreState, closed_over}
use Rattle.shard_store.proofs.RearrangeLemmas.{rearranges_for}
use Rattle.cluster_core.specs.Refusals.{shut, first_refusal}
use Rattle.cluster_core.specs.Replicas.{down}
use Rattle.cluster_core.specs.declared.event.StepCall.TheVariants as call
use Rattle.cluster_core.specs.declared.event.StepReply.TheVariants as reply
use Rattle.cluster_core.specs.declared.replica_state.ReplicaState.{ReplicaState}
use Rattle.replica_machine.specs.declared.work.Work.{Work}
use Rattle.replica_machine.specs.Boots.{IsRefused}
use Rattle.replica_machine.specs.Machines.{MachineState, IsMachineOf, IsRefusedFor, refusal, settled_answer, shut_machine}
use Rattle.replica_machine.specs.Works.{with_snapshot, work_after}
use Rattle.replica_machine.specs.Steps.{reply_by, IsStep}
use Rattle.replica_machine.specs.Upkeep.{IsSaved}
use Rattle.replica_machine.proofs.FilesLemmas.{plain_left, shut_is, moved_is}
use Rattle.replica_machine.proofs.KeptLemmas.{images_of}
use Rattle.replica_machine.proofs.PlainLemmas.{plain_step, plain_unfailed}
use Rattle.replica_machine.proofs.ReasonLemmas.{shut_by, refused_none, refused_some}
use Rattle.replica_machine.proofs.RearrangedLemmas as rearranged
use Rattle.replica_machine.proofs.StepLemmas.{machine_of, whatever_work}

-- the volumes that count are the same after a call as before it
abbrev pub SameVolumes : Files → Files → Type 0
SameVolumes x y = (known : List KnownVolume) → VolumesAre known x → VolumesAre known y

-- what a snapshot answers and leaves
pub record SavedDone {D : Type 0} (state : D → DiskState) (old : MachineState D) (result : Result ℕ Reason) (new : MachineState D) : Type 0 where
  pub ok : IfOk result (IsSaved state old new)
  pub volumes : (state old.disk).tells ≡ true → ¬ (IsErrOf result reason.Disk) → SameVolumes (state old.disk).files (state new.disk).files
  pub err : IfErr result (IsRefused old new)
  pub plain : refusal old call.Snapshot ≢ None → new ≡ old
  pub refused : IsRefusedFor (refusal old call.Snapshot) result
  pub disk : Rearranges old.content (IsErrOf result reason.Disk) (state old.disk) (state new.disk)
  pub step : IsStep state old call.Snapshot (reply_by (λ n. reply.Count n) result) new

abbrev Said : Type 0
Said = Result ℕ Reason

module _ {D : Type 0} (state : D → DiskState) (old : MachineState D) where
  alike : {base : Files → Type 0} → (r : ReplicaState) → IsMachineOf state base r old → first_refusal r call.Snapshot ≡ refusal old call.Snapshot
  alike r h = ap shut (sym h.stands)

  -- refused before the store was called
  pub saved_refused : (why : Reason) → shut old.standing ≡ Some why → Rearranges old.content ⊥ (state old.disk) (state old.disk) → SavedDone state old (Err why) old
  saved_refused why first nothing =
      let plain = shut_by old.standing why first in
      record {
        ok = tt;
        volumes = λ tells fine known are. are;
        err = plain_left old why plain;
        plain = λ not. refl;
        refused = refused_some ℕ (refusal old call.Snapshot) why first;
        disk = rearranges_for old.content ⊥ _ (state old.disk) (state old.disk) (plain_unfailed ℕ why plain) nothing;
        step = plain_step state old call.Snapshot (λ tells r e. e) why plain (λ made r h. alike r h ∙ first);
      }

-- by a machine's parts: what the store's snapshot did
module _ {D : Type 0} (state : D → DiskState) (s : Standing) (tenure : Option ℕ) (begun : ℕ) (work : Work) (before now : StoreState D) (is_open : s ≡ standing.Open) (F : Type 0) (moves : Rearranges before.content F (state before.disk) (state now.disk)) where
  abbrev m : MachineState D
  m = machine_of s tenure begun work before

  taken : refusal m call.Snapshot ≡ None
  taken = ap shut is_open

  -- an open machine, of which only the disk has changed
  follows_open : now ≡ record before { disk = now.disk } → (made : D) (r : ReplicaState) → IsMachineOf state (state made).images r m → IsMachineOf state (state made).images r (machine_of s tenure begun work now)
  follows_open same made r h =
      subst (IsMachineOf state (state made).images r) (sym (moved_is s tenure begun work before now (ap (λ (x : StoreState D). x.fence) same)))
      ((rearranged.kept_machine state).open_ made r m now.disk now.buffered now.content is_open (images_of before.content F (state before.disk) (state now.disk) moves) (λ tells. ap (λ (x : StoreState D). x.content) same) h)

  first_none : {base : Files → Type 0} → (r : ReplicaState) → IsMachineOf state base r m → first_refusal r call.Snapshot ≡ None
  first_none r h = alike state m r h ∙ taken

  abbrev Done : Said → MachineState D → Type 0
  Done result new = SavedDone state m result new

  saved_ok : (n : ℕ) → now ≡ record before { disk = now.disk } → ((state before.disk).tells ≡ true → n ≡ next_snapshot (state before.disk).files)
      → EachImage (state now.disk) (HasOneSnapshot n (next_after (numbers (state before.disk).files)) before.buffered before.tenure before.fence)
      → ((state before.disk).tells ≡ true → SameVolumes (state before.disk).files (state now.disk).files) → Done (Ok n) (machine_of s tenure begun (with_snapshot n work) now)
  saved_ok n same number saved volumes = record {
    ok = record { same = ap (machine_of s tenure begun (with_snapshot n work)) same; number = number; tenure = before.tenure; saved = saved };
    volumes = λ tells fine. volumes tells;
    err = tt;
    plain = λ not. absurd (not taken);
    refused = refused_none (refusal m call.Snapshot) (Ok n) taken;
    disk = rearranges_for before.content F _ (state before.disk) (state now.disk) (λ f. absurd (never f)) moves;
    step = record {
      lawful = λ made r h past k t given. sym h.stands ∙ is_open;
      follows = λ made r h. whatever_work state (state made).images r (machine_of s tenure begun work now) (with_snapshot n work) (follows_open same made r h);
      opens = λ made r h told none. tt;
      sound = λ damage e. absurd (cc);
      tells = moves.tells;
      faults = counts_for _ _ _ _ (λ e. absurd (cc)) moves.faults;
    };
  }
    where
      never : (let r : Said = Ok n in IsErrOf r reason.Disk) → ⊥
      never f = cc

  saved_memory : now ≡ record before { disk = now.disk } → ((state before.disk).tells ≡ true → SameVolumes (state before.disk).files (state now.disk).files) → Done (Err reason.Memory) (machine_of s tenure begun work now)
  saved_memory same volumes = record {
    ok = tt;
    volumes = λ tells fine. volumes tells;
    err = ap (machine_of s tenure begun work) same;
    plain = λ not. absurd (not taken);
    refused = refused_none {X = ℕ} (refusal m call.Snapshot) (Err refused.Memory) taken;
    disk = rearranges_for before.content F _ (state before.disk) (state now.disk) (λ f. absurd (never f)) moves;
    step = record {
      lawful = λ made r h past k t given. tt;
      follows = follows_open same;
      opens = λ made r h told none. tt;
      sound = λ damage e. absurd (cc);
      tells = moves.tells;
      faults = counts_for _ _ _ _ (λ e. absurd (cc)) moves.faults;
    };
  }
    where
      never : (let r : Said = Err reason.Memory in IsErrOf r reason.Disk) → ⊥
      never f = cc

  saved_fault : F → Done (Err reason.Disk) (shut_machine standing.Down m now.disk)
  saved_fault f = record {
    ok = tt;
    volumes = λ tells fine. absurd (fine refl);
    err = refl;
    plain = λ not. absurd (not taken);
    refused = refused_none {X = ℕ} (refusal m call.Snapshot) (Err refused.Failed) taken;
    disk = rearranges_for before.content F _ (state before.disk) (state now.disk) (λ e. f) moves;
    step = record {
      lawful = λ made r h past k t given. record { uses = refl; taken = first_none r h; clock = tt; there = tt };
      follows = λ made r h. (rearranged.kept_machine state).closed made r m now.disk is_open (images_of before.content F (state before.disk) (state now.disk) moves) h;
      opens = λ made r h told none. tt;
      sound = λ damage e. absurd (cc);
      tells = moves.tells;
      faults = counts_for _ _ _ _ (λ e. f) moves.faults;
    };
  }

-- what the store answered, and what it left
module _ {D : Type 0} (state : D → DiskState) (s : Standing) (tenure : Option ℕ) (begun : ℕ) (work : Work) (before now : StoreState D) (is_open : s ≡ standing.Open) where
  abbrev Left : Standing → Work → Result ℕ Reason → Type 0
  Left now_s w result = SavedDone state (machine_of s tenure begun work before) result (machine_of now_s tenure begun w now)

  saved_said : (said : Result ℕ DiskErr) (now_s : Standing) → OnOk said (now ≡ record before { disk = now.disk }) → ((state before.disk).tells ≡ true → IfOk said (λ n. n ≡ next_snapshot (state before.disk).files))
      → IfOk said (λ n. EachImage (state now.disk) (HasOneSnapshot n (next_after (numbers (state before.disk).files)) before.buffered before.tenure before.fence))
      → ((state before.disk).tells ≡ true → ¬ (IsErrOf said refused.Failed) → SameVolumes (state before.disk).files (state now.disk).files) → (IsErrOf said refused.Memory → now ≡ record before { disk = now.disk })
      → (IsErrOf said refused.Failed → now ≡ closed_over now.disk) → Rearranges before.content (IsErrOf said refused.Failed) (state before.disk) (state now.disk)
      → (IsErrOf said refused.Failed → now_s ≡ standing.Down) → (¬ (IsErrOf said refused.Failed) → now_s ≡ s) → Left now_s (work_after with_snapshot said work) (settled_answer said)
  saved_said (Ok n) now_s ok number saved volumes memory fault moves down stays =
      subst (λ (x : Standing). Left x (with_snapshot n work) (Ok n)) (sym (stays (λ f. cc))) (saved_ok state s tenure begun work before now is_open _ moves n ok number saved (λ tells. volumes tells (λ f. cc)))
  saved_said (Err refused.Memory) now_s ok number saved volumes memory fault moves down stays =
      subst (λ (x : Standing). Left x work (Err reason.Memory)) (sym (stays (λ f. cc))) (saved_memory state s tenure begun work before now is_open _ moves (memory refl) (λ tells. volumes tells (λ f. cc)))
  saved_said (Err refused.Failed) now_s ok number saved volumes memory fault moves down stays =
      subst (SavedDone state (machine_of s tenure begun work before) (Err reason.Disk)) (sym (shut_is s tenure begun work before now now_s (down refl) (fault refl))) (saved_fault state s tenure begun work before now is_open _ moves refl)

  pub saved_done : (said : Result ℕ DiskErr) (result : Result ℕ Reason) (now_s : Standing) → result ≡ settled_answer said → OnOk said (now ≡ record before { disk = now.disk }) → ((state before.disk).tells ≡ true → IfOk said (λ n. n ≡ next_snapshot (state before.disk).files))
      → IfOk said (λ n. EachImage (state now.disk) (HasOneSnapshot n (next_after (numbers (state before.disk).files)) before.buffered before.tenure before.fence))
      → ((state before.disk).tells ≡ true → ¬ (IsErrOf said refused.Failed) → SameVolumes (state before.disk).files (state now.disk).files) → (IsErrOf said refused.Memory → now ≡ record before { disk = now.disk })
      → (IsErrOf said refused.Failed → now ≡ closed_over now.disk) → Rearranges before.content (IsErrOf said refused.Failed) (state before.disk) (state now.disk)
      → (IsErrOf said refused.Failed → now_s ≡ standing.Down) → (¬ (IsErrOf said refused.Failed) → now_s ≡ s) → Left now_s (work_after with_snapshot said work) result
  saved_done said result now_s is ok number saved volumes memory fault moves down stays = subst (Left now_s (work_after with_snapshot said work)) (sym is) (saved_said said now_s ok number saved volumes memory fault moves down stays)
