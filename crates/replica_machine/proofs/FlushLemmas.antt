-- A flush is a step of the core.
use Rattle.std.proofs.Common.{◌≡◌, ◌≢◌, ℕ, List, refl, sym, ap, subst, ◌∙◌, true, Option, Some, None, Result, Ok, Err}
use Rattle.std.specs.Prelude.{IfOk, OnOk, IfErr, IsErrOf, length}
use Rattle.m3_model.specs.declared.reason.Damage.{Damage}
use Rattle.m3_model.specs.declared.reason.Reason.{Reason}
use Rattle.m3_model.specs.declared.reason.Reason.TheVariants as reason
use Rattle.m3_model.specs.declared.replica.Standing.{Standing}
use Rattle.m3_model.specs.declared.replica.Standing.TheVariants as standing
use Rattle.m3_model.specs.declared.rules.Rules.{Rules}
use Rattle.m3_outside.specs.Files.{Files}
use Rattle.m3_outside.specs.DiskState.{DiskState}
use Rattle.m3_outside.specs.declared.file_name.FileName.{FileName}
use Rattle.shard_store.specs.shard_files.Damage.{OfForm}
use Rattle.shard_store.specs.shard_files.Keeps.{Rearranges}
use Rattle.shard_store.specs.fileset_read.Volumes.{IsUndamaged}
use Rattle.shard_store.specs.fileset_read.declared.file_err.FileErr.{FileErr}
use Rattle.shard_store.specs.fileset_read.declared.file_err.FileErr.TheVariants as unread
use Rattle.shard_store.proofs.Counts.{counts_for}
use Rattle.shard_store.specs.Flushes.{AreFlushed, HasFlushed}
use Rattle.shard_store.specs.Flushes as store
use Rattle.shard_store.specs.Stores.{StoreState, closed_over}
use Rattle.shard_store.proofs.RearrangeLemmas.{rearranges_for}
use Rattle.cluster_core.specs.Refusals.{shut, first_refusal}
use Rattle.cluster_core.specs.Replicas.{down}
use Rattle.cluster_core.specs.declared.event.StepCall.TheVariants as call
use Rattle.cluster_core.specs.declared.event.StepReply.TheVariants as reply
use Rattle.cluster_core.specs.declared.replica_state.ReplicaState.{ReplicaState}
use Rattle.replica_machine.specs.declared.work.Work.{Work}
use Rattle.replica_machine.specs.Boots.{IsRefused}
use Rattle.replica_machine.specs.Damages.{told_of, IsFileDamage}
use Rattle.replica_machine.specs.Machines.{MachineState, IsMachineOf, refusal, shut_machine}
use Rattle.replica_machine.specs.Reading.{IsRefusedReading, files_answer}
use Rattle.replica_machine.specs.Works.{with_flush, work_after}
use Rattle.replica_machine.specs.Steps.{reply_by, IsStep}
use Rattle.replica_machine.specs.Upkeep.{IsFlushed, IsPartFlushed}
use Rattle.replica_machine.proofs.FilesLemmas.{damage_named, plain_named, plain_left, refused_some, refused_none, shut_is, moved_is}
use Rattle.replica_machine.proofs.KeptLemmas.{images_of}
use Rattle.replica_machine.proofs.PlainLemmas.{plain_step, plain_unfailed}
use Rattle.replica_machine.proofs.ReasonLemmas.{IsPlain, shut_by}
use Rattle.replica_machine.proofs.RearrangedLemmas as rearranged
use Rattle.replica_machine.proofs.StepLemmas.{machine_of, whatever_work}

-- what a flush answers and leaves
pub record FlushDone {D : Type 0} (state : D → DiskState) (old : MachineState D) (rules : Rules) (result : Result ℕ Reason) (new : MachineState D) : Type 0 where
  pub ok : IfOk result (IsFlushed state rules old new)
  pub memory : IsErrOf result reason.Memory → IsPartFlushed state old new
  pub err : IfErr result (λ why. why ≢ reason.Memory → IsRefused old new why)
  pub plain : refusal old (call.Flush rules) ≢ None → new ≡ old
  pub refused : IsRefusedReading state (refusal old (call.Flush rules)) old result
  pub form : (damage : Damage) → IsErrOf result (reason.Corrupt damage) → IsFileDamage damage
  pub disk : Rearranges old.content (IsErrOf result reason.Disk) (state old.disk) (state new.disk)
  pub step : IsStep state old (call.Flush rules) (reply_by (λ n. reply.Count n) result) new

abbrev Said : Type 0
Said = Result ℕ Reason

module _ {D : Type 0} (state : D → DiskState) (old : MachineState D) (rules : Rules) where
  alike : {base : Files → Type 0} → (r : ReplicaState) → IsMachineOf state base r old → first_refusal r (call.Flush rules) ≡ refusal old (call.Flush rules)
  alike r h = ap shut (sym h.stands)

  -- refused before the store was called
  pub flush_refused : (why : Reason) → shut old.standing ≡ Some why → Rearranges old.content ⊥ (state old.disk) (state old.disk) → FlushDone state old rules (Err why) old
  flush_refused why first nothing =
      let plain = shut_by old.standing why first in
      record {
        ok = tt;
        memory = λ f. absurd (no_memory why plain (err_memory f));
        err = λ not. plain_left old why plain;
        plain = λ not. refl;
        refused = refused_some ℕ state old (refusal old (call.Flush rules)) why first;
        form = plain_named ℕ why plain;
        disk = rearranges_for old.content ⊥ _ (state old.disk) (state old.disk) (plain_unfailed ℕ why plain) nothing;
        step = plain_step state old (call.Flush rules) (λ tells r e. e) why plain (λ made r h. alike r h ∙ first);
      }
    where
      err_memory : (let r : Said = Err why in IsErrOf r reason.Memory) → why ≡ reason.Memory
      err_memory f = cc

      no_memory : (w : Reason) → IsPlain w → w ≢ reason.Memory
      no_memory w plain e = subst IsPlain e plain

-- by a machine's parts: what the store's flush did
module _ {D : Type 0} (state : D → DiskState) (s : Standing) (tenure : Option ℕ) (begun : ℕ) (work : Work) (before now : StoreState D) (rules : Rules) (is_open : s ≡ standing.Open) (F : Type 0) (moves : Rearranges before.content F (state before.disk) (state now.disk)) where
  abbrev m : MachineState D
  m = machine_of s tenure begun work before

  taken : refusal m (call.Flush rules) ≡ None
  taken = ap shut is_open

  -- an open machine, of which some points left memory
  follows_open : now.fence ≡ before.fence → ((state before.disk).tells ≡ true → now.content ≡ before.content) → (made : D) (r : ReplicaState) → IsMachineOf state (state made).images r m → IsMachineOf state (state made).images r (machine_of s tenure begun work now)
  follows_open same content made r h =
      subst (IsMachineOf state (state made).images r) (sym (moved_is s tenure begun work before now same))
      ((rearranged.kept_machine state).open_ made r m now.disk now.buffered now.content is_open (images_of before.content F (state before.disk) (state now.disk) moves) content h)

  follows_shut : (made : D) (r : ReplicaState) → IsMachineOf state (state made).images r m → IsMachineOf state (state made).images (down r) (shut_machine standing.Down m now.disk)
  follows_shut made r h = (rearranged.kept_machine state).closed made r m now.disk is_open (images_of before.content F (state before.disk) (state now.disk) moves) h

  first_none : {base : Files → Type 0} → (r : ReplicaState) → IsMachineOf state base r m → first_refusal r (call.Flush rules) ≡ None
  first_none r h = alike state m rules r h ∙ taken

  abbrev Done : Said → MachineState D → Type 0
  Done result new = FlushDone state m rules result new

  flush_ok : (n : ℕ) (blocks : List (ℕ × ℕ)) → AreFlushed rules before.buffered blocks → HasFlushed state rules blocks before now → n ≡ length blocks → Done (Ok n) (machine_of s tenure begun (with_flush n work) now)
  flush_ok n blocks are done count = record {
    ok = record { blocks = blocks; are = are; count = count; same = ap (machine_of s tenure begun (with_flush n work)) done.same; content = done.content; volumes = done.volumes };
    memory = λ f. absurd (never reason.Memory f);
    err = tt;
    plain = λ not. absurd (not taken);
    refused = refused_none ℕ state m (refusal m (call.Flush rules)) (Ok n) taken (λ tells. tt);
    form = λ damage f. absurd (never (reason.Corrupt damage) f);
    disk = rearranges_for before.content F _ (state before.disk) (state now.disk) (λ f. absurd (never reason.Disk f)) moves;
    step = record {
      lawful = λ made r h past n s given. (sym h.stands ∙ is_open, given);
      follows = λ made r h. whatever_work state (state made).images r (machine_of s tenure begun work now) (with_flush n work) (follows_open (ap (λ (x : StoreState D). x.fence) done.same) done.content made r h);
      opens = λ made r h told none. tt;
      sound = λ damage e. absurd (cc);
      tells = moves.tells;
      faults = counts_for _ _ _ _ (λ e. absurd (cc)) moves.faults;
    };
  }
    where
      never : (why : Reason) → (let r : Said = Ok n in IsErrOf r why) → ⊥
      never why f = cc

  flush_memory : store.IsPartFlushed state before now → Done (Err reason.Memory) (machine_of s tenure begun work now)
  flush_memory part = record {
    ok = tt;
    memory = λ f. record { same = ap (machine_of s tenure begun work) part.same; content = part.content; fewer = part.fewer };
    err = λ not. absurd (not refl);
    plain = λ not. absurd (not taken);
    refused = refused_none ℕ state m (refusal m (call.Flush rules)) (Err unread.Memory) taken (λ tells. tt);
    form = damage_named ℕ unread.Memory;
    disk = rearranges_for before.content F _ (state before.disk) (state now.disk) (λ f. absurd (never f)) moves;
    step = record {
      lawful = λ made r h past n s given. tt;
      follows = follows_open (ap (λ (x : StoreState D). x.fence) part.same) part.content;
      opens = λ made r h told none. tt;
      sound = λ damage e. absurd (cc);
      tells = moves.tells;
      faults = counts_for _ _ _ _ (λ e. absurd (cc)) moves.faults;
    };
  }
    where
      never : (let r : Said = Err reason.Memory in IsErrOf r reason.Disk) → ⊥
      never f = cc

  flush_fault : F → Done (Err reason.Disk) (shut_machine standing.Down m now.disk)
  flush_fault f = record {
    ok = tt;
    memory = λ e. absurd (never e);
    err = λ not. refl;
    plain = λ not. absurd (not taken);
    refused = refused_none ℕ state m (refusal m (call.Flush rules)) (Err unread.Disk) taken (λ tells. tt);
    form = damage_named ℕ unread.Disk;
    disk = rearranges_for before.content F _ (state before.disk) (state now.disk) (λ e. f) moves;
    step = record {
      lawful = λ made r h past n s given. record { uses = refl; taken = first_none r h; clock = tt; there = tt };
      follows = follows_shut;
      opens = λ made r h told none. tt;
      sound = λ damage e. absurd (cc);
      tells = moves.tells;
      faults = counts_for _ _ _ _ (λ e. f) moves.faults;
    };
  }
    where
      never : (let r : Said = Err reason.Disk in IsErrOf r reason.Memory) → ⊥
      never e = cc

  flush_damage : (file : FileName) → ((state before.disk).tells ≡ true → ⊥) → Done (Err (reason.Corrupt (told_of (OfForm file 0)))) (shut_machine standing.Down m now.disk)
  flush_damage file untold = record {
    ok = tt;
    memory = λ e. absurd (never reason.Memory (λ f. cc) e);
    err = λ not. refl;
    plain = λ not. absurd (not taken);
    refused = refused_none ℕ state m (refusal m (call.Flush rules)) (Err (unread.Form file)) taken untold;
    form = damage_named ℕ (unread.Form file);
    disk = rearranges_for before.content F _ (state before.disk) (state now.disk) (λ f. absurd (never reason.Disk (λ e. cc) f)) moves;
    step = record {
      lawful = λ made r h past n s given. record { reads = refl; taken = first_none r h; clock = tt };
      follows = follows_shut;
      opens = λ made r h told none. tt;
      sound = λ damage e tells. absurd (untold tells);
      tells = moves.tells;
      faults = counts_for _ _ _ _ (λ e. absurd (cc)) moves.faults;
    };
  }
    where
      never : (why : Reason) → (reason.Corrupt (told_of (OfForm file 0)) ≢ why) → (let r : Said = Err (reason.Corrupt (told_of (OfForm file 0))) in IsErrOf r why) → ⊥
      never why not f = not (err_is f)
        where
          err_is : (let r : Said = Err (reason.Corrupt (told_of (OfForm file 0))) in IsErrOf r why) → reason.Corrupt (told_of (OfForm file 0)) ≡ why
          err_is f = cc

-- what the store answered, and what it left
module _ {D : Type 0} (state : D → DiskState) (s : Standing) (tenure : Option ℕ) (begun : ℕ) (work : Work) (before now : StoreState D) (rules : Rules) (is_open : s ≡ standing.Open) where
  flush_said : (said : Result ℕ FileErr) (now_s : Standing) → IfOk said (λ n. (blocks : List (ℕ × ℕ)) × AreFlushed rules before.buffered blocks × HasFlushed state rules blocks before now × (n ≡ length blocks)) → (IsErrOf said unread.Memory → store.IsPartFlushed state before now)
      → IfErr said (λ why. why ≢ unread.Memory → now ≡ closed_over now.disk) → ((state before.disk).tells ≡ true → IfErr said IsUndamaged) → Rearranges before.content (IsErrOf said unread.Disk) (state before.disk) (state now.disk)
      → OnOk said (now_s ≡ s) → IfErr said (λ why. why ≢ unread.Memory → now_s ≡ standing.Down) → (IsErrOf said unread.Memory → now_s ≡ s) → FlushDone state (machine_of s tenure begun work before) rules (files_answer said) (machine_of now_s tenure begun (work_after with_flush said work) now)
  flush_said (Ok n) now_s done part closed sound moves stays down same =
      subst (λ (x : Standing). FlushDone state (machine_of s tenure begun work before) rules (Ok n) (machine_of x tenure begun (with_flush n work) now)) (sym stays) (flush_ok state s tenure begun work before now rules is_open _ moves n done.0 done.1 done.2 done.3)
  flush_said (Err unread.Memory) now_s done part closed sound moves stays down same =
      subst (λ (x : Standing). FlushDone state (machine_of s tenure begun work before) rules (Err reason.Memory) (machine_of x tenure begun work now)) (sym (same refl)) (flush_memory state s tenure begun work before now rules is_open _ moves (part refl))
  flush_said (Err unread.Disk) now_s done part closed sound moves stays down same =
      subst (FlushDone state (machine_of s tenure begun work before) rules (Err reason.Disk)) (sym (shut_is s tenure begun work before now now_s (down (λ e. cc)) (closed (λ e. cc)))) (flush_fault state s tenure begun work before now rules is_open _ moves refl)
  flush_said (Err (unread.Form file)) now_s done part closed sound moves stays down same =
      subst (FlushDone state (machine_of s tenure begun work before) rules (Err (reason.Corrupt (told_of (OfForm file 0))))) (sym (shut_is s tenure begun work before now now_s (down (λ e. cc)) (closed (λ e. cc)))) (flush_damage state s tenure begun work before now rules is_open _ moves file (λ tells. sound tells))

  pub flush_done : (said : Result ℕ FileErr) (result : Result ℕ Reason) (now_s : Standing) → result ≡ files_answer said → IfOk said (λ n. (blocks : List (ℕ × ℕ)) × AreFlushed rules before.buffered blocks × HasFlushed state rules blocks before now × (n ≡ length blocks))
      → (IsErrOf said unread.Memory → store.IsPartFlushed state before now) → IfErr said (λ why. why ≢ unread.Memory → now ≡ closed_over now.disk) → ((state before.disk).tells ≡ true → IfErr said IsUndamaged) → Rearranges before.content (IsErrOf said unread.Disk) (state before.disk) (state now.disk)
      → OnOk said (now_s ≡ s) → IfErr said (λ why. why ≢ unread.Memory → now_s ≡ standing.Down) → (IsErrOf said unread.Memory → now_s ≡ s) → FlushDone state (machine_of s tenure begun work before) rules result (machine_of now_s tenure begun (work_after with_flush said work) now)
  flush_done said result now_s is done part closed sound moves stays down same =
      subst (λ (r : Said). FlushDone state (machine_of s tenure begun work before) rules r (machine_of now_s tenure begun (work_after with_flush said work) now)) (sym is) (flush_said said now_s done part closed sound moves stays down same)

-- memory was wanted before the store was called
pub flush_wanted : {D : Type 0} (state : D → DiskState) (s : Standing) (tenure : Option ℕ) (begun : ℕ) (work : Work) (before : StoreState D) (rules : Rules) → s ≡ standing.Open → Rearranges before.content ⊥ (state before.disk) (state before.disk)
    → FlushDone state (machine_of s tenure begun work before) rules (Err reason.Memory) (machine_of s tenure begun work before)
flush_wanted state s tenure begun work before rules is_open nothing = flush_memory state s tenure begun work before before rules is_open ⊥ nothing (record { same = refl; content = λ tells. refl; fewer = λ p h. h })
