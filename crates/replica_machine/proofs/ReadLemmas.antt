-- A read is a step of the core.
use Rattle.std.proofs.Common.{◌≡◌, ◌≢◌, ℕ, List, refl, sym, subst, ◌∙◌, true, Option, Some, None, Result, Ok, Err}
use Rattle.std.specs.Prelude.{OnOk, IfOk, IfErr, IsErrOf, slice_get}
use Rattle.std.specs.Option.{option_or}
use Rattle.std.proofs.lemmas.Bool.{OnTrue_from}
use Rattle.m3_model.specs.Reads.{IsOrdered, space_picked}
use Rattle.m3_model.specs.declared.point.Pick.{Pick}
use Rattle.m3_model.specs.declared.point.Series.{Series}
use Rattle.m3_model.specs.declared.reason.Damage.{Damage}
use Rattle.m3_model.specs.declared.reason.Reason.{Reason}
use Rattle.m3_model.specs.declared.reason.Reason.TheVariants as reason
use Rattle.m3_model.specs.declared.replica.Standing.{Standing}
use Rattle.m3_model.specs.declared.replica.Standing.TheVariants as standing
use Rattle.m3_model.specs.declared.rules.Rules.{Rules}
use Rattle.m3_model.specs.declared.rules.Space.{Space}
use Rattle.m3_outside.specs.Files.{Files}
use Rattle.m3_outside.specs.DiskCalls.{LeavesFiles}
use Rattle.m3_outside.specs.DiskState.{DiskState}
use Rattle.shard_store.proofs.commit_log_proofs.Leaves.{leaves_none, leaves_as}
use Rattle.shard_store.specs.shard_files.Damage.{OfForm}
use Rattle.shard_store.specs.fileset_read.Volumes.{IsUndamaged}
use Rattle.shard_store.specs.fileset_read.declared.file_err.FileErr.{FileErr}
use Rattle.shard_store.specs.fileset_read.declared.file_err.FileErr.TheVariants as unread
use Rattle.shard_store.proofs.Counts.{counts_for}
use Rattle.shard_store.specs.Stores.{StoreState, closed_over}
use Rattle.cluster_core.specs.Refusals.{unowned, outdated, first_refusal}
use Rattle.cluster_core.specs.Replicas.{down}
use Rattle.cluster_core.specs.declared.event.StepCall.{StepCall}
use Rattle.cluster_core.specs.declared.event.StepCall.TheVariants as call
use Rattle.cluster_core.specs.declared.event.StepReply.TheVariants as reply
use Rattle.cluster_core.specs.declared.replica_state.ReplicaState.{ReplicaState}
use Rattle.replica_machine.specs.declared.work.Work.{Work}
use Rattle.replica_machine.specs.Boots.{IsRefused}
use Rattle.replica_machine.specs.Damages.{told_of, IsFileDamage}
use Rattle.replica_machine.specs.Machines.{MachineState, IsMachineOf, IsLiveAnswer, refusal, unserved, shut_machine}
use Rattle.replica_machine.specs.Reading.{IsRefusedReading, files_answer}
use Rattle.replica_machine.specs.Steps.{reply_by, IsStep}
use Rattle.replica_machine.proofs.DiskLemmas.{stays_steps}
use Rattle.replica_machine.proofs.FilesLemmas.{damage_named, plain_named, plain_left, refused_some, refused_none, shut_is}
use Rattle.replica_machine.proofs.LiveLemmas.{live_found}
use Rattle.replica_machine.proofs.PlainLemmas.{plain_step, plain_unfailed}
use Rattle.replica_machine.proofs.ReasonLemmas.{served_plain, shut_alike}
use Rattle.replica_machine.proofs.StepLemmas.{machine_of, kept_machine, serving, shown, disk_moved, shut_kept}

-- the call
abbrev pub read_of : ℕ → ℕ → Rules → ℕ → Pick → ℕ → ℕ → StepCall
read_of client number rules version pick from to = call.Read client number rules version pick from to

-- what a read answers and leaves
pub record ReadDone {D : Type 0} (state : D → DiskState) (old : MachineState D) (rules : Rules) (version : ℕ) (pick : Pick) (from to : ℕ) (result : Result (List Series) Reason) (new : MachineState D) : Type 0 where
  pub ok : (state old.disk).tells ≡ true → IfOk result (IsLiveAnswer old.content rules pick from to)
  pub ordered : IfOk result IsOrdered
  pub stays : OnOk result (new ≡ record old { disk = new.disk })
  pub err : IfErr result (IsRefused old new)
  pub plain : (client number : ℕ) → refusal old (read_of client number rules version pick from to) ≢ None → new ≡ old
  pub refused : (client number : ℕ) → IsRefusedReading state (refusal old (read_of client number rules version pick from to)) old result
  pub form : (damage : Damage) → IsErrOf result (reason.Corrupt damage) → IsFileDamage damage
  pub disk : LeavesFiles (IsErrOf result reason.Disk) (state old.disk) (state new.disk)
  pub step : (client number : ℕ) → IsStep state old (read_of client number rules version pick from to) (reply_by (λ series. reply.Found series) result) new

module _ {D : Type 0} (state : D → DiskState) (old : MachineState D) (rules : Rules) (version : ℕ) (pick : Pick) (from to : ℕ) where
  abbrev Said : Type 0
  Said = Result (List Series) Reason

  alike : {base : Files → Type 0} → (r : ReplicaState) (client number : ℕ) → IsMachineOf state base r old → first_refusal r (read_of client number rules version pick from to) ≡ refusal old (read_of client number rules version pick from to)
  alike r client number h = shut_alike state r old h (λ t f. option_or (unowned t version) (outdated f version))

  -- refused before the store was called
  pub read_refused : (why : Reason) → unserved old version ≡ Some why → ReadDone state old rules version pick from to (Err why) old
  read_refused why first =
      let plain = served_plain old.standing old.tenure old.fence version why first in
      record {
        ok = λ tells. tt;
        ordered = tt;
        stays = tt;
        err = plain_left old why plain;
        plain = λ client number not. refl;
        refused = λ client number. refused_some (List Series) state old (refusal old (read_of client number rules version pick from to)) why first;
        form = plain_named (List Series) why plain;
        disk = leaves_none _ (state old.disk) (plain_unfailed (List Series) why plain);
        step = λ client number. plain_step state old (read_of client number rules version pick from to) (λ tells r e. e) why plain (λ made r h. alike r client number h ∙ first);
      }

  -- the files stayed
  module _ (served : unserved old version ≡ None) (F : Type 0) (d : D) (leaves : LeavesFiles F (state old.disk) (state d)) where
    read_ok : (space : Space) (series : List Series) → slice_get rules.spaces (space_picked pick) ≡ Some space → ((state old.disk).tells ≡ true → IsLiveAnswer old.content rules pick from to series) → IsOrdered series
        → ReadDone state old rules version pick from to (Ok series) (record old { disk = d })
    read_ok space series at answer ordered = record {
      ok = answer;
      ordered = ordered;
      stays = refl;
      err = tt;
      plain = λ client number not. absurd (not served);
      refused = λ client number. refused_none (List Series) state old (refusal old (read_of client number rules version pick from to)) (Ok series) served (λ tells. tt);
      form = λ damage f. absurd (never (reason.Corrupt damage) f);
      disk = leaves_as F _ (state old.disk) (state d) (λ f. absurd (never reason.Disk f)) leaves;
      step = λ client number. record {
        lawful = λ made r h past n s given. (serving state (state made).images r old version h served, given, OnTrue_from (state old.disk).tells _ (λ tells. live_found r old.content rules pick from to space series at (shown state (state made).images r old version h served tells) (answer tells)));
        follows = λ made r h. kept_machine state (state made).images r old d leaves.proceeds.tells (λ told. stays_steps (state old.disk) (state d) (leaves.proceeds.told told)) h;
        opens = λ made r h told none. tt;
        sound = λ damage e. absurd (cc);
        tells = leaves.proceeds.tells;
        faults = counts_for _ _ _ _ (λ e. absurd (cc)) leaves.proceeds.faults;
      };
    }
      where
        never : (why : Reason) → (let r : Said = Ok series in IsErrOf r why) → ⊥
        never why f = cc

    pub read_memory : ReadDone state old rules version pick from to (Err reason.Memory) (record old { disk = d })
    read_memory = record {
      ok = λ tells. tt;
      ordered = tt;
      stays = tt;
      err = refl;
      plain = λ client number not. absurd (not served);
      refused = λ client number. refused_none (List Series) state old (refusal old (read_of client number rules version pick from to)) (Err unread.Memory) served (λ tells. tt);
      form = damage_named (List Series) unread.Memory;
      disk = leaves_as F _ (state old.disk) (state d) (λ f. absurd (never f)) leaves;
      step = λ client number. record {
        lawful = λ made r h past n s given. tt;
        follows = λ made r h. kept_machine state (state made).images r old d leaves.proceeds.tells (λ told. stays_steps (state old.disk) (state d) (leaves.proceeds.told told)) h;
        opens = λ made r h told none. tt;
        sound = λ damage e. absurd (cc);
        tells = leaves.proceeds.tells;
        faults = counts_for _ _ _ _ (λ e. absurd (cc)) leaves.proceeds.faults;
      };
    }
      where
        never : (let r : Said = Err reason.Memory in IsErrOf r reason.Disk) → ⊥
        never f = cc

    read_fault : F → ReadDone state old rules version pick from to (Err reason.Disk) (shut_machine standing.Down old d)
    read_fault f = record {
      ok = λ tells. tt;
      ordered = tt;
      stays = tt;
      err = refl;
      plain = λ client number not. absurd (not served);
      refused = λ client number. refused_none (List Series) state old (refusal old (read_of client number rules version pick from to)) (Err unread.Disk) served (λ tells. tt);
      form = damage_named (List Series) unread.Disk;
      disk = leaves_as F _ (state old.disk) (state d) (λ e. f) leaves;
      step = λ client number. record {
        lawful = λ made r h past n s given. record { uses = refl; taken = alike r client number h ∙ served; clock = tt; there = tt };
        follows = λ made r h. shut_kept state (state made).images r old d leaves.proceeds.tells (λ told. stays_steps (state old.disk) (state d) (leaves.proceeds.told told)) h;
        opens = λ made r h told none. tt;
        sound = λ damage e. absurd (cc);
        tells = leaves.proceeds.tells;
        faults = counts_for _ _ _ _ (λ e. f) leaves.proceeds.faults;
      };
    }

    read_damage : (file : _) → ((state old.disk).tells ≡ true → ⊥) → ReadDone state old rules version pick from to (Err (reason.Corrupt (told_of (OfForm file 0)))) (shut_machine standing.Down old d)
    read_damage file untold = record {
      ok = λ tells. tt;
      ordered = tt;
      stays = tt;
      err = refl;
      plain = λ client number not. absurd (not served);
      refused = λ client number. refused_none (List Series) state old (refusal old (read_of client number rules version pick from to)) (Err (unread.Form file)) served untold;
      form = damage_named (List Series) (unread.Form file);
      disk = leaves_as F _ (state old.disk) (state d) (λ f. absurd (never f)) leaves;
      step = λ client number. record {
        lawful = λ made r h past n s given. record { reads = refl; taken = alike r client number h ∙ served; clock = tt };
        follows = λ made r h. shut_kept state (state made).images r old d leaves.proceeds.tells (λ told. stays_steps (state old.disk) (state d) (leaves.proceeds.told told)) h;
        opens = λ made r h told none. tt;
        sound = λ damage e tells. absurd (untold tells);
        tells = leaves.proceeds.tells;
        faults = counts_for _ _ _ _ (λ e. absurd (cc)) leaves.proceeds.faults;
      };
    }
      where
        never : (let r : Said = Err (reason.Corrupt (told_of (OfForm file 0))) in IsErrOf r reason.Disk) → ⊥
        never f = cc

-- by a machine's parts: what the store's fetch said, and what it left
module _ {D : Type 0} (state : D → DiskState) (s : Standing) (tenure : Option ℕ) (begun : ℕ) (work : Work) (before now : StoreState D) (rules : Rules) (version : ℕ) (pick : Pick) (from to : ℕ) (served : unserved (machine_of s tenure begun work before) version ≡ None) (space : Space)
    (at : slice_get rules.spaces (space_picked pick) ≡ Some space) where
  abbrev Done : Result (List Series) Reason → MachineState D → Type 0
  Done result new = ReadDone state (machine_of s tenure begun work before) rules version pick from to result new

  read_said : (said : Result (List Series) FileErr) (now_s : Standing) → ((state before.disk).tells ≡ true → IfOk said (IsLiveAnswer before.content rules pick from to)) → IfOk said IsOrdered → OnOk said (now ≡ record before { disk = now.disk })
      → (IsErrOf said unread.Memory → now ≡ record before { disk = now.disk }) → IfErr said (λ why. why ≢ unread.Memory → now ≡ closed_over now.disk) → ((state before.disk).tells ≡ true → IfErr said IsUndamaged)
      → LeavesFiles (IsErrOf said unread.Disk) (state before.disk) (state now.disk) → OnOk said (now_s ≡ s) → IfErr said (λ why. why ≢ unread.Memory → now_s ≡ standing.Down) → (IsErrOf said unread.Memory → now_s ≡ s) → Done (files_answer said) (machine_of now_s tenure begun work now)
  read_said (Ok series) now_s answer ordered ok memory closed sound leaves stays down same =
      subst (Done (Ok series)) (sym (disk_moved s tenure begun work before now now_s stays ok)) (read_ok state (machine_of s tenure begun work before) rules version pick from to served _ now.disk leaves space series at answer ordered)
  read_said (Err unread.Memory) now_s answer ordered ok memory closed sound leaves stays down same =
      subst (Done (Err reason.Memory)) (sym (disk_moved s tenure begun work before now now_s (same refl) (memory refl))) (read_memory state (machine_of s tenure begun work before) rules version pick from to served _ now.disk leaves)
  read_said (Err unread.Disk) now_s answer ordered ok memory closed sound leaves stays down same =
      subst (Done (Err reason.Disk)) (sym (shut_is s tenure begun work before now now_s (down (λ e. cc)) (closed (λ e. cc)))) (read_fault state (machine_of s tenure begun work before) rules version pick from to served _ now.disk leaves refl)
  read_said (Err (unread.Form file)) now_s answer ordered ok memory closed sound leaves stays down same =
      subst (Done (Err (reason.Corrupt (told_of (OfForm file 0))))) (sym (shut_is s tenure begun work before now now_s (down (λ e. cc)) (closed (λ e. cc)))) (read_damage state (machine_of s tenure begun work before) rules version pick from to served _ now.disk leaves file (λ tells. sound tells))

  pub read_done : (said : Result (List Series) FileErr) (result : Result (List Series) Reason) (now_s : Standing) → result ≡ files_answer said → ((state before.disk).tells ≡ true → IfOk said (IsLiveAnswer before.content rules pick from to)) → IfOk said IsOrdered
      → OnOk said (now ≡ record before { disk = now.disk }) → (IsErrOf said unread.Memory → now ≡ record before { disk = now.disk }) → IfErr said (λ why. why ≢ unread.Memory → now ≡ closed_over now.disk) → ((state before.disk).tells ≡ true → IfErr said IsUndamaged)
      → LeavesFiles (IsErrOf said unread.Disk) (state before.disk) (state now.disk) → OnOk said (now_s ≡ s) → IfErr said (λ why. why ≢ unread.Memory → now_s ≡ standing.Down) → (IsErrOf said unread.Memory → now_s ≡ s) → Done result (machine_of now_s tenure begun work now)
  read_done said result now_s is answer ordered ok memory closed sound leaves stays down same = subst (λ (r : Result (List Series) Reason). Done r (machine_of now_s tenure begun work now)) (sym is) (read_said said now_s answer ordered ok memory closed sound leaves stays down same)
