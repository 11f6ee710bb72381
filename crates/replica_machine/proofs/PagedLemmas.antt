-- A page is a step of the core.
use Rattle.std.proofs.Common.{◌≡◌, ◌≢◌, ℕ, refl, sym, subst, ◌∙◌, true, Option, Some, None, Result, Ok, Err}
use Rattle.std.specs.Prelude.{OnOk, IfOk, IfErr, IsErrOf}
use Rattle.std.specs.Option.{option_or}
use Rattle.std.proofs.lemmas.Bool.{OnTrue_from}
use Rattle.m3_model.specs.declared.point.Key.{Key}
use Rattle.m3_model.specs.declared.point.Page.{Page}
use Rattle.m3_model.specs.declared.reason.Damage.{Damage}
use Rattle.m3_model.specs.declared.reason.Reason.{Reason}
use Rattle.m3_model.specs.declared.reason.Reason.TheVariants as reason
use Rattle.m3_model.specs.declared.replica.Standing.{Standing}
use Rattle.m3_model.specs.declared.replica.Standing.TheVariants as standing
use Rattle.m3_outside.specs.Files.{Files}
use Rattle.m3_outside.specs.DiskCalls.{LeavesFiles}
use Rattle.m3_outside.specs.DiskState.{DiskState}
use Rattle.shard_store.proofs.commit_log_proofs.Leaves.{leaves_none, leaves_as}
use Rattle.shard_store.specs.shard_files.Damage.{OfForm}
use Rattle.first_points.specs.Firsts.{IsPageOf}
use Rattle.shard_store.specs.fileset_read.Volumes.{IsUndamaged}
use Rattle.shard_store.specs.fileset_read.declared.file_err.FileErr.{FileErr}
use Rattle.shard_store.specs.fileset_read.declared.file_err.FileErr.TheVariants as unread
use Rattle.shard_store.proofs.Counts.{counts_for}
use Rattle.shard_store.specs.Stores.{StoreState, closed_over}
use Rattle.cluster_core.specs.Refusals.{shut, untenured, first_refusal}
use Rattle.cluster_core.specs.Replicas.{Shows, down}
use Rattle.cluster_core.specs.Rows.{IsOwned}
use Rattle.cluster_core.specs.declared.event.StepCall.{StepCall}
use Rattle.cluster_core.specs.declared.event.StepCall.TheVariants as call
use Rattle.cluster_core.specs.declared.event.StepReply.TheVariants as reply
use Rattle.cluster_core.specs.declared.replica_state.ReplicaState.{ReplicaState}
use Rattle.replica_machine.specs.declared.work.Work.{Work}
use Rattle.replica_machine.specs.Boots.{IsRefused}
use Rattle.replica_machine.specs.Damages.{told_of, IsFileDamage}
use Rattle.replica_machine.specs.Machines.{MachineState, IsMachineOf, refusal, unheld, shut_machine}
use Rattle.replica_machine.specs.Reading.{IsRefusedReading, files_answer}
use Rattle.replica_machine.specs.Steps.{reply_by, IsStep}
use Rattle.replica_machine.proofs.DiskLemmas.{stays_steps}
use Rattle.replica_machine.proofs.FilesLemmas.{damage_named, plain_named, plain_left, refused_some, refused_none, shut_is}
use Rattle.replica_machine.proofs.PageLemmas.{page_is}
use Rattle.replica_machine.proofs.PlainLemmas.{plain_step, plain_unfailed}
use Rattle.replica_machine.proofs.ReasonLemmas.{shut_alike, unheld_plain}
use Rattle.replica_machine.proofs.StepLemmas.{machine_of, kept_machine, disk_moved, shut_kept}

-- ---- who owns its shard

-- open, with a tenure
pub record IsHolding (s : Standing) (tenure : Option ℕ) : Type 0 where
  pub open_ : s ≡ standing.Open
  pub since : ℕ
  pub owned : tenure ≡ Some since

pub holds_it : (s : Standing) (tenure : Option ℕ) → option_or (shut s) (untenured tenure) ≡ None → IsHolding s tenure
holds_it standing.Down tenure e = cc
holds_it standing.Boot tenure e = cc
holds_it standing.Open None e = cc
holds_it standing.Open (Some since) e = record { open_ = refl; since = since; owned = refl }

module _ {D : Type 0} (state : D → DiskState) (base : Files → Type 0) where
  pub owning : (r : ReplicaState) (m : MachineState D) → IsMachineOf state base r m → unheld m ≡ None → IsOwned r
  owning r m h e = let is = holds_it m.standing m.tenure e in record { open_ = sym h.stands ∙ is.open_; tenure = is.since; owned = sym (h.open_ is.open_).tenure ∙ is.owned }

  holding : (r : ReplicaState) (m : MachineState D) → IsMachineOf state base r m → unheld m ≡ None → (state m.disk).tells ≡ true → Shows r m.content
  holding r m h e tells = (h.open_ (holds_it m.standing m.tenure e).open_).shows tells

-- the call
abbrev pub page_call : Option Key → StepCall
page_call after_key = call.Page after_key

-- what it answers and leaves
pub record PageDone {D : Type 0} (state : D → DiskState) (old : MachineState D) (after_key : Option Key) (result : Result Page Reason) (new : MachineState D) : Type 0 where
  pub ok : (state old.disk).tells ≡ true → IfOk result (IsPageOf old.content after_key)
  pub stays : OnOk result (new ≡ record old { disk = new.disk })
  pub err : IfErr result (IsRefused old new)
  pub plain : refusal old (page_call after_key) ≢ None → new ≡ old
  pub refused : IsRefusedReading state (refusal old (page_call after_key)) old result
  pub form : (damage : Damage) → IsErrOf result (reason.Corrupt damage) → IsFileDamage damage
  pub disk : LeavesFiles (IsErrOf result reason.Disk) (state old.disk) (state new.disk)
  pub step : IsStep state old (page_call after_key) (reply_by (λ page. reply.Paged page) result) new

module _ {D : Type 0} (state : D → DiskState) (old : MachineState D) (after_key : Option Key) where
  abbrev Said : Type 0
  Said = Result Page Reason

  alike : {base : Files → Type 0} → (r : ReplicaState) → IsMachineOf state base r old → first_refusal r (page_call after_key) ≡ refusal old (page_call after_key)
  alike r h = shut_alike state r old h (λ t f. untenured t)

  -- refused before the store was called
  pub page_refused : (why : Reason) → unheld old ≡ Some why → PageDone state old after_key (Err why) old
  page_refused why first =
      let plain = unheld_plain old.standing old.tenure why first in
      record {
        ok = λ tells. tt;
        stays = tt;
        err = plain_left old why plain;
        plain = λ not. refl;
        refused = refused_some Page state old (refusal old (page_call after_key)) why first;
        form = plain_named Page why plain;
        disk = leaves_none _ (state old.disk) (plain_unfailed Page why plain);
        step = plain_step state old (page_call after_key) (λ tells r e. e) why plain (λ made r h. alike r h ∙ first);
      }

  -- the files stayed
  module _ (served : unheld old ≡ None) (F : Type 0) (d : D) (leaves : LeavesFiles F (state old.disk) (state d)) where
    page_ok : (page : Page) → ((state old.disk).tells ≡ true → IsPageOf old.content after_key page) → PageDone state old after_key (Ok page) (record old { disk = d })
    page_ok page answer = record {
      ok = answer;
      stays = refl;
      err = tt;
      plain = λ not. absurd (not served);
      refused = refused_none Page state old (refusal old (page_call after_key)) (Ok page) served (λ tells. tt);
      form = λ damage f. absurd (never (reason.Corrupt damage) f);
      disk = leaves_as F _ (state old.disk) (state d) (λ f. absurd (never reason.Disk f)) leaves;
      step = record {
        lawful = λ made r h past n s given. (owning state (state made).images r old h served, OnTrue_from (state old.disk).tells _ (λ tells. page_is r old.content (holding state (state made).images r old h served tells) after_key page (answer tells)));
        follows = λ made r h. kept_machine state (state made).images r old d leaves.proceeds.tells (λ told. stays_steps (state old.disk) (state d) (leaves.proceeds.told told)) h;
        opens = λ made r h told none. tt;
        sound = λ damage e. absurd (cc);
        tells = leaves.proceeds.tells;
        faults = counts_for _ _ _ _ (λ e. absurd (cc)) leaves.proceeds.faults;
      };
    }
      where
        never : (why : Reason) → (let r : Said = Ok page in IsErrOf r why) → ⊥
        never why f = cc

    pub page_memory : PageDone state old after_key (Err reason.Memory) (record old { disk = d })
    page_memory = record {
      ok = λ tells. tt;
      stays = tt;
      err = refl;
      plain = λ not. absurd (not served);
      refused = refused_none Page state old (refusal old (page_call after_key)) (Err unread.Memory) served (λ tells. tt);
      form = damage_named Page unread.Memory;
      disk = leaves_as F _ (state old.disk) (state d) (λ f. absurd (never f)) leaves;
      step = record {
        lawful = λ made r h past n s given. tt;
        follows = λ made r h. kept_machine state (state made).images r old d leaves.proceeds.tells (λ told. stays_steps (state old.disk) (state d) (leaves.proceeds.told told)) h;
        opens = λ made r h told none. tt;
        sound = λ damage e. absurd (cc);
        tells = leaves.proceeds.tells;
        faults = counts_for _ _ _ _ (λ e. absurd (cc)) leaves.proceeds.faults;
      };
    }
      where
        never : (let r : Said = Err reason.Memory in IsErrOf r reason.Disk) → ⊥
        never f = cc

    page_fault : F → PageDone state old after_key (Err reason.Disk) (shut_machine standing.Down old d)
    page_fault f = record {
      ok = λ tells. tt;
      stays = tt;
      err = refl;
      plain = λ not. absurd (not served);
      refused = refused_none Page state old (refusal old (page_call after_key)) (Err unread.Disk) served (λ tells. tt);
      form = damage_named Page unread.Disk;
      disk = leaves_as F _ (state old.disk) (state d) (λ e. f) leaves;
      step = record {
        lawful = λ made r h past n s given. record { uses = refl; taken = alike r h ∙ served; clock = tt; there = tt };
        follows = λ made r h. shut_kept state (state made).images r old d leaves.proceeds.tells (λ told. stays_steps (state old.disk) (state d) (leaves.proceeds.told told)) h;
        opens = λ made r h told none. tt;
        sound = λ damage e. absurd (cc);
        tells = leaves.proceeds.tells;
        faults = counts_for _ _ _ _ (λ e. f) leaves.proceeds.faults;
      };
    }

    page_damage : (file : _) → ((state old.disk).tells ≡ true → ⊥) → PageDone state old after_key (Err (reason.Corrupt (told_of (OfForm file 0)))) (shut_machine standing.Down old d)
    page_damage file untold = record {
      ok = λ tells. tt;
      stays = tt;
      err = refl;
      plain = λ not. absurd (not served);
      refused = refused_none Page state old (refusal old (page_call after_key)) (Err (unread.Form file)) served untold;
      form = damage_named Page (unread.Form file);
      disk = leaves_as F _ (state old.disk) (state d) (λ f. absurd (never f)) leaves;
      step = record {
        lawful = λ made r h past n s given. record { reads = refl; taken = alike r h ∙ served; clock = tt };
        follows = λ made r h. shut_kept state (state made).images r old d leaves.proceeds.tells (λ told. stays_steps (state old.disk) (state d) (leaves.proceeds.told told)) h;
        opens = λ made r h told none. tt;
        sound = λ damage e tells. absurd (untold tells);
        tells = leaves.proceeds.tells;
        faults = counts_for _ _ _ _ (λ e. absurd (cc)) leaves.proceeds.faults;
      };
    }
      where
        never : (let r : Said = Err (reason.Corrupt (told_of (OfForm file 0))) in IsErrOf r reason.Disk) → ⊥
        never f = cc

-- by a machine's parts: what the store's page said, and what it left
module _ {D : Type 0} (state : D → DiskState) (s : Standing) (tenure : Option ℕ) (begun : ℕ) (work : Work) (before now : StoreState D) (after_key : Option Key) (served : unheld (machine_of s tenure begun work before) ≡ None) where
  abbrev Done : Result Page Reason → MachineState D → Type 0
  Done result new = PageDone state (machine_of s tenure begun work before) after_key result new

  page_said : (said : Result Page FileErr) (now_s : Standing) → ((state before.disk).tells ≡ true → IfOk said (IsPageOf before.content after_key)) → OnOk said (now ≡ record before { disk = now.disk })
      → (IsErrOf said unread.Memory → now ≡ record before { disk = now.disk }) → IfErr said (λ why. why ≢ unread.Memory → now ≡ closed_over now.disk) → ((state before.disk).tells ≡ true → IfErr said IsUndamaged)
      → LeavesFiles (IsErrOf said unread.Disk) (state before.disk) (state now.disk) → OnOk said (now_s ≡ s) → IfErr said (λ why. why ≢ unread.Memory → now_s ≡ standing.Down) → (IsErrOf said unread.Memory → now_s ≡ s) → Done (files_answer said) (machine_of now_s tenure begun work now)
  page_said (Ok page) now_s answer ok memory closed sound leaves stays down same =
      subst (Done (Ok page)) (sym (disk_moved s tenure begun work before now now_s stays ok)) (page_ok state (machine_of s tenure begun work before) after_key served _ now.disk leaves page answer)
  page_said (Err unread.Memory) now_s answer ok memory closed sound leaves stays down same =
      subst (Done (Err reason.Memory)) (sym (disk_moved s tenure begun work before now now_s (same refl) (memory refl))) (page_memory state (machine_of s tenure begun work before) after_key served _ now.disk leaves)
  page_said (Err unread.Disk) now_s answer ok memory closed sound leaves stays down same =
      subst (Done (Err reason.Disk)) (sym (shut_is s tenure begun work before now now_s (down (λ e. cc)) (closed (λ e. cc)))) (page_fault state (machine_of s tenure begun work before) after_key served _ now.disk leaves refl)
  page_said (Err (unread.Form file)) now_s answer ok memory closed sound leaves stays down same =
      subst (Done (Err (reason.Corrupt (told_of (OfForm file 0))))) (sym (shut_is s tenure begun work before now now_s (down (λ e. cc)) (closed (λ e. cc)))) (page_damage state (machine_of s tenure begun work before) after_key served _ now.disk leaves file (λ tells. sound tells))

  pub page_done : (said : Result Page FileErr) (result : Result Page Reason) (now_s : Standing) → result ≡ files_answer said → ((state before.disk).tells ≡ true → IfOk said (IsPageOf before.content after_key))
      → OnOk said (now ≡ record before { disk = now.disk }) → (IsErrOf said unread.Memory → now ≡ record before { disk = now.disk }) → IfErr said (λ why. why ≢ unread.Memory → now ≡ closed_over now.disk) → ((state before.disk).tells ≡ true → IfErr said IsUndamaged)
      → LeavesFiles (IsErrOf said unread.Disk) (state before.disk) (state now.disk) → OnOk said (now_s ≡ s) → IfErr said (λ why. why ≢ unread.Memory → now_s ≡ standing.Down) → (IsErrOf said unread.Memory → now_s ≡ s) → Done result (machine_of now_s tenure begun work now)
  page_done said result now_s is answer ok memory closed sound leaves stays down same = subst (λ (r : Result Page Reason). Done r (machine_of now_s tenure begun work now)) (sym is) (page_said said now_s answer ok memory closed sound leaves stays down same)
