-- A tick is a step of the core.
use Rattle.std.proofs.Common.{◌≡◌, ◌≢◌, ℕ, refl, sym, ap, subst, ◌∙◌, true, Option, Some, None, Result, Ok, Err}
use Rattle.std.specs.Prelude.{IfOk, OnOk, IfErr, IsErrOf, ◌-◌}
use Rattle.std.specs.FinMap as finite
use Rattle.m3_model.specs.Answers.{HasPoint}
use Rattle.m3_model.specs.Contents.{Contents}
use Rattle.m3_model.specs.declared.point.Point.{Point}
use Rattle.m3_model.specs.declared.reason.Damage.{Damage}
use Rattle.m3_model.specs.declared.reason.Reason.{Reason}
use Rattle.m3_model.specs.declared.reason.Reason.TheVariants as reason
use Rattle.m3_model.specs.declared.replica.Standing.{Standing}
use Rattle.m3_model.specs.declared.replica.Standing.TheVariants as standing
use Rattle.m3_model.specs.declared.rules.Rules.{Rules}
use Rattle.m3_outside.specs.Files.{Files}
use Rattle.m3_outside.specs.DiskState.{DiskState, Told, Becomes}
use Rattle.m3_outside.proofs.Moments.{step_as, same_becomes}
use Rattle.m3_outside.specs.declared.file_name.FileName.{FileName}
use Rattle.shard_store.specs.block_buffer.Held.{without, has_expired}
use Rattle.shard_store.specs.shard_files.Damage.{OfForm}
use Rattle.shard_store.specs.shard_files.Keeps.{HoldContent, Rearranges}
use Rattle.shard_store.specs.fileset_read.Volumes.{IsUndamaged}
use Rattle.shard_store.specs.fileset_read.declared.file_err.FileErr.{FileErr}
use Rattle.shard_store.specs.fileset_read.declared.file_err.FileErr.TheVariants as unread
use Rattle.shard_store.proofs.Counts.{counts_for}
use Rattle.shard_store.specs.Ticks.{HasTicked}
use Rattle.shard_store.specs.Stores.{StoreState, closed_over}
use Rattle.shard_store.proofs.RearrangeLemmas.{rearranges_for}
use Rattle.cluster_core.specs.Refusals.{shut, first_refusal}
use Rattle.cluster_core.specs.Replicas.{after}
use Rattle.cluster_core.specs.declared.event.StepCall.TheVariants as call
use Rattle.cluster_core.specs.declared.event.StepReply.TheVariants as reply
use Rattle.cluster_core.specs.declared.replica_state.ReplicaState.{ReplicaState}
use Rattle.replica_machine.specs.declared.work.Work.{Work}
use Rattle.replica_machine.specs.Boots.{IsRefused}
use Rattle.replica_machine.specs.Damages.{told_of, IsFileDamage}
use Rattle.replica_machine.specs.Machines.{MachineState, IsMachineOf, refusal, shut_machine}
use Rattle.replica_machine.specs.Reading.{IsRefusedReading, files_answer}
use Rattle.replica_machine.specs.Works.{with_tick, work_after}
use Rattle.replica_machine.specs.Steps.{reply_by, IsStep}
use Rattle.replica_machine.specs.Upkeep.{IsTicked}
use Rattle.replica_machine.proofs.FilesLemmas.{damage_named, plain_named, plain_left, refused_some, refused_none, shut_is, moved_is}
use Rattle.replica_machine.proofs.KeptLemmas.{images_of, live_kept}
use Rattle.replica_machine.proofs.PlainLemmas.{plain_step, plain_unfailed}
use Rattle.replica_machine.proofs.ReasonLemmas.{shut_by}
use Rattle.replica_machine.proofs.RearrangedLemmas as rearranged
use Rattle.replica_machine.proofs.DiskLemmas.{stays_nothing}
use Rattle.replica_machine.proofs.StepLemmas.{machine_of, kept_machine, whatever_work}

-- what a tick answers and leaves
pub record TickDone {D : Type 0} (state : D → DiskState) (old : MachineState D) (rules : Rules) (result : Result ℕ Reason) (new : MachineState D) : Type 0 where
  pub ok : IfOk result (IsTicked state rules old new)
  pub lost : (state old.disk).tells ≡ true → IfOk result (λ n. n ≡ finite.len old.content - finite.len new.content)
  pub there : OnOk result (Told (state old.disk) (HoldContent new.content))
  pub err : IfErr result (IsRefused old new)
  pub unchanged : (state old.disk).tells ≡ true → IsErrOf result reason.Memory → Becomes (λ files. files) (state old.disk) (state new.disk)
  pub plain : refusal old (call.Tick rules) ≢ None → new ≡ old
  pub refused : IsRefusedReading state (refusal old (call.Tick rules)) old result
  pub form : (damage : Damage) → IsErrOf result (reason.Corrupt damage) → IsFileDamage damage
  pub disk : Rearranges (without old.content (has_expired rules)) (IsErrOf result reason.Disk) (state old.disk) (state new.disk)
  pub step : IsStep state old (call.Tick rules) (reply_by (λ n. reply.Count n) result) new

abbrev Said : Type 0
Said = Result ℕ Reason

module _ {D : Type 0} (state : D → DiskState) (old : MachineState D) (rules : Rules) where
  abbrev Kept : Contents
  Kept = without old.content (has_expired rules)

  alike : {base : Files → Type 0} → (r : ReplicaState) → IsMachineOf state base r old → first_refusal r (call.Tick rules) ≡ refusal old (call.Tick rules)
  alike r h = ap shut (sym h.stands)

  -- refused before the store was called
  pub tick_refused : (why : Reason) → shut old.standing ≡ Some why → Rearranges Kept ⊥ (state old.disk) (state old.disk) → TickDone state old rules (Err why) old
  tick_refused why first nothing =
      let plain = shut_by old.standing why first in
      record {
        ok = tt;
        lost = λ tells. tt;
        there = tt;
        err = plain_left old why plain;
        unchanged = λ t f. same_becomes (state old.disk);
        plain = λ not. refl;
        refused = refused_some ℕ state old (refusal old (call.Tick rules)) why first;
        form = plain_named ℕ why plain;
        disk = rearranges_for Kept ⊥ _ (state old.disk) (state old.disk) (plain_unfailed ℕ why plain) nothing;
        step = plain_step state old (call.Tick rules) (λ tells r e. e) why plain (λ made r h. alike r h ∙ first);
      }

-- by a machine's parts: what the store's tick did
module _ {D : Type 0} (state : D → DiskState) (s : Standing) (tenure : Option ℕ) (begun : ℕ) (work : Work) (before now : StoreState D) (rules : Rules) (is_open : s ≡ standing.Open) (F : Type 0)
    (moves : Rearranges (without before.content (has_expired rules)) F (state before.disk) (state now.disk)) where
  abbrev m : MachineState D
  m = machine_of s tenure begun work before

  abbrev kept : Contents
  kept = without before.content (has_expired rules)

  taken : refusal m (call.Tick rules) ≡ None
  taken = ap shut is_open

  first_none : {base : Files → Type 0} → (r : ReplicaState) → IsMachineOf state base r m → first_refusal r (call.Tick rules) ≡ None
  first_none r h = alike state m rules r h ∙ taken

  abbrev Done : Said → MachineState D → Type 0
  Done result new = TickDone state m rules result new

  -- each point that is left was one of the files, which are an image
  tick_ok : (n : ℕ) → HasTicked state rules before now → ((state before.disk).tells ≡ true → n ≡ finite.len before.content - finite.len now.content) → Told (state before.disk) (HoldContent now.content)
      → ((state before.disk).tells ≡ true → (p : Point) → HasPoint kept p → HasPoint now.content p) → Told (state before.disk) (state before.disk).images → Done (Ok n) (machine_of s tenure begun (with_tick n work) now)
  tick_ok n done lost there stays image = record {
    ok = record { same = ap (machine_of s tenure begun (with_tick n work)) done.same; volumes = done.volumes };
    lost = lost;
    there = there;
    err = tt;
    unchanged = λ t f. absurd (never reason.Memory f);
    plain = λ not. absurd (not taken);
    refused = refused_none ℕ state m (refusal m (call.Tick rules)) (Ok n) taken (λ tells. tt);
    form = λ damage f. absurd (never (reason.Corrupt damage) f);
    disk = rearranges_for kept F _ (state before.disk) (state now.disk) (λ f. absurd (never reason.Disk f)) moves;
    step = record {
      lawful = λ made r h past n s given. (sym h.stands ∙ is_open, given);
      follows = λ made r h.
          whatever_work state (state made).images (after r (call.Tick rules) (reply.Count n)) (machine_of s tenure begun work now) (with_tick n work)
          (subst (IsMachineOf state (state made).images (after r (call.Tick rules) (reply.Count n))) (sym (moved_is s tenure begun work before now (ap (λ (x : StoreState D). x.fence) done.same)))
          ((rearranged.ticked_machine state).done made r m now.disk rules n kept now.buffered now.content is_open (live_kept rules before.content) (images_of kept F (state before.disk) (state now.disk) moves)
          (λ tells. record { live = λ p has alive. stays tells p (live_kept rules before.content p has alive); there = λ told. (image told, there told) }) h));
      opens = λ made r h told none. tt;
      sound = λ damage e. absurd (cc);
      tells = moves.tells;
      faults = counts_for _ _ _ _ (λ e. absurd (cc)) moves.faults;
    };
  }
    where
      never : (why : Reason) → (let r : Said = Ok n in IsErrOf r why) → ⊥
      never why f = cc

  tick_memory : now ≡ record before { disk = now.disk } → ((state before.disk).tells ≡ true → Becomes (λ files. files) (state before.disk) (state now.disk)) → ((made : D) (r : ReplicaState) → IsMachineOf state (state made).images r m → IsMachineOf state (state made).images r (machine_of s tenure begun work now))
      → Done (Err reason.Memory) (machine_of s tenure begun work now)
  tick_memory is unchanged follows = record {
    ok = tt;
    lost = λ tells. tt;
    there = tt;
    err = ap (machine_of s tenure begun work) is;
    unchanged = λ t f. unchanged t;
    plain = λ not. absurd (not taken);
    refused = refused_none ℕ state m (refusal m (call.Tick rules)) (Err unread.Memory) taken (λ tells. tt);
    form = damage_named ℕ unread.Memory;
    disk = rearranges_for kept F _ (state before.disk) (state now.disk) (λ f. absurd (never f)) moves;
    step = record {
      lawful = λ made r h past n s given. tt;
      follows = follows;
      opens = λ made r h told none. tt;
      sound = λ damage e. absurd (cc);
      tells = moves.tells;
      faults = counts_for _ _ _ _ (λ e. absurd (cc)) moves.faults;
    };
  }
    where
      never : (let r : Said = Err reason.Memory in IsErrOf r reason.Disk) → ⊥
      never f = cc

  tick_fault : F → Done (Err reason.Disk) (shut_machine standing.Down m now.disk)
  tick_fault f = record {
    ok = tt;
    lost = λ tells. tt;
    there = tt;
    err = refl;
    unchanged = λ t e. absurd (never e);
    plain = λ not. absurd (not taken);
    refused = refused_none ℕ state m (refusal m (call.Tick rules)) (Err unread.Disk) taken (λ tells. tt);
    form = damage_named ℕ unread.Disk;
    disk = rearranges_for kept F _ (state before.disk) (state now.disk) (λ e. f) moves;
    step = record {
      lawful = λ made r h past n s given. record { uses = refl; taken = first_none r h; clock = given; there = tt };
      follows = λ made r h. (rearranged.ticked_machine state).failed made r m now.disk rules kept is_open (live_kept rules before.content) (images_of kept F (state before.disk) (state now.disk) moves) h;
      opens = λ made r h told none. tt;
      sound = λ damage e. absurd (cc);
      tells = moves.tells;
      faults = counts_for _ _ _ _ (λ e. f) moves.faults;
    };
  }
    where
      never : (let r : Said = Err reason.Disk in IsErrOf r reason.Memory) → ⊥
      never e = cc

  tick_damage : (file : FileName) → ((state before.disk).tells ≡ true → ⊥) → Done (Err (reason.Corrupt (told_of (OfForm file 0)))) (shut_machine standing.Down m now.disk)
  tick_damage file untold = record {
    ok = tt;
    lost = λ tells. tt;
    there = tt;
    err = refl;
    unchanged = λ t e. absurd (untold t);
    plain = λ not. absurd (not taken);
    refused = refused_none ℕ state m (refusal m (call.Tick rules)) (Err (unread.Form file)) taken untold;
    form = damage_named ℕ (unread.Form file);
    disk = rearranges_for kept F _ (state before.disk) (state now.disk) (λ f. absurd (never f)) moves;
    step = record {
      lawful = λ made r h past n s given. record { reads = refl; taken = first_none r h; clock = given };
      follows = λ made r h. (rearranged.ticked_machine state).damaged made r m now.disk rules (told_of (OfForm file 0)) kept is_open (live_kept rules before.content) (images_of kept F (state before.disk) (state now.disk) moves) h;
      opens = λ made r h told none. tt;
      sound = λ damage e tells. absurd (untold tells);
      tells = moves.tells;
      faults = counts_for _ _ _ _ (λ e. absurd (cc)) moves.faults;
    };
  }
    where
      never : (let r : Said = Err (reason.Corrupt (told_of (OfForm file 0))) in IsErrOf r reason.Disk) → ⊥
      never f = cc

-- what the store answered, and what it left
module _ {D : Type 0} (state : D → DiskState) (s : Standing) (tenure : Option ℕ) (begun : ℕ) (work : Work) (before now : StoreState D) (rules : Rules) (is_open : s ≡ standing.Open) where
  abbrev left : Contents
  left = without before.content (has_expired rules)

  -- a machine of which only the disk changed, whose images did not
  same_follows : now ≡ record before { disk = now.disk } → (state now.disk).tells ≡ (state before.disk).tells → ((state before.disk).tells ≡ true → Becomes (λ files. files) (state before.disk) (state now.disk))
      → (made : D) (r : ReplicaState) → IsMachineOf state (state made).images r (machine_of s tenure begun work before) → IsMachineOf state (state made).images r (machine_of s tenure begun work now)
  same_follows is same unchanged made r h =
      subst (IsMachineOf state (state made).images r) (sym (ap (machine_of s tenure begun work) is))
      (kept_machine state (state made).images r (machine_of s tenure begun work before) now.disk same (λ told c image. step_as (λ x y was e. stays_nothing x y e) c ((unchanged told).images c image)) h)

  tick_said : (said : Result ℕ FileErr) (now_s : Standing) → OnOk said (HasTicked state rules before now) → ((state before.disk).tells ≡ true → IfOk said (λ n. n ≡ finite.len before.content - finite.len now.content)) → OnOk said (Told (state before.disk) (HoldContent now.content))
      → ((state before.disk).tells ≡ true → OnOk said ((p : Point) → HasPoint left p → HasPoint now.content p)) → Told (state before.disk) (state before.disk).images → (IsErrOf said unread.Memory → now ≡ record before { disk = now.disk })
      → ((state before.disk).tells ≡ true → IsErrOf said unread.Memory → Becomes (λ files. files) (state before.disk) (state now.disk)) → IfErr said (λ why. why ≢ unread.Memory → now ≡ closed_over now.disk) → ((state before.disk).tells ≡ true → IfErr said IsUndamaged)
      → Rearranges left (IsErrOf said unread.Disk) (state before.disk) (state now.disk)
      → OnOk said (now_s ≡ s) → IfErr said (λ why. why ≢ unread.Memory → now_s ≡ standing.Down) → (IsErrOf said unread.Memory → now_s ≡ s) → TickDone state (machine_of s tenure begun work before) rules (files_answer said) (machine_of now_s tenure begun (work_after with_tick said work) now)
  tick_said (Ok n) now_s done lost there stays image memory unchanged closed sound moves same_ok down same =
      subst (λ (x : Standing). TickDone state (machine_of s tenure begun work before) rules (Ok n) (machine_of x tenure begun (with_tick n work) now)) (sym same_ok) (tick_ok state s tenure begun work before now rules is_open _ moves n done lost there stays image)
  tick_said (Err unread.Memory) now_s done lost there stays image memory unchanged closed sound moves same_ok down same =
      subst (λ (x : Standing). TickDone state (machine_of s tenure begun work before) rules (Err reason.Memory) (machine_of x tenure begun work now)) (sym (same refl))
      (tick_memory state s tenure begun work before now rules is_open _ moves (memory refl) (λ t. unchanged t refl) (same_follows (memory refl) moves.tells (λ t. unchanged t refl)))
  tick_said (Err unread.Disk) now_s done lost there stays image memory unchanged closed sound moves same_ok down same =
      subst (TickDone state (machine_of s tenure begun work before) rules (Err reason.Disk)) (sym (shut_is s tenure begun work before now now_s (down (λ e. cc)) (closed (λ e. cc)))) (tick_fault state s tenure begun work before now rules is_open _ moves refl)
  tick_said (Err (unread.Form file)) now_s done lost there stays image memory unchanged closed sound moves same_ok down same =
      subst (TickDone state (machine_of s tenure begun work before) rules (Err (reason.Corrupt (told_of (OfForm file 0))))) (sym (shut_is s tenure begun work before now now_s (down (λ e. cc)) (closed (λ e. cc)))) (tick_damage state s tenure begun work before now rules is_open _ moves file (λ tells. sound tells))

  pub tick_done : (said : Result ℕ FileErr) (result : Result ℕ Reason) (now_s : Standing) → result ≡ files_answer said → OnOk said (HasTicked state rules before now) → ((state before.disk).tells ≡ true → IfOk said (λ n. n ≡ finite.len before.content - finite.len now.content)) → OnOk said (Told (state before.disk) (HoldContent now.content))
      → ((state before.disk).tells ≡ true → OnOk said ((p : Point) → HasPoint left p → HasPoint now.content p)) → Told (state before.disk) (state before.disk).images → (IsErrOf said unread.Memory → now ≡ record before { disk = now.disk })
      → ((state before.disk).tells ≡ true → IsErrOf said unread.Memory → Becomes (λ files. files) (state before.disk) (state now.disk)) → IfErr said (λ why. why ≢ unread.Memory → now ≡ closed_over now.disk) → ((state before.disk).tells ≡ true → IfErr said IsUndamaged)
      → Rearranges left (IsErrOf said unread.Disk) (state before.disk) (state now.disk)
      → OnOk said (now_s ≡ s) → IfErr said (λ why. why ≢ unread.Memory → now_s ≡ standing.Down) → (IsErrOf said unread.Memory → now_s ≡ s) → TickDone state (machine_of s tenure begun work before) rules result (machine_of now_s tenure begun (work_after with_tick said work) now)
  tick_done said result now_s is done lost there stays image memory unchanged closed sound moves same_ok down same =
      subst (λ (r : Said). TickDone state (machine_of s tenure begun work before) rules r (machine_of now_s tenure begun (work_after with_tick said work) now)) (sym is) (tick_said said now_s done lost there stays image memory unchanged closed sound moves same_ok down same)

-- memory was wanted before the store was called
pub tick_wanted : {D : Type 0} (state : D → DiskState) (s : Standing) (tenure : Option ℕ) (begun : ℕ) (work : Work) (before : StoreState D) (rules : Rules) → s ≡ standing.Open → Rearranges (without before.content (has_expired rules)) ⊥ (state before.disk) (state before.disk)
    → TickDone state (machine_of s tenure begun work before) rules (Err reason.Memory) (machine_of s tenure begun work before)
tick_wanted state s tenure begun work before rules is_open nothing = tick_memory state s tenure begun work before before rules is_open ⊥ nothing refl (λ t. same_becomes (state before.disk)) (λ made r h. h)
