-- A begin from its parts: what was read, what was opened, and what was refused.
use Rattle.std.proofs.Common.{◌≡◌, ◌<◌, ◌≤◌, inl, inr, ⊎_elim, ℕ, arith, refl, sym, ap, subst, ◌∙◌, true, None, Result, Ok, Err}
use Rattle.std.specs.Prelude.{◌≢◌, ◌⊎◌, ◌↔◌, IfOk, IfErr, IsErrOf}
use Rattle.m3_model.specs.declared.reason.Damage.{Damage}
use Rattle.m3_model.specs.declared.reason.Reason.{Reason}
use Rattle.m3_model.specs.declared.reason.Reason.TheVariants as reason
use Rattle.m3_model.specs.declared.replica.Standing.{Standing}
use Rattle.m3_model.specs.declared.replica.Standing.TheVariants as standing
use Rattle.m3_outside.specs.Causes.{CountsFaults}
use Rattle.m3_outside.specs.Files.{Files, Stays}
use Rattle.m3_outside.specs.DiskState.{DiskState, Told, StepOf, Elapses}
use Rattle.m3_outside.proofs.Moments.{step_as}
use Rattle.shard_store.specs.shard_files.FilesHold.{IsSound}
use Rattle.shard_store.specs.shard_files.Once.{HeldOnce}
use Rattle.shard_store.specs.shard_files.Damage.{OfForm, OfDigest}
use Rattle.shard_store.specs.shard_files.Gains.{nothing, a_tenure, Gains, MayGain}
use Rattle.shard_store.specs.shard_files.declared.load_err.LoadErr.{LoadErr}
use Rattle.shard_store.specs.shard_files.declared.load_err.LoadErr.TheVariants as failures
use Rattle.shard_store.specs.Told.{MayBeUnsound}
use Rattle.shard_store.proofs.ToldLemmas.{told_are_unsound}
use Rattle.shard_store.proofs.shard_files_proofs.GainLemmas.{nothing_is_part}
use Rattle.cluster_core.specs.Refusals.{closed}
use Rattle.cluster_core.specs.declared.event.StepCall.TheVariants as call
use Rattle.cluster_core.specs.declared.event.StepReply.TheVariants as reply
use Rattle.replica_machine.specs.Machines.{MachineState, IsOwn, shut_machine}
use Rattle.replica_machine.specs.Steps.{IsStep, BringsTo, reply_by}
use Rattle.replica_machine.specs.Damages.{told_of, IsDamageOf}
use Rattle.replica_machine.specs.Boots.{AreBesideVolumes, BeganFrom, BeganAgain, HoldsHigher, MayBeUnowned, MayNotLoad, IsRefused}
use Rattle.replica_machine.specs.declared.machine.Began.{Began}
use Rattle.replica_machine.proofs.DiskLemmas.{brings_none_to, stays_nothing, stays_steps, brings_stays, after_stays}
use Rattle.replica_machine.proofs.BootLemmas.{begin_down, begin_unowned, begin_memory, begin_fault, begin_damage, begin_higher, step_after_stays}

-- what a begin from Boot answers and leaves
pub record BeginDone {D : Type 0} (state : D → DiskState) (old : MachineState D) (t : ℕ) (result : Result Began Reason) (new : MachineState D) : Type 0 where
  pub began : IfOk result (BeganFrom state t old new)
  pub not_down : ¬ (IsErrOf result reason.Down)
  pub unowned : IsErrOf result reason.NotOwned → Told (state old.disk) (HoldsHigher t)
  pub damage : (damage : Damage) → IsErrOf result (reason.Corrupt damage) → Told (state old.disk) (IsDamageOf damage)
  pub err : IfErr result (IsRefused old new)
  pub disk : BringsTo (a_tenure t) result (state old.disk) (state new.disk)
  pub step : IsStep state old (call.Begin t) (reply_by (λ began. reply.Began began.fence began.points) result) new

err_same : (why other : Reason) → (let r : Result Began Reason = Err why in IsErrOf r other) → why ≡ other
err_same why other f = cc

same_damage : (a b : Damage) → reason.Corrupt a ≡ reason.Corrupt b → a ≡ b
same_damage a b e = cc

own_refused : {D : Type 0} (old : MachineState D) (d : D) (new : MachineState D) (why : Reason) → IsOwn why → IsRefused (record old { disk = d }) new why → IsRefused old new why
own_refused old d new why own left =
    ⊎_elim (λ (is : why ≡ reason.Memory). subst (IsRefused old new) (sym is) (let at : IsRefused (record old { disk = d }) new reason.Memory = subst (IsRefused (record old { disk = d }) new) is left in at))
    (λ (is : why ≡ reason.Disk). subst (IsRefused old new) (sym is) (let at : IsRefused (record old { disk = d }) new reason.Disk = subst (IsRefused (record old { disk = d }) new) is left in at)) own

own_not : (why other : Reason) → IsOwn why → reason.Memory ≢ other → reason.Disk ≢ other → why ≢ other
own_not why other own memory disk is = ⊎_elim (λ (e : why ≡ reason.Memory). memory (sym e ∙ is)) (λ (e : why ≡ reason.Disk). disk (sym e ∙ is)) own

module _ {D : Type 0} (state : D → DiskState) (old : MachineState D) (t : ℕ) (d : D) (up : closed old.standing ≡ None) (high : old.begun ≤ t) (same : (state d).tells ≡ (state old.disk).tells)
    (stays : (state old.disk).tells ≡ true → Elapses Stays (state old.disk) (state d)) where
  steps : (state old.disk).tells ≡ true → (c : Files) → (state d).images c → StepOf (Gains nothing) (state old.disk).images c
  steps told = stays_steps (state old.disk) (state d) (stays told)

  parts : (state old.disk).tells ≡ true → (c : Files) → (state d).images c → StepOf (MayGain (a_tenure t)) (state old.disk).images c
  parts told c image = step_as (λ x y was is. nothing_is_part (a_tenure t) x y (stays_nothing x y is)) c ((stays told).images c image)

  -- ---- the files couldn't be read

  module _ (F : Type 0) (faults : CountsFaults F (state old.disk).faults (state d).faults) where
    read_fault : F → BeginDone state old t (Err reason.Disk) (shut_machine standing.Down old d)
    read_fault f = record {
      began = tt;
      not_down = λ e. let is = err_same reason.Disk reason.Down e in absurd (cc);
      unowned = λ e. let is = err_same reason.Disk reason.NotOwned e in absurd (cc);
      damage = λ damage e. let is = err_same reason.Disk (reason.Corrupt damage) e in absurd (cc);
      err = refl;
      disk = brings_stays (a_tenure t) reason.Disk (state old.disk) (state d) stays same faults (λ e. f);
      step = begin_fault state old t d same F faults f up high parts;
    }

    read_memory : BeginDone state old t (Err reason.Memory) (record old { disk = d })
    read_memory = record {
      began = tt;
      not_down = λ e. let is = err_same reason.Memory reason.Down e in absurd (cc);
      unowned = λ e. let is = err_same reason.Memory reason.NotOwned e in absurd (cc);
      damage = λ damage e. let is = err_same reason.Memory (reason.Corrupt damage) e in absurd (cc);
      err = refl;
      disk = brings_stays (a_tenure t) reason.Memory (state old.disk) (state d) stays same faults (λ e. absurd (cc));
      step = begin_memory state old t d same F faults steps;
    }

    read_damage : (damage : Damage) → Told (state old.disk) (IsDamageOf damage) → BeginDone state old t (Err (reason.Corrupt damage)) (shut_machine standing.Down old d)
    read_damage damage told = record {
      began = tt;
      not_down = λ e. let is = err_same (reason.Corrupt damage) reason.Down e in absurd (cc);
      unowned = λ e. let is = err_same (reason.Corrupt damage) reason.NotOwned e in absurd (cc);
      damage = λ other e. subst (λ (x : Damage). Told (state old.disk) (IsDamageOf x)) (same_damage damage other (err_same (reason.Corrupt damage) (reason.Corrupt other) e)) told;
      err = refl;
      disk = brings_stays (a_tenure t) (reason.Corrupt damage) (state old.disk) (state d) stays same faults (λ e. absurd (cc));
      step = begin_damage state old t d same F faults up high steps damage (λ tells sound. let named = told tells in told_are_unsound (state old.disk).files named.damage named.damaged sound);
    }

    as_shut : (answer other : Reason) (new : MachineState D) → answer ≡ other → new ≡ shut_machine standing.Down old new.disk → new.disk ≡ d → BeginDone state old t (Err other) (shut_machine standing.Down old d) → BeginDone state old t (Err answer) new
    as_shut answer other new is left disk done =
        subst (λ (m : MachineState D). BeginDone state old t (Err answer) m) (sym (left ∙ ap (shut_machine standing.Down old) disk)) (subst (λ (w : Reason). BeginDone state old t (Err w) (shut_machine standing.Down old d)) (sym is) done)

    as_kept : (answer : Reason) (new : MachineState D) → answer ≡ reason.Memory → IsRefused (record old { disk = d }) new answer → new.disk ≡ d → BeginDone state old t (Err answer) new
    as_kept answer new is left disk =
        let at : new ≡ record old { disk = new.disk } = subst (IsRefused (record old { disk = d }) new) is left in
        subst (λ (m : MachineState D). BeginDone state old t (Err answer) m) (sym (at ∙ ap (λ (x : D). record old { disk = x }) disk)) (subst (λ (w : Reason). BeginDone state old t (Err w) (record old { disk = d })) (sym is) read_memory)

    as_damaged : (answer : Reason) (damage : Damage) (new : MachineState D) → Told (state old.disk) (IsDamageOf damage) → (answer ≡ reason.Memory) ⊎ (answer ≡ reason.Corrupt damage) → IsRefused (record old { disk = d }) new answer → new.disk ≡ d → BeginDone state old t (Err answer) new
    as_damaged answer damage new told either left disk =
        ⊎_elim (λ (is : answer ≡ reason.Memory). as_kept answer new is left disk)
        (λ (is : answer ≡ reason.Corrupt damage).
        let at : new ≡ shut_machine standing.Down old new.disk = subst (IsRefused (record old { disk = d }) new) is left in
        as_shut answer (reason.Corrupt damage) new is at disk (read_damage damage told)) either

    not_loaded_by : (why : LoadErr) → (why ≡ failures.Disk → F) → Told (state old.disk) (λ files. MayBeUnsound files why) → (answer : Reason) (new : MachineState D) → MayNotLoad why answer → IsRefused (record old { disk = d }) new answer → new.disk ≡ d → BeginDone state old t (Err answer) new
    not_loaded_by failures.Disk fault told answer new is left disk =
        let at : new ≡ shut_machine standing.Down old new.disk = subst (IsRefused (record old { disk = d }) new) is left in
        as_shut answer reason.Disk new is at disk (read_fault (fault refl))
    not_loaded_by failures.Memory fault told answer new is left disk = as_kept answer new is left disk
    not_loaded_by (failures.Digest name kept found) fault told answer new is left disk = as_damaged answer (told_of (OfDigest name kept found)) new (λ tells. record { damage = OfDigest name kept found; is = refl; damaged = told tells }) is left disk
    not_loaded_by (failures.Form name at) fault told answer new is left disk = as_damaged answer (told_of (OfForm name at)) new (λ tells. record { damage = OfForm name at; is = refl; damaged = told tells }) is left disk

  pub not_loaded_done : {X : Type 0} (why : LoadErr) (answer : Reason) (mid new : MachineState D) → (let r : Result X LoadErr = Err why in CountsFaults (IsErrOf r failures.Disk) (state old.disk).faults (state d).faults) → Told (state old.disk) (λ files. MayBeUnsound files why) → MayNotLoad why answer → mid ≡ record old { disk = d } → IsRefused mid new answer
      → new.disk ≡ mid.disk → BeginDone state old t (Err answer) new
  not_loaded_done why answer mid new faults told is mid_is left disk =
      not_loaded_by _ faults why (λ e. ap Err e) told answer new is (subst (λ (m : MachineState D). IsRefused m new answer) mid_is left) (disk ∙ ap (λ (m : MachineState D). m.disk) mid_is)

  -- ---- the files have a higher tenure

  pub higher_done : {F : Type 0} → CountsFaults F (state old.disk).faults (state d).faults → Told (state old.disk) (HoldsHigher t) → Told (state old.disk) (state old.disk).images → (mid : MachineState D) → mid ≡ record old { disk = d } → BeginDone state old t (Err reason.NotOwned) mid
  higher_done faults higher image mid mid_is =
      let done : BeginDone state old t (Err reason.NotOwned) (record old { disk = d }) = record {
        began = tt;
        not_down = λ e. let is = err_same reason.NotOwned reason.Down e in absurd (cc);
        unowned = λ e. higher;
        damage = λ damage e. let is = err_same reason.NotOwned (reason.Corrupt damage) e in absurd (cc);
        err = refl;
        disk = brings_stays (a_tenure t) reason.NotOwned (state old.disk) (state d) stays same faults (λ e. absurd (cc));
        step = begin_higher state old t d same _ faults up higher image steps;
      } in
      subst (λ (m : MachineState D). BeginDone state old t (Err reason.NotOwned) m) (sym mid_is) done

  -- ---- what was read was opened

  module _ {F : Type 0} (faults : CountsFaults F (state old.disk).faults (state d).faults) (files : (state old.disk).tells ≡ true → (state d).files ≡ (state old.disk).files) where
    opened_by : (result : Result Began Reason) (new : MachineState D) → IfOk result (BeganFrom state t (record old { disk = d }) new) → IfErr result (IsRefused (record old { disk = d }) new) → IfErr result IsOwn → BringsTo (a_tenure t) result (state d) (state new.disk)
        → IsStep state (record old { disk = d }) (call.Begin t) (reply_by (λ began. reply.Began began.fence began.points) result) new → BeginDone state old t result new
    opened_by (Ok began) new from err own brings step = record {
      began = record {
        tenure_found = from.tenure_found;
        fence_found = from.fence_found;
        held = λ told. subst (HeldOnce began.points from.tenure_found from.fence_found) (files told) (from.held (same ∙ told));
        not_higher = from.not_higher;
        fence_is = from.fence_is;
        new_is = from.new_is;
        content = λ told. from.content (same ∙ told);
        buffered = λ told. subst (AreBesideVolumes began.points new.buffered) (files told) (from.buffered (same ∙ told));
      };
      not_down = λ e. absurd (never reason.Down e);
      unowned = λ e. absurd (never reason.NotOwned e);
      damage = λ damage e. absurd (never (reason.Corrupt damage) e);
      err = tt;
      disk = after_stays (state old.disk) (state d) (state new.disk) stays same (a_tenure t) (Ok began) faults brings;
      step = step_after_stays state old t (reply.Began began.fence began.points) d new same faults steps (λ damage e. cc) step;
    }
      where
        never : (why : Reason) → (let r : Result Began Reason = Ok began in IsErrOf r why) → ⊥
        never why f = cc
    opened_by (Err why) new from err own brings step = record {
      began = tt;
      not_down = λ e. own_not why reason.Down own (λ f. cc) (λ f. cc) (err_same why reason.Down e);
      unowned = λ e. absurd (own_not why reason.NotOwned own (λ f. cc) (λ f. cc) (err_same why reason.NotOwned e));
      damage = λ damage e. absurd (own_not why (reason.Corrupt damage) own (λ f. cc) (λ f. cc) (err_same why (reason.Corrupt damage) e));
      err = own_refused old d new why own err;
      disk = after_stays (state old.disk) (state d) (state new.disk) stays same (a_tenure t) (Err why) faults brings;
      step = step_after_stays state old t (reply.Refused why) d new same faults steps (λ damage e. own_not why (reason.Corrupt damage) own (λ f. cc) (λ f. cc) (why_is damage e)) step;
    }
      where
        why_is : (damage : Damage) → reply.Refused why ≡ reply.Refused (reason.Corrupt damage) → why ≡ reason.Corrupt damage
        why_is damage e = cc

    pub opened_done : (result : Result Began Reason) (mid new : MachineState D) → mid ≡ record old { disk = d } → IfOk result (BeganFrom state t mid new) → IfErr result (IsRefused mid new) → IfErr result IsOwn → BringsTo (a_tenure t) result (state mid.disk) (state new.disk)
        → IsStep state mid (call.Begin t) (reply_by (λ began. reply.Began began.fence began.points) result) new → BeginDone state old t result new
    opened_done result mid new mid_is from err own brings step =
        opened_by result new (subst (λ (m : MachineState D). IfOk result (BeganFrom state t m new)) mid_is from) (subst (λ (m : MachineState D). IfErr result (IsRefused m new)) mid_is err) own
        (subst (λ (m : MachineState D). BringsTo (a_tenure t) result (state m.disk) (state new.disk)) mid_is brings) (subst (λ (m : MachineState D). IsStep state m (call.Begin t) (reply_by (λ began. reply.Began began.fence began.points) result) new) mid_is step)

-- ---- a begin of any machine

pub record BootDone {D : Type 0} (state : D → DiskState) (old : MachineState D) (t : ℕ) (result : Result Began Reason) (new : MachineState D) : Type 0 where
  pub began : old.standing ≡ standing.Boot → IfOk result (BeganFrom state t old new)
  pub again : old.standing ≡ standing.Open → IfOk result (BeganAgain t old new)
  pub down : IsErrOf result reason.Down ↔ (old.standing ≡ standing.Down)
  pub unowned : IsErrOf result reason.NotOwned → MayBeUnowned state t old
  pub unowned_always : old.standing ≢ standing.Down → t < old.begun → IsErrOf result reason.NotOwned
  pub sound : (damage : Damage) → IsErrOf result (reason.Corrupt damage) → Told (state old.disk) (λ files. ¬ IsSound files)
  pub damage : (damage : Damage) → IsErrOf result (reason.Corrupt damage) → Told (state old.disk) (IsDamageOf damage)
  pub err : IfErr result (IsRefused old new)
  pub disk : BringsTo (a_tenure t) result (state old.disk) (state new.disk)
  pub step : IsStep state old (call.Begin t) (reply_by (λ began. reply.Began began.fence began.points) result) new

module _ {D : Type 0} (state : D → DiskState) (old : MachineState D) (t : ℕ) where
  pub boot_down : old.standing ≡ standing.Down → BootDone state old t (Err reason.Down) old
  boot_down is_down = record {
    began = λ e. tt;
    again = λ e. tt;
    down = (λ f. is_down, λ e. refl);
    unowned = λ f. let is = err_same reason.Down reason.NotOwned f in absurd (cc);
    unowned_always = λ not lt. absurd (not is_down);
    sound = λ damage e. let is = err_same reason.Down (reason.Corrupt damage) e in absurd (cc);
    damage = λ damage e. let is = err_same reason.Down (reason.Corrupt damage) e in absurd (cc);
    err = refl;
    disk = brings_none_to (a_tenure t) reason.Down (state old.disk) (λ e. cc);
    step = begin_down state old t is_down;
  }

  up_of : (s : Standing) → s ≢ standing.Down → closed s ≡ None
  up_of standing.Down not = absurd (not refl)
  up_of standing.Boot not = refl
  up_of standing.Open not = refl

  pub boot_unowned : old.standing ≢ standing.Down → t < old.begun → BootDone state old t (Err reason.NotOwned) old
  boot_unowned not lt = record {
    began = λ e. tt;
    again = λ e. tt;
    down = (λ f. let is = err_same reason.NotOwned reason.Down f in absurd (cc), λ e. absurd (not e));
    unowned = λ f. inl lt;
    unowned_always = λ n l. refl;
    sound = λ damage e. let is = err_same reason.NotOwned (reason.Corrupt damage) e in absurd (cc);
    damage = λ damage e. let is = err_same reason.NotOwned (reason.Corrupt damage) e in absurd (cc);
    err = refl;
    disk = brings_none_to (a_tenure t) reason.NotOwned (state old.disk) (λ e. cc);
    step = begin_unowned state old t (up_of old.standing not) lt;
  }

  pub boot_from : old.standing ≡ standing.Boot → old.begun ≤ t → (result : Result Began Reason) (new : MachineState D) → BeginDone state old t result new → BootDone state old t result new
  boot_from boot high result new done = record {
    began = λ e. done.began;
    again = λ e. let clash : standing.Boot ≡ standing.Open = sym boot ∙ e in absurd (cc);
    down = (λ f. absurd (done.not_down f), λ e. let clash : standing.Boot ≡ standing.Down = sym boot ∙ e in absurd (cc));
    unowned = λ f. inr (done.unowned f);
    unowned_always = λ not lt. absurd (omega (arith, high, lt));
    sound = λ damage e told sound. let named = done.damage damage e told in told_are_unsound (state old.disk).files named.damage named.damaged sound;
    damage = done.damage;
    err = done.err;
    disk = done.disk;
    step = done.step;
  }

  own_err : (result : Result Began Reason) (other : Reason) → IfErr result IsOwn → reason.Memory ≢ other → reason.Disk ≢ other → IsErrOf result other → ⊥
  own_err (Ok began) other own memory disk f = cc
  own_err (Err why) other own memory disk f = own_not why other own memory disk (err_same why other f)

  pub boot_again : old.standing ≡ standing.Open → old.begun ≤ t → (result : Result Began Reason) (new : MachineState D) → IfOk result (BeganAgain t old new) → IfErr result (IsRefused old new) → IfErr result IsOwn → BringsTo (a_tenure t) result (state old.disk) (state new.disk)
      → IsStep state old (call.Begin t) (reply_by (λ began. reply.Began began.fence began.points) result) new → BootDone state old t result new
  boot_again is_open high result new again err own brings step = record {
    began = λ e. let clash : standing.Open ≡ standing.Boot = sym is_open ∙ e in absurd (cc);
    again = λ e. again;
    down = (λ f. absurd (own_err result reason.Down own (λ e. cc) (λ e. cc) f), λ e. let clash : standing.Open ≡ standing.Down = sym is_open ∙ e in absurd (cc));
    unowned = λ f. absurd (own_err result reason.NotOwned own (λ e. cc) (λ e. cc) f);
    unowned_always = λ not lt. absurd (omega (arith, high, lt));
    sound = λ damage f. absurd (own_err result (reason.Corrupt damage) own (λ e. cc) (λ e. cc) f);
    damage = λ damage f. absurd (own_err result (reason.Corrupt damage) own (λ e. cc) (λ e. cc) f);
    err = err;
    disk = brings;
    step = step;
  }
