-- A begin by a machine's parts.
use Rattle.std.proofs.Common.{◌≡◌, ◌<◌, ◌≤◌, ℕ, List, sym, ap, subst, ◌∙◌, true, Option, None, Result, Err}
use Rattle.std.specs.Prelude.{IfOk, IfErr, IsErrOf}
use Rattle.m3_model.specs.declared.point.Point.{Point}
use Rattle.m3_model.specs.declared.reason.Reason.{Reason}
use Rattle.m3_model.specs.declared.reason.Reason.TheVariants as reason
use Rattle.m3_model.specs.declared.replica.Standing.{Standing}
use Rattle.m3_model.specs.declared.replica.Standing.TheVariants as standing
use Rattle.m3_outside.specs.Causes.{CountsFaults}
use Rattle.m3_outside.specs.Files.{Stays}
use Rattle.m3_outside.specs.DiskState.{DiskState, Told, Elapses}
use Rattle.shard_store.specs.shard_files.FilesHold.{FilesHold}
use Rattle.shard_store.specs.shard_files.Once.{HeldOnce}
use Rattle.shard_store.specs.shard_files.Gains.{a_tenure}
use Rattle.shard_store.specs.Told.{MayBeUnsound}
use Rattle.shard_store.specs.Stores.{StoreState, closed_over}
use Rattle.shard_store.specs.shard_files.declared.load_err.LoadErr.{LoadErr}
use Rattle.shard_store.specs.shard_files.declared.load_err.LoadErr.TheVariants as failures
use Rattle.cluster_core.specs.Refusals.{closed}
use Rattle.cluster_core.specs.declared.event.StepCall.TheVariants as call
use Rattle.cluster_core.specs.declared.event.StepReply.TheVariants as reply
use Rattle.replica_machine.specs.declared.work.Work.{Work}
use Rattle.replica_machine.specs.Machines.{MachineState, IsStoreOf, IsOwn}
use Rattle.replica_machine.specs.Steps.{IsStep, BringsTo, reply_by}
use Rattle.replica_machine.specs.Boots.{BeganFrom, MayNotLoad, IsRefused}
use Rattle.replica_machine.specs.declared.machine.Began.{Began}
use Rattle.replica_machine.proofs.StepLemmas.{machine_of}
use Rattle.replica_machine.proofs.BeginLemmas.{BeginDone, not_loaded_done, higher_done, opened_done}

-- the store of a machine at Boot has nothing in memory
pub store_closed : {D : Type 0} (s : Standing) (store : StoreState D) → IsStoreOf s store → s ≡ standing.Boot → store ≡ closed_over store.disk
store_closed s store of boot = subst (λ (x : Standing). IsStoreOf x store) boot of

pub store_shut : {D : Type 0} (s : Standing) (store : StoreState D) → s ≡ standing.Boot → store ≡ closed_over store.disk → IsStoreOf s store
store_shut s store boot is = subst (λ (x : Standing). IsStoreOf x store) (sym boot) is

pub closed_moved : {D : Type 0} (before now : StoreState D) → before ≡ closed_over before.disk → now ≡ closed_over now.disk → now ≡ record before { disk = now.disk }
closed_moved before now was is = is ∙ sym (ap (λ (x : StoreState _). record x { disk = now.disk }) was)

module _ {D : Type 0} (state : D → DiskState) (s : Standing) (tenure : Option ℕ) (begun : ℕ) (work : Work) (old : MachineState D) (before now : StoreState D) (view : machine_of s tenure begun work before ≡ old) (t : ℕ) (boot : old.standing ≡ standing.Boot) (high : old.begun ≤ t)
    (moved : now ≡ record before { disk = now.disk }) (same : (state now.disk).tells ≡ (state before.disk).tells) (stays : (state before.disk).tells ≡ true → Elapses Stays (state before.disk) (state now.disk)) where
  up : closed s ≡ None
  up = ap closed (ap (λ (m : MachineState D). m.standing) view ∙ boot)

  low : begun ≤ t
  low = subst (λ (n : ℕ). n ≤ t) (sym (ap (λ (m : MachineState D). m.begun) view)) high

  as_old : (result : Result Began Reason) (new : MachineState D) → BeginDone state (machine_of s tenure begun work before) t result new → BeginDone state old t result new
  as_old result new done = subst (λ (m : MachineState D). BeginDone state m t result new) view done

  pub not_loaded_of : {X : Type 0} (why : LoadErr) (answer : Reason) (new : MachineState D) → (let r : Result X LoadErr = Err why in CountsFaults (IsErrOf r failures.Disk) (state before.disk).faults (state now.disk).faults) → Told (state before.disk) (λ files. MayBeUnsound files why) → MayNotLoad why answer → IsRefused (machine_of s tenure begun work now) new answer
      → new.disk ≡ now.disk → BeginDone state old t (Err answer) new
  not_loaded_of why answer new faults told is left disk =
      as_old (Err answer) new (not_loaded_done state (machine_of s tenure begun work before) t now.disk up low same stays why answer (machine_of s tenure begun work now) new faults told is (ap (machine_of s tenure begun work) moved) left disk)

  module _ {F : Type 0} (faults : CountsFaults F (state before.disk).faults (state now.disk).faults) (files : (state before.disk).tells ≡ true → (state now.disk).files ≡ (state before.disk).files) where
    pub higher_of : (points : List Point) (held_tenure fence : ℕ) → Told (state now.disk) (HeldOnce points held_tenure fence) → t < held_tenure → Told (state before.disk) (state before.disk).images → BeginDone state old t (Err reason.NotOwned) (machine_of s tenure begun work now)
    higher_of points held_tenure fence held higher image =
        as_old (Err reason.NotOwned) (machine_of s tenure begun work now)
        (higher_done state (machine_of s tenure begun work before) t now.disk up low same stays faults (λ told.
        let h = held (same ∙ told) in record { points = h.all; held_tenure = held_tenure; fence = fence; held = subst (FilesHold h.all held_tenure fence) (files told) h.held; higher = higher }) image
        (machine_of s tenure begun work now) (ap (machine_of s tenure begun work) moved))

    pub opened_of : (result : Result Began Reason) (new : MachineState D) → IfOk result (BeganFrom state t (machine_of s tenure begun work now) new) → IfErr result (IsRefused (machine_of s tenure begun work now) new) → IfErr result IsOwn → BringsTo (a_tenure t) result (state now.disk) (state new.disk)
        → IsStep state (machine_of s tenure begun work now) (call.Begin t) (reply_by (λ began. reply.Began began.fence began.points) result) new → BeginDone state old t result new
    opened_of result new from err own brings step =
        as_old result new (opened_done state (machine_of s tenure begun work before) t now.disk up low same stays faults files result (machine_of s tenure begun work now) new (ap (machine_of s tenure begun work) moved) from err own brings step)
