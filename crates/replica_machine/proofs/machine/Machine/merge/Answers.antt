use Rattle.std.proofs.Common.{◌≡◌, ◌∙◌, ℕ, ap, sym, subst, None, Result, Err}
use Rattle.m3_model.specs.declared.reason.Reason.{Reason}
use Rattle.shard_store.proofs.LogStepLemmas.{err_is}
use Rattle.replica_machine.specs.declared.work.Work.{Work}
use Rattle.replica_machine.specs.Works.{with_merge, work_after}
use Rattle.replica_machine.specs.Machines.{unheld}
use Rattle.replica_machine.proofs.FilesLemmas.{store_after_files}
use Rattle.replica_machine.proofs.MergedLemmas.{MergeDone, merge_refused, merge_unasked, merge_done, ok_then}
use Rattle.replica_machine.proofs.PagedLemmas.{holds_it}
use Rattle.replica_machine.proofs.StepLemmas.{machine_of, store_open}
use Rattle.replica_machine.proofs.machine.Machine.merge.Given.{Over}
use Rattle.replica_machine.proofs.machine.Machine.merge.Goals as goal

-- refused at its version
not_served : (g : Over) (c : goal.After-from_residual g) → MergeDone g.D.Disk.state c.args.self.now c.args.page.now c.from_residual.result c.args.self.now
not_served g c =
    let why = c.in_err-check_owned.field-0.0 in
    subst (λ (r : Result ℕ Reason). MergeDone g.D.Disk.state c.args.self.now c.args.page.now r c.args.self.now) (sym (err_is c.from_residual.result why c.from_residual.ensures))
    (merge_refused g.D.Disk.state c.args.self.now c.args.page.now why c.in_err-check_owned.ensures.err)

-- memory was wanted before the store was called
wanted : (g : Over) (c : goal.After-from_residual-in_err-room g) → MergeDone g.D.Disk.state c.args.self.now c.args.page.now c.from_residual-in_err-room.result c.args.self.now
wanted g c =
    let old = c.args.self.now in
    let is = err_is c.from_residual-in_err-room.result c.in_err-room.field-0.0 c.from_residual-in_err-room.ensures ∙ ap Err c.in_err-room.ensures.err in
    subst (λ (r : Result ℕ Reason). MergeDone g.D.Disk.state old c.args.page.now r old) (sym is)
    (merge_unasked g.D.Disk.state old c.args.page.now c.in_ok-check_owned.ensures.ok)

-- what the store answered
fetched : (g : Over) (c : goal.After-settle_files g)
    → MergeDone g.D.Disk.state c.args.self.now c.args.page.now c.settle_files.result (machine_of c.settle_files.new.standing c.self.inside.tenure c.self.inside.begun c.note_merge.new.self c.merge-said.new.self)
fetched g c =
    let inside = c.self.inside in
    let served = subst (λ m. unheld m ≡ None) (sym c.self.view_is) c.in_ok-check_owned.ensures.ok in
    let said = c.merge-said in
    subst (λ (w : Work). MergeDone g.D.Disk.state c.args.self.now c.args.page.now c.settle_files.result (machine_of c.settle_files.new.standing inside.tenure inside.begun w said.new.self)) (sym c.note_merge.ensures)
    (subst (λ m. MergeDone g.D.Disk.state m c.args.page.now c.settle_files.result (machine_of c.settle_files.new.standing inside.tenure inside.begun (work_after with_merge said.result inside.work) said.new.self)) c.self.view_is
    (merge_done g.D.Disk.state inside.standing inside.tenure inside.begun inside.work inside.store said.new.self c.args.page.now served said.result c.settle_files.result c.settle_files.new.standing c.settle_files.ensures.said
    said.ensures.ok said.ensures.memory said.ensures.closed said.ensures.sound said.ensures.disk c.settle_files.ensures.ok c.settle_files.ensures.down c.settle_files.ensures.memory))

pub merge-said-requires : goal.merge-said-requires
merge-said-requires g c = record {
  open_ =
      let is_up = holds_it c.args.self.now.standing c.args.self.now.tenure c.in_ok-check_owned.ensures.ok in
      store_open c.self.inside.standing c.self.inside.store c.self.invariant (ap (λ m. m.standing) c.self.view_is ∙ is_up.open_);
}

pub invariant_of-self : goal.invariant_of-self
invariant_of-self g c =
    let inside = c.self.inside in
    let said = c.merge-said in
    let is_up = holds_it c.args.self.now.standing c.args.self.now.tenure c.in_ok-check_owned.ensures.ok in
    let is_open = ap (λ m. m.standing) c.self.view_is ∙ is_up.open_ in
    let opened = store_open inside.standing inside.store c.self.invariant is_open in
    store_after_files inside.standing c.settle_files.new.standing said.new.self said.result is_open c.settle_files.ensures.ok c.settle_files.ensures.down c.settle_files.ensures.memory (ok_then said.result (λ n is. ap (λ s. s.open_) is.same ∙ opened) said.ensures.ok)
    (λ f. ap (λ s. s.open_) (said.ensures.memory f) ∙ opened) said.ensures.closed

pub returns-in_err-check_owned-clause-ok : goal.returns-in_err-check_owned-clause-ok
returns-in_err-check_owned-clause-ok g c = (not_served g c).ok

pub returns-in_err-check_owned-clause-err : goal.returns-in_err-check_owned-clause-err
returns-in_err-check_owned-clause-err g c = (not_served g c).err

pub returns-in_err-check_owned-clause-plain : goal.returns-in_err-check_owned-clause-plain
returns-in_err-check_owned-clause-plain g c = (not_served g c).plain

pub returns-in_err-check_owned-clause-refused : goal.returns-in_err-check_owned-clause-refused
returns-in_err-check_owned-clause-refused g c = (not_served g c).refused

pub returns-in_err-check_owned-clause-form : goal.returns-in_err-check_owned-clause-form
returns-in_err-check_owned-clause-form g c = (not_served g c).form

pub returns-in_err-check_owned-clause-disk : goal.returns-in_err-check_owned-clause-disk
returns-in_err-check_owned-clause-disk g c = (not_served g c).disk

pub returns-in_err-check_owned-clause-step : goal.returns-in_err-check_owned-clause-step
returns-in_err-check_owned-clause-step g c = (not_served g c).step

pub returns-in_err-room-clause-ok : goal.returns-in_err-room-clause-ok
returns-in_err-room-clause-ok g c = (wanted g c).ok

pub returns-in_err-room-clause-err : goal.returns-in_err-room-clause-err
returns-in_err-room-clause-err g c = (wanted g c).err

pub returns-in_err-room-clause-plain : goal.returns-in_err-room-clause-plain
returns-in_err-room-clause-plain g c = (wanted g c).plain

pub returns-in_err-room-clause-refused : goal.returns-in_err-room-clause-refused
returns-in_err-room-clause-refused g c = (wanted g c).refused

pub returns-in_err-room-clause-form : goal.returns-in_err-room-clause-form
returns-in_err-room-clause-form g c = (wanted g c).form

pub returns-in_err-room-clause-disk : goal.returns-in_err-room-clause-disk
returns-in_err-room-clause-disk g c = (wanted g c).disk

pub returns-in_err-room-clause-step : goal.returns-in_err-room-clause-step
returns-in_err-room-clause-step g c = (wanted g c).step

pub returns-clause-ok : goal.returns-clause-ok
returns-clause-ok g c = (fetched g c).ok

pub returns-clause-err : goal.returns-clause-err
returns-clause-err g c = (fetched g c).err

pub returns-clause-plain : goal.returns-clause-plain
returns-clause-plain g c = (fetched g c).plain

pub returns-clause-refused : goal.returns-clause-refused
returns-clause-refused g c = (fetched g c).refused

pub returns-clause-form : goal.returns-clause-form
returns-clause-form g c = (fetched g c).form

pub returns-clause-disk : goal.returns-clause-disk
returns-clause-disk g c = (fetched g c).disk

pub returns-clause-step : goal.returns-clause-step
returns-clause-step g c = (fetched g c).step
