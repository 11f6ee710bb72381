use Rattle.std.proofs.Common.{◌≡◌, ◌∙◌, ap, sym, subst, None, Result, Err}
use Rattle.std.specs.Option.{option_copied}
use Rattle.m3_model.specs.declared.point.Page.{Page}
use Rattle.m3_model.specs.declared.reason.Reason.{Reason}
use Rattle.shard_store.proofs.commit_log_proofs.Leaves.{leaves_none}
use Rattle.shard_store.proofs.LogStepLemmas.{err_is, on_ok_as}
use Rattle.replica_machine.specs.Machines.{unheld}
use Rattle.replica_machine.proofs.FilesLemmas.{store_after_files}
use Rattle.replica_machine.proofs.PagedLemmas.{PageDone, holds_it, page_refused, page_memory, page_done}
use Rattle.replica_machine.proofs.StepLemmas.{machine_of, store_open}
use Rattle.replica_machine.proofs.machine.Machine.page.Given.{Over}
use Rattle.replica_machine.proofs.machine.Machine.page.Goals as goal

-- refused at its version
not_served : (g : Over) (c : goal.After-from_residual g) → PageDone g.D.Disk.state c.args.self.now (option_copied c.args.after) c.from_residual.result c.args.self.now
not_served g c =
    let why = c.in_err-check_owned.field-0.0 in
    subst (λ (r : Result Page Reason). PageDone g.D.Disk.state c.args.self.now (option_copied c.args.after) r c.args.self.now) (sym (err_is c.from_residual.result why c.from_residual.ensures))
    (page_refused g.D.Disk.state c.args.self.now (option_copied c.args.after) why c.in_err-check_owned.ensures.err)

-- memory was wanted before the store was called
wanted : (g : Over) (c : goal.After-from_residual-in_err-room g) → PageDone g.D.Disk.state c.args.self.now (option_copied c.args.after) c.from_residual-in_err-room.result c.args.self.now
wanted g c =
    let old = c.args.self.now in
    let is = err_is c.from_residual-in_err-room.result c.in_err-room.field-0.0 c.from_residual-in_err-room.ensures ∙ ap Err c.in_err-room.ensures.err in
    subst (λ (r : Result Page Reason). PageDone g.D.Disk.state old (option_copied c.args.after) r old) (sym is)
    (page_memory g.D.Disk.state old (option_copied c.args.after) c.in_ok-check_owned.ensures.ok ⊥ old.disk (leaves_none ⊥ (g.D.Disk.state old.disk) (λ f. f)))

-- what the store answered
fetched : (g : Over) (c : goal.After-settle_files g)
    → PageDone g.D.Disk.state c.args.self.now (option_copied c.args.after) c.settle_files.result (machine_of c.settle_files.new.standing c.self.inside.tenure c.self.inside.begun c.self.inside.work c.page-said.new.self)
fetched g c =
    let inside = c.self.inside in
    let served = subst (λ m. unheld m ≡ None) (sym c.self.view_is) c.in_ok-check_owned.ensures.ok in
    let said = c.page-said in
    subst (λ m. PageDone g.D.Disk.state m (option_copied c.args.after) c.settle_files.result (machine_of c.settle_files.new.standing inside.tenure inside.begun inside.work said.new.self)) c.self.view_is
    (page_done g.D.Disk.state inside.standing inside.tenure inside.begun inside.work inside.store said.new.self (option_copied c.args.after) served said.result c.settle_files.result c.settle_files.new.standing c.settle_files.ensures.said
    said.ensures.page said.ensures.ok said.ensures.memory said.ensures.closed said.ensures.sound said.ensures.leaves c.settle_files.ensures.ok c.settle_files.ensures.down c.settle_files.ensures.memory)

pub page-said-requires : goal.page-said-requires
page-said-requires g c = record {
  open_ =
      let is_up = holds_it c.args.self.now.standing c.args.self.now.tenure c.in_ok-check_owned.ensures.ok in
      store_open c.self.inside.standing c.self.inside.store c.self.invariant (ap (λ m. m.standing) c.self.view_is ∙ is_up.open_);
}

pub invariant_of-self : goal.invariant_of-self
invariant_of-self g c =
    let inside = c.self.inside in
    let said = c.page-said in
    let is_up = holds_it c.args.self.now.standing c.args.self.now.tenure c.in_ok-check_owned.ensures.ok in
    let is_open = ap (λ m. m.standing) c.self.view_is ∙ is_up.open_ in
    let opened = store_open inside.standing inside.store c.self.invariant is_open in
    store_after_files inside.standing c.settle_files.new.standing said.new.self said.result is_open c.settle_files.ensures.ok c.settle_files.ensures.down c.settle_files.ensures.memory (on_ok_as said.result (λ is. ap (λ s. s.open_) is ∙ opened) said.ensures.ok)
    (λ f. ap (λ s. s.open_) (said.ensures.memory f) ∙ opened) said.ensures.closed

pub returns-in_err-check_owned-clause-ok : goal.returns-in_err-check_owned-clause-ok
returns-in_err-check_owned-clause-ok g c = (not_served g c).ok

pub returns-in_err-check_owned-clause-stays : goal.returns-in_err-check_owned-clause-stays
returns-in_err-check_owned-clause-stays g c = (not_served g c).stays

pub returns-in_err-check_owned-clause-err : goal.returns-in_err-check_owned-clause-err
returns-in_err-check_owned-clause-err g c = (not_served g c).err

pub returns-in_err-check_owned-clause-plain : goal.returns-in_err-check_owned-clause-plain
returns-in_err-check_owned-clause-plain g c = (not_served g c).plain

pub returns-in_err-check_owned-clause-refused : goal.returns-in_err-check_owned-clause-refused
returns-in_err-check_owned-clause-refused g c = (not_served g c).refused

pub returns-in_err-check_owned-clause-form : goal.returns-in_err-check_owned-clause-form
returns-in_err-check_owned-clause-form g c = (not_served g c).form

pub returns-in_err-check_owned-clause-disk : goal.returns-in_err-check_owned-clause-disk
returns-in_err-check_owned-clause-disk g c = (not_served g c).disk

pub returns-in_err-check_owned-clause-step : goal.returns-in_err-check_owned-clause-step
returns-in_err-check_owned-clause-step g c = (not_served g c).step

pub returns-in_err-room-clause-ok : goal.returns-in_err-room-clause-ok
returns-in_err-room-clause-ok g c = (wanted g c).ok

pub returns-in_err-room-clause-stays : goal.returns-in_err-room-clause-stays
returns-in_err-room-clause-stays g c = (wanted g c).stays

pub returns-in_err-room-clause-err : goal.returns-in_err-room-clause-err
returns-in_err-room-clause-err g c = (wanted g c).err

pub returns-in_err-room-clause-plain : goal.returns-in_err-room-clause-plain
returns-in_err-room-clause-plain g c = (wanted g c).plain

pub returns-in_err-room-clause-refused : goal.returns-in_err-room-clause-refused
returns-in_err-room-clause-refused g c = (wanted g c).refused

pub returns-in_err-room-clause-form : goal.returns-in_err-room-clause-form
returns-in_err-room-clause-form g c = (wanted g c).form

pub returns-in_err-room-clause-disk : goal.returns-in_err-room-clause-disk
returns-in_err-room-clause-disk g c = (wanted g c).disk

pub returns-in_err-room-clause-step : goal.returns-in_err-room-clause-step
returns-in_err-room-clause-step g c = (wanted g c).step

pub returns-clause-ok : goal.returns-clause-ok
returns-clause-ok g c = (fetched g c).ok

pub returns-clause-stays : goal.returns-clause-stays
returns-clause-stays g c = (fetched g c).stays

pub returns-clause-err : goal.returns-clause-err
returns-clause-err g c = (fetched g c).err

pub returns-clause-plain : goal.returns-clause-plain
returns-clause-plain g c = (fetched g c).plain

pub returns-clause-refused : goal.returns-clause-refused
returns-clause-refused g c = (fetched g c).refused

pub returns-clause-form : goal.returns-clause-form
returns-clause-form g c = (fetched g c).form

pub returns-clause-disk : goal.returns-clause-disk
returns-clause-disk g c = (fetched g c).disk

pub returns-clause-step : goal.returns-clause-step
returns-clause-step g c = (fetched g c).step
