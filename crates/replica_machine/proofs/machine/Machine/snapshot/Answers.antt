use Rattle.std.proofs.Common.{◌∙◌, ap, sym, subst, ℕ, Result, Err}
use Rattle.m3_model.specs.declared.reason.Reason.{Reason}
use Rattle.shard_store.proofs.LogStepLemmas.{err_is, on_ok_as}
use Rattle.replica_machine.specs.declared.work.Work.{Work}
use Rattle.replica_machine.specs.Works.{with_snapshot, work_after}
use Rattle.replica_machine.proofs.FenceLemmas.{fence_open}
use Rattle.replica_machine.proofs.KeptLemmas.{rearranges_empty, no_points}
use Rattle.replica_machine.proofs.SavedLemmas.{SavedDone, saved_refused, saved_done}
use Rattle.replica_machine.proofs.StepLemmas.{machine_of, store_open, store_after}
use Rattle.replica_machine.proofs.machine.Machine.snapshot.Given.{Over}
use Rattle.replica_machine.proofs.machine.Machine.snapshot.Goals as goal

-- refused by its standing
not_open : (g : Over) (c : goal.After-from_residual g) → SavedDone g.D.Disk.state c.args.self.now c.from_residual.result c.args.self.now
not_open g c =
    let inside = c.self.inside in
    let old = machine_of inside.standing inside.tenure inside.begun inside.work inside.store in
    let why = c.in_err-check_open.field-0.0 in
    let first = c.in_err-check_open.ensures.err in
    subst (λ (r : Result ℕ Reason). SavedDone g.D.Disk.state c.args.self.now r c.args.self.now) (sym (err_is c.from_residual.result why c.from_residual.ensures))
    (subst (λ m. SavedDone g.D.Disk.state m (Err why) m) c.self.view_is
    (saved_refused g.D.Disk.state old why first (rearranges_empty inside.store.content ⊥ (g.D.Disk.state inside.store.disk) (λ f. f) (λ p has. no_points inside.standing inside.store why c.self.invariant first p has))))

-- what the store answered
answered : (g : Over) (c : goal.After-settle g) → SavedDone g.D.Disk.state c.args.self.now c.settle.result (machine_of c.settle.new.standing c.self.inside.tenure c.self.inside.begun c.note_snapshot.new.self c.snapshot-said.new.self)
answered g c =
    let inside = c.self.inside in
    let is_open = fence_open inside.standing c.in_ok-check_open.ensures.ok in
    let said = c.snapshot-said in
    subst (λ (w : Work). SavedDone g.D.Disk.state c.args.self.now c.settle.result (machine_of c.settle.new.standing inside.tenure inside.begun w said.new.self)) (sym c.note_snapshot.ensures)
    (subst (λ m. SavedDone g.D.Disk.state m c.settle.result (machine_of c.settle.new.standing inside.tenure inside.begun (work_after with_snapshot said.result inside.work) said.new.self)) c.self.view_is
    (saved_done g.D.Disk.state inside.standing inside.tenure inside.begun inside.work inside.store said.new.self is_open said.result c.settle.result c.settle.new.standing c.settle.ensures.said
    said.ensures.ok said.ensures.number said.ensures.saved said.ensures.volumes said.ensures.memory said.ensures.fault said.ensures.disk
    c.settle.ensures.down c.settle.ensures.stays))

pub snapshot-said-requires : goal.snapshot-said-requires
snapshot-said-requires g c = record { open_ = store_open c.self.inside.standing c.self.inside.store c.self.invariant (fence_open c.self.inside.standing c.in_ok-check_open.ensures.ok) }

pub invariant_of-self : goal.invariant_of-self
invariant_of-self g c =
    let inside = c.self.inside in
    let said = c.snapshot-said in
    let is_open = fence_open inside.standing c.in_ok-check_open.ensures.ok in
    let opened = store_open inside.standing inside.store c.self.invariant is_open in
    store_after inside.standing inside.tenure inside.begun inside.work inside.store said.new.self c.settle.new.standing said.result is_open opened (on_ok_as said.result (λ same. ap (λ s. s.open_) same ∙ opened) said.ensures.ok) said.ensures.memory said.ensures.fault
    c.settle.ensures.down c.settle.ensures.stays

pub returns-in_err-check_open-clause-ok : goal.returns-in_err-check_open-clause-ok
returns-in_err-check_open-clause-ok g c = (not_open g c).ok

pub returns-in_err-check_open-clause-volumes : goal.returns-in_err-check_open-clause-volumes
returns-in_err-check_open-clause-volumes g c = (not_open g c).volumes

pub returns-in_err-check_open-clause-err : goal.returns-in_err-check_open-clause-err
returns-in_err-check_open-clause-err g c = (not_open g c).err

pub returns-in_err-check_open-clause-plain : goal.returns-in_err-check_open-clause-plain
returns-in_err-check_open-clause-plain g c = (not_open g c).plain

pub returns-in_err-check_open-clause-refused : goal.returns-in_err-check_open-clause-refused
returns-in_err-check_open-clause-refused g c = (not_open g c).refused

pub returns-in_err-check_open-clause-disk : goal.returns-in_err-check_open-clause-disk
returns-in_err-check_open-clause-disk g c = (not_open g c).disk

pub returns-in_err-check_open-clause-step : goal.returns-in_err-check_open-clause-step
returns-in_err-check_open-clause-step g c = (not_open g c).step

pub returns-clause-ok : goal.returns-clause-ok
returns-clause-ok g c = (answered g c).ok

pub returns-clause-volumes : goal.returns-clause-volumes
returns-clause-volumes g c = (answered g c).volumes

pub returns-clause-err : goal.returns-clause-err
returns-clause-err g c = (answered g c).err

pub returns-clause-plain : goal.returns-clause-plain
returns-clause-plain g c = (answered g c).plain

pub returns-clause-refused : goal.returns-clause-refused
returns-clause-refused g c = (answered g c).refused

pub returns-clause-disk : goal.returns-clause-disk
returns-clause-disk g c = (answered g c).disk

pub returns-clause-step : goal.returns-clause-step
returns-clause-step g c = (answered g c).step
