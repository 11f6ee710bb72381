use Rattle.std.proofs.Common.{◌≡◌, ◌∙◌, Some, None, sym, subst, ap, Result}
use Rattle.std.specs.Prelude.{⊤}
use Rattle.m3_model.specs.declared.reason.Reason.{Reason}
use Rattle.cluster_core.specs.Refusals.{shut, unowned}
use Rattle.shard_store.proofs.LogStepLemmas.{err_is, on_ok_as}
use Rattle.replica_machine.specs.Machines.{settled}
use Rattle.replica_machine.proofs.ReasonLemmas.{first_of_two, after_two}
use Rattle.replica_machine.proofs.StepLemmas.{machine_of, middle, settled_is, store_open, store_after}
use Rattle.replica_machine.proofs.FenceLemmas.{FenceDone, fence_refused, fence_by, fence_done, fence_open}
use Rattle.replica_machine.proofs.machine.Machine.fence.Given.{Over}
use Rattle.replica_machine.proofs.machine.Machine.fence.Goals as goal

-- refused by its standing
not_open : (g : Over) (c : goal.After-from_residual g) → FenceDone g.D.Disk.state c.args.self.now c.args.version c.from_residual.result c.args.self.now
not_open g c =
    let old = c.args.self.now in
    let version = c.args.version in
    let why = c.in_err-check_open.field-0.0 in
    subst (λ (r : Result ⊤ Reason). FenceDone g.D.Disk.state old version r old) (sym (err_is c.from_residual.result why c.from_residual.ensures))
    (fence_refused g.D.Disk.state old version why (first_of_two (shut old.standing) (unowned old.tenure version) why (subst (λ s. shut s ≡ Some why) (ap (λ m. m.standing) c.self.view_is) c.in_err-check_open.ensures.err)))

-- refused by its tenure
not_owner : (g : Over) (c : goal.After-from_residual-in_err-check_owner g) → FenceDone g.D.Disk.state c.args.self.now c.args.version c.from_residual-in_err-check_owner.result c.args.self.now
not_owner g c =
    let old = c.args.self.now in
    let version = c.args.version in
    let why = c.in_err-check_owner.field-0.0 in
    subst (λ (r : Result ⊤ Reason). FenceDone g.D.Disk.state old version r old) (sym (err_is c.from_residual-in_err-check_owner.result why c.from_residual-in_err-check_owner.ensures))
    (fence_refused g.D.Disk.state old version why
    (after_two (shut old.standing) (unowned old.tenure version) (Some why) (subst (λ s. shut s ≡ None) (ap (λ m. m.standing) c.self.view_is) c.in_ok-check_open.ensures.ok) (subst (λ t. unowned t version ≡ Some why) (ap (λ m. m.tenure) c.self.view_is) c.in_err-check_owner.ensures.err)))

-- what the store answered
settles : (g : Over) (c : goal.After-settle g) → FenceDone g.D.Disk.state c.args.self.now c.args.version c.settle.result (machine_of c.settle.new.standing c.self.inside.tenure c.self.inside.begun c.self.inside.work c.fence-said.new.self)
settles g c =
    let inside = c.self.inside in
    let old = c.args.self.now in
    let version = c.args.version in
    let said = c.fence-said.result in
    let mid = middle inside.standing inside.tenure inside.begun inside.work inside.store c.fence-said.new.self old said in
    let by = fence_by g.D.Disk.state inside.standing inside.tenure inside.begun inside.work old inside.store c.fence-said.new.self version said c.self.view_is c.fence-said.ensures.ok c.fence-said.ensures.unchanged c.fence-said.ensures.disk in
    let left =
    settled_is inside.standing inside.tenure inside.begun inside.work inside.store c.fence-said.new.self c.settle.new.standing said c.fence-said.ensures.memory c.fence-said.ensures.fault c.settle.ensures.down c.settle.ensures.stays
    ∙ ap (λ m. settled said (middle inside.standing inside.tenure inside.begun inside.work inside.store c.fence-said.new.self m said)) c.self.view_is in
    let first =
    after_two (shut old.standing) (unowned old.tenure version) None (subst (λ s. shut s ≡ None) (ap (λ m. m.standing) c.self.view_is) c.in_ok-check_open.ensures.ok)
    (subst (λ t. unowned t version ≡ None) (ap (λ m. m.tenure) c.self.view_is) c.in_ok-check_owner.ensures.ok) in
    fence_done g.D.Disk.state old version first mid said c.settle.result _ c.settle.ensures.said left by

pub fence-said-requires : goal.fence-said-requires
fence-said-requires g c = record { open_ = store_open c.self.inside.standing c.self.inside.store c.self.invariant (fence_open c.self.inside.standing c.in_ok-check_open.ensures.ok) }

pub invariant_of-self : goal.invariant_of-self
invariant_of-self g c =
    let inside = c.self.inside in
    let is_open = fence_open inside.standing c.in_ok-check_open.ensures.ok in
    let opened = store_open inside.standing inside.store c.self.invariant is_open in
    store_after inside.standing inside.tenure inside.begun inside.work inside.store c.fence-said.new.self c.settle.new.standing c.fence-said.result is_open opened (on_ok_as c.fence-said.result (λ is. ap (λ s. s.open_) is) c.fence-said.ensures.ok) c.fence-said.ensures.memory c.fence-said.ensures.fault
    c.settle.ensures.down c.settle.ensures.stays

pub returns-in_err-check_open-clause-ok : goal.returns-in_err-check_open-clause-ok
returns-in_err-check_open-clause-ok g c = (not_open g c).ok

pub returns-in_err-check_open-clause-err : goal.returns-in_err-check_open-clause-err
returns-in_err-check_open-clause-err g c = (not_open g c).err

pub returns-in_err-check_open-clause-fault : goal.returns-in_err-check_open-clause-fault
returns-in_err-check_open-clause-fault g c = (not_open g c).fault

pub returns-in_err-check_open-clause-refused : goal.returns-in_err-check_open-clause-refused
returns-in_err-check_open-clause-refused g c = (not_open g c).refused

pub returns-in_err-check_open-clause-disk : goal.returns-in_err-check_open-clause-disk
returns-in_err-check_open-clause-disk g c = (not_open g c).disk

pub returns-in_err-check_open-clause-step : goal.returns-in_err-check_open-clause-step
returns-in_err-check_open-clause-step g c = (not_open g c).step

pub returns-in_err-check_owner-clause-ok : goal.returns-in_err-check_owner-clause-ok
returns-in_err-check_owner-clause-ok g c = (not_owner g c).ok

pub returns-in_err-check_owner-clause-err : goal.returns-in_err-check_owner-clause-err
returns-in_err-check_owner-clause-err g c = (not_owner g c).err

pub returns-in_err-check_owner-clause-fault : goal.returns-in_err-check_owner-clause-fault
returns-in_err-check_owner-clause-fault g c = (not_owner g c).fault

pub returns-in_err-check_owner-clause-refused : goal.returns-in_err-check_owner-clause-refused
returns-in_err-check_owner-clause-refused g c = (not_owner g c).refused

pub returns-in_err-check_owner-clause-disk : goal.returns-in_err-check_owner-clause-disk
returns-in_err-check_owner-clause-disk g c = (not_owner g c).disk

pub returns-in_err-check_owner-clause-step : goal.returns-in_err-check_owner-clause-step
returns-in_err-check_owner-clause-step g c = (not_owner g c).step

pub returns-clause-ok : goal.returns-clause-ok
returns-clause-ok g c = (settles g c).ok

pub returns-clause-err : goal.returns-clause-err
returns-clause-err g c = (settles g c).err

pub returns-clause-fault : goal.returns-clause-fault
returns-clause-fault g c = (settles g c).fault

pub returns-clause-refused : goal.returns-clause-refused
returns-clause-refused g c = (settles g c).refused

pub returns-clause-disk : goal.returns-clause-disk
returns-clause-disk g c = (settles g c).disk

pub returns-clause-step : goal.returns-clause-step
returns-clause-step g c = (settles g c).step

pub returns-in_err-check_open-clause-plain : goal.returns-in_err-check_open-clause-plain
returns-in_err-check_open-clause-plain g c = (not_open g c).plain

pub returns-in_err-check_open-clause-unchanged : goal.returns-in_err-check_open-clause-unchanged
returns-in_err-check_open-clause-unchanged g c = (not_open g c).unchanged

pub returns-in_err-check_owner-clause-plain : goal.returns-in_err-check_owner-clause-plain
returns-in_err-check_owner-clause-plain g c = (not_owner g c).plain

pub returns-in_err-check_owner-clause-unchanged : goal.returns-in_err-check_owner-clause-unchanged
returns-in_err-check_owner-clause-unchanged g c = (not_owner g c).unchanged

pub returns-clause-plain : goal.returns-clause-plain
returns-clause-plain g c = (settles g c).plain

pub returns-clause-unchanged : goal.returns-clause-unchanged
returns-clause-unchanged g c = (settles g c).unchanged
