use Rattle.std.proofs.Common.{Some, sym, subst, ap, ◌∙◌, Result}
use Rattle.std.specs.Prelude.{⊤}
use Rattle.m3_model.specs.declared.reason.Reason.{Reason}
use Rattle.cluster_core.specs.Refusals.{shut, unowned, outdated, outside}
use Rattle.shard_store.proofs.LogStepLemmas.{err_is, on_ok_as}
use Rattle.replica_machine.specs.Machines.{settled}
use Rattle.replica_machine.proofs.RefusalLemmas.{in_window, up}
use Rattle.replica_machine.proofs.ReasonLemmas.{first_of_three, after_three}
use Rattle.replica_machine.proofs.StepLemmas.{machine_of, middle, settled_is, store_open, store_after}
use Rattle.replica_machine.proofs.PutLemmas.{PutDone, put_refused, put_by, put_done}
use Rattle.replica_machine.proofs.machine.Machine.put.Given.{Over}
use Rattle.replica_machine.proofs.machine.Machine.put.Goals as goal

-- refused at its version
not_served : (g : Over) (c : goal.After-from_residual g) → PutDone g.D.Disk.state c.args.self.now c.args.version c.args.rules.now c.args.point.now c.from_residual.result c.args.self.now
not_served g c =
    let old = c.args.self.now in
    let rules = c.args.rules.now in
    let point = c.args.point.now in
    let version = c.args.version in
    let why = c.in_err-check_version.field-0.0 in
    subst (λ (r : Result ⊤ Reason). PutDone g.D.Disk.state old version rules point r old) (sym (err_is c.from_residual.result why c.from_residual.ensures))
    (put_refused g.D.Disk.state old version rules point why (first_of_three (shut old.standing) (unowned old.tenure version) (outdated old.fence version) (outside rules point) why c.in_err-check_version.ensures.err))

-- refused for the point's time
not_inside : (g : Over) (c : goal.After-from_residual-in_err-check_window g) → PutDone g.D.Disk.state c.args.self.now c.args.version c.args.rules.now c.args.point.now c.from_residual-in_err-check_window.result c.args.self.now
not_inside g c =
    let old = c.args.self.now in
    let rules = c.args.rules.now in
    let point = c.args.point.now in
    let version = c.args.version in
    let why = c.in_err-check_window.field-0.0 in
    subst (λ (r : Result ⊤ Reason). PutDone g.D.Disk.state old version rules point r old) (sym (err_is c.from_residual-in_err-check_window.result why c.from_residual-in_err-check_window.ensures))
    (put_refused g.D.Disk.state old version rules point why
    (after_three (shut old.standing) (unowned old.tenure version) (outdated old.fence version) (outside rules point) (Some why) c.in_ok-check_version.ensures.ok c.in_err-check_window.ensures.err))

-- what the store answered
settles : (g : Over) (c : goal.After-settle g)
    → PutDone g.D.Disk.state c.args.self.now c.args.version c.args.rules.now c.args.point.now c.settle.result (machine_of c.settle.new.standing c.self.inside.tenure c.self.inside.begun c.self.inside.work c.put-said.new.self)
settles g c =
    let inside = c.self.inside in
    let rules = c.args.rules.now in
    let point = c.args.point.now in
    let said = c.put-said.result in
    let mid = middle inside.standing inside.tenure inside.begun inside.work inside.store c.put-said.new.self c.args.self.now said in
    let by = put_by g.D.Disk.state inside.standing inside.tenure inside.begun inside.work c.args.self.now inside.store c.put-said.new.self point said c.self.view_is c.put-said.ensures.ok c.put-said.ensures.unchanged c.put-said.ensures.disk in
    let left =
    settled_is inside.standing inside.tenure inside.begun inside.work inside.store c.put-said.new.self c.settle.new.standing said c.put-said.ensures.memory c.put-said.ensures.fault c.settle.ensures.down c.settle.ensures.stays
    ∙ ap (λ m. settled said (middle inside.standing inside.tenure inside.begun inside.work inside.store c.put-said.new.self m said)) c.self.view_is in
    put_done g.D.Disk.state c.args.self.now c.args.version rules point c.in_ok-check_version.ensures.ok (in_window rules point c.requires.space c.in_ok-check_window.ensures.ok) c.in_ok-check_window.ensures.ok mid said c.settle.result _ c.settle.ensures.said left by

pub put-said-requires-clause-open_ : goal.put-said-requires-clause-open_
put-said-requires-clause-open_ g c =
    let is_up = up c.args.self.now.standing c.args.self.now.tenure c.args.self.now.fence c.args.version c.in_ok-check_version.ensures.ok in
    store_open c.self.inside.standing c.self.inside.store c.self.invariant (ap (λ m. m.standing) c.self.view_is ∙ is_up.open_)

pub invariant_of-self : goal.invariant_of-self
invariant_of-self g c =
    let inside = c.self.inside in
    let is_up = up c.args.self.now.standing c.args.self.now.tenure c.args.self.now.fence c.args.version c.in_ok-check_version.ensures.ok in
    let is_open = ap (λ m. m.standing) c.self.view_is ∙ is_up.open_ in
    let opened = store_open inside.standing inside.store c.self.invariant is_open in
    store_after inside.standing inside.tenure inside.begun inside.work inside.store c.put-said.new.self c.settle.new.standing c.put-said.result is_open opened (on_ok_as c.put-said.result (λ is. ap (λ s. s.open_) is ∙ opened) c.put-said.ensures.ok) c.put-said.ensures.memory c.put-said.ensures.fault
    c.settle.ensures.down c.settle.ensures.stays

pub returns-in_err-check_version-clause-ok : goal.returns-in_err-check_version-clause-ok
returns-in_err-check_version-clause-ok g c = (not_served g c).ok

pub returns-in_err-check_version-clause-window : goal.returns-in_err-check_version-clause-window
returns-in_err-check_version-clause-window g c = (not_served g c).window

pub returns-in_err-check_version-clause-err : goal.returns-in_err-check_version-clause-err
returns-in_err-check_version-clause-err g c = (not_served g c).err

pub returns-in_err-check_version-clause-fault : goal.returns-in_err-check_version-clause-fault
returns-in_err-check_version-clause-fault g c = (not_served g c).fault

pub returns-in_err-check_version-clause-refused : goal.returns-in_err-check_version-clause-refused
returns-in_err-check_version-clause-refused g c = (not_served g c).refused

pub returns-in_err-check_version-clause-disk : goal.returns-in_err-check_version-clause-disk
returns-in_err-check_version-clause-disk g c = (not_served g c).disk

pub returns-in_err-check_version-clause-step : goal.returns-in_err-check_version-clause-step
returns-in_err-check_version-clause-step g c = (not_served g c).step

pub returns-in_err-check_window-clause-ok : goal.returns-in_err-check_window-clause-ok
returns-in_err-check_window-clause-ok g c = (not_inside g c).ok

pub returns-in_err-check_window-clause-window : goal.returns-in_err-check_window-clause-window
returns-in_err-check_window-clause-window g c = (not_inside g c).window

pub returns-in_err-check_window-clause-err : goal.returns-in_err-check_window-clause-err
returns-in_err-check_window-clause-err g c = (not_inside g c).err

pub returns-in_err-check_window-clause-fault : goal.returns-in_err-check_window-clause-fault
returns-in_err-check_window-clause-fault g c = (not_inside g c).fault

pub returns-in_err-check_window-clause-refused : goal.returns-in_err-check_window-clause-refused
returns-in_err-check_window-clause-refused g c = (not_inside g c).refused

pub returns-in_err-check_window-clause-disk : goal.returns-in_err-check_window-clause-disk
returns-in_err-check_window-clause-disk g c = (not_inside g c).disk

pub returns-in_err-check_window-clause-step : goal.returns-in_err-check_window-clause-step
returns-in_err-check_window-clause-step g c = (not_inside g c).step

pub returns-clause-ok : goal.returns-clause-ok
returns-clause-ok g c = (settles g c).ok

pub returns-clause-window : goal.returns-clause-window
returns-clause-window g c = (settles g c).window

pub returns-clause-err : goal.returns-clause-err
returns-clause-err g c = (settles g c).err

pub returns-clause-fault : goal.returns-clause-fault
returns-clause-fault g c = (settles g c).fault

pub returns-clause-refused : goal.returns-clause-refused
returns-clause-refused g c = (settles g c).refused

pub returns-clause-disk : goal.returns-clause-disk
returns-clause-disk g c = (settles g c).disk

pub returns-clause-step : goal.returns-clause-step
returns-clause-step g c = (settles g c).step

pub returns-in_err-check_version-clause-plain : goal.returns-in_err-check_version-clause-plain
returns-in_err-check_version-clause-plain g c = (not_served g c).plain

pub returns-in_err-check_version-clause-unchanged : goal.returns-in_err-check_version-clause-unchanged
returns-in_err-check_version-clause-unchanged g c = (not_served g c).unchanged

pub returns-in_err-check_window-clause-plain : goal.returns-in_err-check_window-clause-plain
returns-in_err-check_window-clause-plain g c = (not_inside g c).plain

pub returns-in_err-check_window-clause-unchanged : goal.returns-in_err-check_window-clause-unchanged
returns-in_err-check_window-clause-unchanged g c = (not_inside g c).unchanged

pub returns-clause-plain : goal.returns-clause-plain
returns-clause-plain g c = (settles g c).plain

pub returns-clause-unchanged : goal.returns-clause-unchanged
returns-clause-unchanged g c = (settles g c).unchanged
