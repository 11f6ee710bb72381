use Rattle.std.proofs.Common.{◌∙◌, ap, sym, subst, ℕ, Result, Err}
use Rattle.shard_store.specs.block_buffer.Held.{without, has_expired}
use Rattle.m3_model.specs.declared.reason.Reason.{Reason}
use Rattle.m3_model.specs.declared.reason.Reason.TheVariants as reason
use Rattle.shard_store.proofs.LogStepLemmas.{err_is, on_ok_as}
use Rattle.replica_machine.specs.declared.work.Work.{Work}
use Rattle.replica_machine.specs.Works.{with_tick, work_after}
use Rattle.replica_machine.proofs.FenceLemmas.{fence_open}
use Rattle.replica_machine.proofs.FilesLemmas.{store_after_files}
use Rattle.replica_machine.proofs.KeptLemmas.{rearranges_open, rearranges_empty, no_points, fewer}
use Rattle.replica_machine.proofs.TickLemmas.{TickDone, tick_refused, tick_wanted, tick_done}
use Rattle.replica_machine.proofs.StepLemmas.{machine_of, store_open}
use Rattle.replica_machine.proofs.machine.Machine.tick.Given.{Over}
use Rattle.replica_machine.proofs.machine.Machine.tick.Goals as goal

-- refused by its standing
not_open : (g : Over) (c : goal.After-from_residual g) → TickDone g.D.Disk.state c.args.self.now c.args.rules.now c.from_residual.result c.args.self.now
not_open g c =
    let inside = c.self.inside in
    let old = machine_of inside.standing inside.tenure inside.begun inside.work inside.store in
    let why = c.in_err-check_open.field-0.0 in
    let first = c.in_err-check_open.ensures.err in
    subst (λ (r : Result ℕ Reason). TickDone g.D.Disk.state c.args.self.now c.args.rules.now r c.args.self.now) (sym (err_is c.from_residual.result why c.from_residual.ensures))
    (subst (λ m. TickDone g.D.Disk.state m c.args.rules.now (Err why) m) c.self.view_is
    (tick_refused g.D.Disk.state old c.args.rules.now why first (rearranges_empty (without inside.store.content (has_expired c.args.rules.now)) ⊥ (g.D.Disk.state inside.store.disk) (λ f. f) (λ p has. no_points inside.standing inside.store why c.self.invariant first p (fewer c.args.rules.now inside.store.content p has)))))

-- memory was wanted before the store was called
wanted : (g : Over) (c : goal.After-from_residual-in_err-room g) → TickDone g.D.Disk.state c.args.self.now c.args.rules.now c.from_residual-in_err-room.result c.args.self.now
wanted g c =
    let inside = c.self.inside in
    let is_open = fence_open inside.standing c.in_ok-check_open.ensures.ok in
    let opened = store_open inside.standing inside.store c.self.invariant is_open in
    let is = err_is c.from_residual-in_err-room.result c.in_err-room.field-0.0 c.from_residual-in_err-room.ensures ∙ ap Err c.in_err-room.ensures.err in
    subst (λ (r : Result ℕ Reason). TickDone g.D.Disk.state c.args.self.now c.args.rules.now r c.args.self.now) (sym is)
    (subst (λ m. TickDone g.D.Disk.state m c.args.rules.now (Err reason.Memory) m) c.self.view_is
    (tick_wanted g.D.Disk.state inside.standing inside.tenure inside.begun inside.work inside.store c.args.rules.now is_open (rearranges_open (without inside.store.content (has_expired c.args.rules.now)) inside.store.content inside.store.tenure inside.store.fence ⊥ (g.D.Disk.state inside.store.disk) (λ f. f) (fewer c.args.rules.now inside.store.content) (c.images_hold.ensures opened))))

-- what the store answered
answered : (g : Over) (c : goal.After-settle_files g) → TickDone g.D.Disk.state c.args.self.now c.args.rules.now c.settle_files.result (machine_of c.settle_files.new.standing c.self.inside.tenure c.self.inside.begun c.note_tick.new.self c.tick-said.new.self)
answered g c =
    let inside = c.self.inside in
    let is_open = fence_open inside.standing c.in_ok-check_open.ensures.ok in
    let said = c.tick-said in
    let settled = c.settle_files.ensures in
    subst (λ (w : Work). TickDone g.D.Disk.state c.args.self.now c.args.rules.now c.settle_files.result (machine_of c.settle_files.new.standing inside.tenure inside.begun w said.new.self)) (sym c.note_tick.ensures)
    (subst (λ m. TickDone g.D.Disk.state m c.args.rules.now c.settle_files.result (machine_of c.settle_files.new.standing inside.tenure inside.begun (work_after with_tick said.result inside.work) said.new.self)) c.self.view_is
    (tick_done g.D.Disk.state inside.standing inside.tenure inside.begun inside.work inside.store said.new.self c.args.rules.now is_open said.result c.settle_files.result c.settle_files.new.standing settled.said
    said.ensures.ok said.ensures.lost said.ensures.there said.ensures.stays (g.met.D.Disk.lawful inside.store.disk).read_is_image said.ensures.memory said.ensures.unchanged said.ensures.closed said.ensures.sound said.ensures.disk
    settled.ok settled.down settled.memory))

pub tick-said-requires : goal.tick-said-requires
tick-said-requires g c = record { open_ = store_open c.self.inside.standing c.self.inside.store c.self.invariant (fence_open c.self.inside.standing c.in_ok-check_open.ensures.ok) }

pub invariant_of-self : goal.invariant_of-self
invariant_of-self g c =
    let inside = c.self.inside in
    let said = c.tick-said in
    let is_open = fence_open inside.standing c.in_ok-check_open.ensures.ok in
    let opened = store_open inside.standing inside.store c.self.invariant is_open in
    store_after_files inside.standing c.settle_files.new.standing said.new.self said.result is_open c.settle_files.ensures.ok c.settle_files.ensures.down c.settle_files.ensures.memory (on_ok_as said.result (λ done. ap (λ s. s.open_) done.same ∙ opened) said.ensures.ok) (λ f. ap (λ s. s.open_) (said.ensures.memory f) ∙ opened) said.ensures.closed

pub returns-in_err-check_open-clause-ok : goal.returns-in_err-check_open-clause-ok
returns-in_err-check_open-clause-ok g c = (not_open g c).ok

pub returns-in_err-check_open-clause-lost : goal.returns-in_err-check_open-clause-lost
returns-in_err-check_open-clause-lost g c = (not_open g c).lost

pub returns-in_err-check_open-clause-there : goal.returns-in_err-check_open-clause-there
returns-in_err-check_open-clause-there g c = (not_open g c).there

pub returns-in_err-check_open-clause-err : goal.returns-in_err-check_open-clause-err
returns-in_err-check_open-clause-err g c = (not_open g c).err

pub returns-in_err-check_open-clause-unchanged : goal.returns-in_err-check_open-clause-unchanged
returns-in_err-check_open-clause-unchanged g c = (not_open g c).unchanged

pub returns-in_err-check_open-clause-plain : goal.returns-in_err-check_open-clause-plain
returns-in_err-check_open-clause-plain g c = (not_open g c).plain

pub returns-in_err-check_open-clause-refused : goal.returns-in_err-check_open-clause-refused
returns-in_err-check_open-clause-refused g c = (not_open g c).refused

pub returns-in_err-check_open-clause-form : goal.returns-in_err-check_open-clause-form
returns-in_err-check_open-clause-form g c = (not_open g c).form

pub returns-in_err-check_open-clause-disk : goal.returns-in_err-check_open-clause-disk
returns-in_err-check_open-clause-disk g c = (not_open g c).disk

pub returns-in_err-check_open-clause-step : goal.returns-in_err-check_open-clause-step
returns-in_err-check_open-clause-step g c = (not_open g c).step

pub returns-in_err-room-clause-ok : goal.returns-in_err-room-clause-ok
returns-in_err-room-clause-ok g c = (wanted g c).ok

pub returns-in_err-room-clause-lost : goal.returns-in_err-room-clause-lost
returns-in_err-room-clause-lost g c = (wanted g c).lost

pub returns-in_err-room-clause-there : goal.returns-in_err-room-clause-there
returns-in_err-room-clause-there g c = (wanted g c).there

pub returns-in_err-room-clause-err : goal.returns-in_err-room-clause-err
returns-in_err-room-clause-err g c = (wanted g c).err

pub returns-in_err-room-clause-unchanged : goal.returns-in_err-room-clause-unchanged
returns-in_err-room-clause-unchanged g c = (wanted g c).unchanged

pub returns-in_err-room-clause-plain : goal.returns-in_err-room-clause-plain
returns-in_err-room-clause-plain g c = (wanted g c).plain

pub returns-in_err-room-clause-refused : goal.returns-in_err-room-clause-refused
returns-in_err-room-clause-refused g c = (wanted g c).refused

pub returns-in_err-room-clause-form : goal.returns-in_err-room-clause-form
returns-in_err-room-clause-form g c = (wanted g c).form

pub returns-in_err-room-clause-disk : goal.returns-in_err-room-clause-disk
returns-in_err-room-clause-disk g c = (wanted g c).disk

pub returns-in_err-room-clause-step : goal.returns-in_err-room-clause-step
returns-in_err-room-clause-step g c = (wanted g c).step

pub returns-clause-ok : goal.returns-clause-ok
returns-clause-ok g c = (answered g c).ok

pub returns-clause-lost : goal.returns-clause-lost
returns-clause-lost g c = (answered g c).lost

pub returns-clause-there : goal.returns-clause-there
returns-clause-there g c = (answered g c).there

pub returns-clause-err : goal.returns-clause-err
returns-clause-err g c = (answered g c).err

pub returns-clause-unchanged : goal.returns-clause-unchanged
returns-clause-unchanged g c = (answered g c).unchanged

pub returns-clause-plain : goal.returns-clause-plain
returns-clause-plain g c = (answered g c).plain

pub returns-clause-refused : goal.returns-clause-refused
returns-clause-refused g c = (answered g c).refused

pub returns-clause-form : goal.returns-clause-form
returns-clause-form g c = (answered g c).form

pub returns-clause-disk : goal.returns-clause-disk
returns-clause-disk g c = (answered g c).disk

pub returns-clause-step : goal.returns-clause-step
returns-clause-step g c = (answered g c).step
