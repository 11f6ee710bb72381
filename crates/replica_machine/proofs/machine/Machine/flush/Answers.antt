use Rattle.std.proofs.Common.{◌≡◌, ◌∙◌, ap, sym, subst, ℕ, Result, Ok, Err}
use Rattle.std.specs.Prelude.{OnOk, IfOk, true, length, List}
use Rattle.m3_model.specs.declared.reason.Reason.{Reason}
use Rattle.m3_model.specs.declared.reason.Reason.TheVariants as reason
use Rattle.m3_model.specs.declared.rules.Rules.{Rules}
use Rattle.m3_outside.specs.DiskState.{DiskState}
use Rattle.shard_store.specs.fileset_read.declared.file_err.FileErr.{FileErr}
use Rattle.shard_store.specs.Flushes.{AreFlushed, HasFlushed}
use Rattle.shard_store.specs.Stores.{StoreState}
use Rattle.shard_store.proofs.LogStepLemmas.{err_is}
use Rattle.replica_machine.specs.declared.work.Work.{Work}
use Rattle.replica_machine.specs.Works.{with_flush, work_after}
use Rattle.replica_machine.proofs.FenceLemmas.{fence_open}
use Rattle.replica_machine.proofs.FilesLemmas.{store_after_files}
use Rattle.replica_machine.proofs.KeptLemmas.{rearranges_open, rearranges_empty, no_points}
use Rattle.replica_machine.proofs.FlushLemmas.{FlushDone, flush_refused, flush_wanted, flush_done}
use Rattle.replica_machine.proofs.StepLemmas.{machine_of, store_open}
use Rattle.replica_machine.proofs.machine.Machine.flush.Given.{Over}
use Rattle.replica_machine.proofs.machine.Machine.flush.Goals as goal

still_open : {D : Type 0} (state : D → DiskState) (rules : Rules) (before now : StoreState D) (said : Result ℕ FileErr) → IfOk said (λ n. (blocks : List (ℕ × ℕ)) × AreFlushed rules before.buffered blocks × HasFlushed state rules blocks before now × (n ≡ length blocks)) → before.open_ ≡ true → OnOk said (now.open_ ≡ true)
still_open state rules before now (Ok n) done opened = ap (λ s. s.open_) (done.2).same ∙ opened
still_open state rules before now (Err why) done opened = tt

-- refused by its standing
not_open : (g : Over) (c : goal.After-from_residual g) → FlushDone g.D.Disk.state c.args.self.now c.args.rules.now c.from_residual.result c.args.self.now
not_open g c =
    let inside = c.self.inside in
    let old = machine_of inside.standing inside.tenure inside.begun inside.work inside.store in
    let why = c.in_err-check_open.field-0.0 in
    let first = c.in_err-check_open.ensures.err in
    subst (λ (r : Result ℕ Reason). FlushDone g.D.Disk.state c.args.self.now c.args.rules.now r c.args.self.now) (sym (err_is c.from_residual.result why c.from_residual.ensures))
    (subst (λ m. FlushDone g.D.Disk.state m c.args.rules.now (Err why) m) c.self.view_is
    (flush_refused g.D.Disk.state old c.args.rules.now why first (rearranges_empty inside.store.content ⊥ (g.D.Disk.state inside.store.disk) (λ f. f) (λ p has. no_points inside.standing inside.store why c.self.invariant first p has))))

-- memory was wanted before the store was called
wanted : (g : Over) (c : goal.After-from_residual-in_err-room g) → FlushDone g.D.Disk.state c.args.self.now c.args.rules.now c.from_residual-in_err-room.result c.args.self.now
wanted g c =
    let inside = c.self.inside in
    let is_open = fence_open inside.standing c.in_ok-check_open.ensures.ok in
    let opened = store_open inside.standing inside.store c.self.invariant is_open in
    let is = err_is c.from_residual-in_err-room.result c.in_err-room.field-0.0 c.from_residual-in_err-room.ensures ∙ ap Err c.in_err-room.ensures.err in
    subst (λ (r : Result ℕ Reason). FlushDone g.D.Disk.state c.args.self.now c.args.rules.now r c.args.self.now) (sym is)
    (subst (λ m. FlushDone g.D.Disk.state m c.args.rules.now (Err reason.Memory) m) c.self.view_is
    (flush_wanted g.D.Disk.state inside.standing inside.tenure inside.begun inside.work inside.store c.args.rules.now is_open (rearranges_open inside.store.content inside.store.content inside.store.tenure inside.store.fence ⊥ (g.D.Disk.state inside.store.disk) (λ f. f) (λ p has. has) (c.images_hold.ensures opened))))

-- what the store answered
answered : (g : Over) (c : goal.After-settle_files g) → FlushDone g.D.Disk.state c.args.self.now c.args.rules.now c.settle_files.result (machine_of c.settle_files.new.standing c.self.inside.tenure c.self.inside.begun c.note_flush.new.self c.flush-said.new.self)
answered g c =
    let inside = c.self.inside in
    let is_open = fence_open inside.standing c.in_ok-check_open.ensures.ok in
    let said = c.flush-said in
    let settled = c.settle_files.ensures in
    subst (λ (w : Work). FlushDone g.D.Disk.state c.args.self.now c.args.rules.now c.settle_files.result (machine_of c.settle_files.new.standing inside.tenure inside.begun w said.new.self)) (sym c.note_flush.ensures)
    (subst (λ m. FlushDone g.D.Disk.state m c.args.rules.now c.settle_files.result (machine_of c.settle_files.new.standing inside.tenure inside.begun (work_after with_flush said.result inside.work) said.new.self)) c.self.view_is
    (flush_done g.D.Disk.state inside.standing inside.tenure inside.begun inside.work inside.store said.new.self c.args.rules.now is_open said.result c.settle_files.result c.settle_files.new.standing settled.said
    said.ensures.ok said.ensures.memory said.ensures.closed said.ensures.sound said.ensures.disk
    settled.ok settled.down settled.memory))

pub flush-said-requires-clause-open_ : goal.flush-said-requires-clause-open_
flush-said-requires-clause-open_ g c = store_open c.self.inside.standing c.self.inside.store c.self.invariant (fence_open c.self.inside.standing c.in_ok-check_open.ensures.ok)

pub invariant_of-self : goal.invariant_of-self
invariant_of-self g c =
    let inside = c.self.inside in
    let said = c.flush-said in
    let is_open = fence_open inside.standing c.in_ok-check_open.ensures.ok in
    let opened = store_open inside.standing inside.store c.self.invariant is_open in
    store_after_files inside.standing c.settle_files.new.standing said.new.self said.result is_open c.settle_files.ensures.ok c.settle_files.ensures.down c.settle_files.ensures.memory (still_open g.D.Disk.state c.args.rules.now inside.store said.new.self said.result said.ensures.ok opened) (λ f. ap (λ s. s.open_) (said.ensures.memory f).same ∙ opened) said.ensures.closed

pub returns-in_err-check_open-clause-ok : goal.returns-in_err-check_open-clause-ok
returns-in_err-check_open-clause-ok g c = (not_open g c).ok

pub returns-in_err-check_open-clause-memory : goal.returns-in_err-check_open-clause-memory
returns-in_err-check_open-clause-memory g c = (not_open g c).memory

pub returns-in_err-check_open-clause-err : goal.returns-in_err-check_open-clause-err
returns-in_err-check_open-clause-err g c = (not_open g c).err

pub returns-in_err-check_open-clause-plain : goal.returns-in_err-check_open-clause-plain
returns-in_err-check_open-clause-plain g c = (not_open g c).plain

pub returns-in_err-check_open-clause-refused : goal.returns-in_err-check_open-clause-refused
returns-in_err-check_open-clause-refused g c = (not_open g c).refused

pub returns-in_err-check_open-clause-form : goal.returns-in_err-check_open-clause-form
returns-in_err-check_open-clause-form g c = (not_open g c).form

pub returns-in_err-check_open-clause-disk : goal.returns-in_err-check_open-clause-disk
returns-in_err-check_open-clause-disk g c = (not_open g c).disk

pub returns-in_err-check_open-clause-step : goal.returns-in_err-check_open-clause-step
returns-in_err-check_open-clause-step g c = (not_open g c).step

pub returns-in_err-room-clause-ok : goal.returns-in_err-room-clause-ok
returns-in_err-room-clause-ok g c = (wanted g c).ok

pub returns-in_err-room-clause-memory : goal.returns-in_err-room-clause-memory
returns-in_err-room-clause-memory g c = (wanted g c).memory

pub returns-in_err-room-clause-err : goal.returns-in_err-room-clause-err
returns-in_err-room-clause-err g c = (wanted g c).err

pub returns-in_err-room-clause-plain : goal.returns-in_err-room-clause-plain
returns-in_err-room-clause-plain g c = (wanted g c).plain

pub returns-in_err-room-clause-refused : goal.returns-in_err-room-clause-refused
returns-in_err-room-clause-refused g c = (wanted g c).refused

pub returns-in_err-room-clause-form : goal.returns-in_err-room-clause-form
returns-in_err-room-clause-form g c = (wanted g c).form

pub returns-in_err-room-clause-disk : goal.returns-in_err-room-clause-disk
returns-in_err-room-clause-disk g c = (wanted g c).disk

pub returns-in_err-room-clause-step : goal.returns-in_err-room-clause-step
returns-in_err-room-clause-step g c = (wanted g c).step

pub returns-clause-ok : goal.returns-clause-ok
returns-clause-ok g c = (answered g c).ok

pub returns-clause-memory : goal.returns-clause-memory
returns-clause-memory g c = (answered g c).memory

pub returns-clause-err : goal.returns-clause-err
returns-clause-err g c = (answered g c).err

pub returns-clause-plain : goal.returns-clause-plain
returns-clause-plain g c = (answered g c).plain

pub returns-clause-refused : goal.returns-clause-refused
returns-clause-refused g c = (answered g c).refused

pub returns-clause-form : goal.returns-clause-form
returns-clause-form g c = (answered g c).form

pub returns-clause-disk : goal.returns-clause-disk
returns-clause-disk g c = (answered g c).disk

pub returns-clause-step : goal.returns-clause-step
returns-clause-step g c = (answered g c).step
