use Rattle.std.proofs.Common.{◌≡◌, ◌<◌, ◌^◌, ◌∙◌, ap, arith, get_or, sym, subst, Some, None, List, Result, Err}
use Rattle.std.specs.Prelude.{slice_get}
use Rattle.std.proofs.lemmas.Result.{IfOk-weaker}
use Rattle.m3_model.specs.Answers.{IsAnswer}
use Rattle.m3_model.specs.Reads.{space_picked}
use Rattle.m3_model.specs.declared.point.Series.{Series}
use Rattle.m3_model.specs.declared.reason.Reason.{Reason}
use Rattle.placement_core.proofs.ListLemmas.{at_index}
use Rattle.shard_store.proofs.commit_log_proofs.Leaves.{leaves_none}
use Rattle.shard_store.proofs.LogStepLemmas.{err_is, on_ok_as}
use Rattle.replica_machine.specs.Machines.{IsLiveAnswer, unserved}
use Rattle.replica_machine.proofs.FilesLemmas.{store_after_files}
use Rattle.replica_machine.proofs.LiveLemmas.{live_answer}
use Rattle.replica_machine.proofs.ReadLemmas.{ReadDone, read_refused, read_memory, read_done}
use Rattle.replica_machine.proofs.RefusalLemmas.{up}
use Rattle.replica_machine.proofs.StepLemmas.{machine_of, store_open}
use Rattle.replica_machine.proofs.machine.Machine.read.Given.{Over}
use Rattle.replica_machine.proofs.machine.Machine.read.Goals as goal

-- refused at its version
not_served : (g : Over) (c : goal.After-from_residual g) → ReadDone g.D.Disk.state c.args.self.now c.args.rules.now c.args.version c.args.pick.now c.args.from c.args.to c.from_residual.result c.args.self.now
not_served g c =
    let why = c.in_err-check_version.field-0.0 in
    subst (λ (r : Result (List Series) Reason). ReadDone g.D.Disk.state c.args.self.now c.args.rules.now c.args.version c.args.pick.now c.args.from c.args.to r c.args.self.now) (sym (err_is c.from_residual.result why c.from_residual.ensures))
    (read_refused g.D.Disk.state c.args.self.now c.args.rules.now c.args.version c.args.pick.now c.args.from c.args.to why c.in_err-check_version.ensures.err)

-- memory was wanted before the store was called
wanted : (g : Over) (c : goal.After-from_residual-in_err-room g) → ReadDone g.D.Disk.state c.args.self.now c.args.rules.now c.args.version c.args.pick.now c.args.from c.args.to c.from_residual-in_err-room.result c.args.self.now
wanted g c =
    let old = c.args.self.now in
    let is = err_is c.from_residual-in_err-room.result c.in_err-room.field-0.0 c.from_residual-in_err-room.ensures ∙ ap Err c.in_err-room.ensures.err in
    subst (λ (r : Result (List Series) Reason). ReadDone g.D.Disk.state old c.args.rules.now c.args.version c.args.pick.now c.args.from c.args.to r old) (sym is)
    (read_memory g.D.Disk.state old c.args.rules.now c.args.version c.args.pick.now c.args.from c.args.to c.in_ok-check_version.ensures.ok ⊥ old.disk (leaves_none ⊥ (g.D.Disk.state old.disk) (λ f. f)))

-- what the store answered
fetched : (g : Over) (c : goal.After-settle_files g)
    → ReadDone g.D.Disk.state c.args.self.now c.args.rules.now c.args.version c.args.pick.now c.args.from c.args.to c.settle_files.result (machine_of c.settle_files.new.standing c.self.inside.tenure c.self.inside.begun c.self.inside.work c.fetch-said.new.self)
fetched g c =
    let inside = c.self.inside in
    let rules = c.args.rules.now in
    let pick = c.args.pick.now in
    let space = c.index-as_slice-space_of.result in
    let is : space ≡ get_or rules.spaces (space_picked pick) space = cc in
    let at : slice_get rules.spaces (space_picked pick) ≡ Some space = at_index rules.spaces (space_picked pick) space c.requires is in
    let first = c.first_live-first.ensures in
    let served = subst (λ m. unserved m c.args.version ≡ None) (sym c.self.view_is) c.in_ok-check_version.ensures.ok in
    let said = c.fetch-said in
    subst (λ m. ReadDone g.D.Disk.state m rules c.args.version pick c.args.from c.args.to c.settle_files.result (machine_of c.settle_files.new.standing inside.tenure inside.begun inside.work said.new.self)) c.self.view_is
    (read_done g.D.Disk.state inside.standing inside.tenure inside.begun inside.work inside.store said.new.self rules c.args.version pick c.args.from c.args.to served space at said.result c.settle_files.result c.settle_files.new.standing c.settle_files.ensures.said
    (λ tells. IfOk-weaker said.result (IsAnswer inside.store.content pick c.first_live-first.result c.args.to) (IsLiveAnswer inside.store.content rules pick c.args.from c.args.to)
    (λ series answer. live_answer inside.store.content rules pick c.args.from c.first_live-first.result c.args.to space series at first.low (λ t below low. first.live t (let fits : c.args.to < 2 ^ 64 = c.ranges.to.fits in omega arith) low) first.first answer) (said.ensures.answer tells))
    said.ensures.ordered said.ensures.ok said.ensures.memory said.ensures.closed said.ensures.sound said.ensures.leaves c.settle_files.ensures.ok c.settle_files.ensures.down c.settle_files.ensures.memory)

pub fetch-said-requires : goal.fetch-said-requires
fetch-said-requires g c = record {
  open_ =
      let is_up = up c.args.self.now.standing c.args.self.now.tenure c.args.self.now.fence c.args.version c.in_ok-check_version.ensures.ok in
      store_open c.self.inside.standing c.self.inside.store c.self.invariant (ap (λ m. m.standing) c.self.view_is ∙ is_up.open_);
}

pub invariant_of-self : goal.invariant_of-self
invariant_of-self g c =
    let inside = c.self.inside in
    let said = c.fetch-said in
    let is_up = up c.args.self.now.standing c.args.self.now.tenure c.args.self.now.fence c.args.version c.in_ok-check_version.ensures.ok in
    let is_open = ap (λ m. m.standing) c.self.view_is ∙ is_up.open_ in
    let opened = store_open inside.standing inside.store c.self.invariant is_open in
    store_after_files inside.standing c.settle_files.new.standing said.new.self said.result is_open c.settle_files.ensures.ok c.settle_files.ensures.down c.settle_files.ensures.memory (on_ok_as said.result (λ is. ap (λ s. s.open_) is ∙ opened) said.ensures.ok)
    (λ f. ap (λ s. s.open_) (said.ensures.memory f) ∙ opened) said.ensures.closed

pub returns-in_err-check_version-clause-ok : goal.returns-in_err-check_version-clause-ok
returns-in_err-check_version-clause-ok g c = (not_served g c).ok

pub returns-in_err-check_version-clause-ordered : goal.returns-in_err-check_version-clause-ordered
returns-in_err-check_version-clause-ordered g c = (not_served g c).ordered

pub returns-in_err-check_version-clause-stays : goal.returns-in_err-check_version-clause-stays
returns-in_err-check_version-clause-stays g c = (not_served g c).stays

pub returns-in_err-check_version-clause-err : goal.returns-in_err-check_version-clause-err
returns-in_err-check_version-clause-err g c = (not_served g c).err

pub returns-in_err-check_version-clause-plain : goal.returns-in_err-check_version-clause-plain
returns-in_err-check_version-clause-plain g c = (not_served g c).plain

pub returns-in_err-check_version-clause-refused : goal.returns-in_err-check_version-clause-refused
returns-in_err-check_version-clause-refused g c = (not_served g c).refused

pub returns-in_err-check_version-clause-form : goal.returns-in_err-check_version-clause-form
returns-in_err-check_version-clause-form g c = (not_served g c).form

pub returns-in_err-check_version-clause-disk : goal.returns-in_err-check_version-clause-disk
returns-in_err-check_version-clause-disk g c = (not_served g c).disk

pub returns-in_err-check_version-clause-step : goal.returns-in_err-check_version-clause-step
returns-in_err-check_version-clause-step g c = (not_served g c).step

pub returns-in_err-room-clause-ok : goal.returns-in_err-room-clause-ok
returns-in_err-room-clause-ok g c = (wanted g c).ok

pub returns-in_err-room-clause-ordered : goal.returns-in_err-room-clause-ordered
returns-in_err-room-clause-ordered g c = (wanted g c).ordered

pub returns-in_err-room-clause-stays : goal.returns-in_err-room-clause-stays
returns-in_err-room-clause-stays g c = (wanted g c).stays

pub returns-in_err-room-clause-err : goal.returns-in_err-room-clause-err
returns-in_err-room-clause-err g c = (wanted g c).err

pub returns-in_err-room-clause-plain : goal.returns-in_err-room-clause-plain
returns-in_err-room-clause-plain g c = (wanted g c).plain

pub returns-in_err-room-clause-refused : goal.returns-in_err-room-clause-refused
returns-in_err-room-clause-refused g c = (wanted g c).refused

pub returns-in_err-room-clause-form : goal.returns-in_err-room-clause-form
returns-in_err-room-clause-form g c = (wanted g c).form

pub returns-in_err-room-clause-disk : goal.returns-in_err-room-clause-disk
returns-in_err-room-clause-disk g c = (wanted g c).disk

pub returns-in_err-room-clause-step : goal.returns-in_err-room-clause-step
returns-in_err-room-clause-step g c = (wanted g c).step

pub returns-clause-ok : goal.returns-clause-ok
returns-clause-ok g c = (fetched g c).ok

pub returns-clause-ordered : goal.returns-clause-ordered
returns-clause-ordered g c = (fetched g c).ordered

pub returns-clause-stays : goal.returns-clause-stays
returns-clause-stays g c = (fetched g c).stays

pub returns-clause-err : goal.returns-clause-err
returns-clause-err g c = (fetched g c).err

pub returns-clause-plain : goal.returns-clause-plain
returns-clause-plain g c = (fetched g c).plain

pub returns-clause-refused : goal.returns-clause-refused
returns-clause-refused g c = (fetched g c).refused

pub returns-clause-form : goal.returns-clause-form
returns-clause-form g c = (fetched g c).form

pub returns-clause-disk : goal.returns-clause-disk
returns-clause-disk g c = (fetched g c).disk

pub returns-clause-step : goal.returns-clause-step
returns-clause-step g c = (fetched g c).step
