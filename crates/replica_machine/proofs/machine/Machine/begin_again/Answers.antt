use Rattle.std.proofs.Common.{ap, ◌∙◌, Err}
use Rattle.cluster_core.specs.Refusals.{closed}
use Rattle.replica_machine.specs.declared.machine.Began.{Began}
use Rattle.replica_machine.proofs.BootLemmas.{BeginLeft, again_left, again_done}
use Rattle.replica_machine.proofs.StepLemmas.{machine_of, failed_is, store_open, store_stays, store_after}
use Rattle.replica_machine.proofs.machine.Machine.begin_again.Given.{Over}
use Rattle.replica_machine.proofs.machine.Machine.begin_again.Goals as goal

failed : (g : Over) (c : goal.After-fall g) → BeginLeft g.D.Disk.state c.args.self.now c.args.tenure c.fall.result (machine_of c.fall.new.standing c.self.inside.tenure c.self.inside.begun c.self.inside.work c.begin.new.self)
failed g c =
    let inside = c.self.inside in
    again_left g.D.Disk.state inside.standing inside.tenure inside.begun inside.work c.args.self.now inside.store c.begin.new.self c.self.view_is c.args.tenure (ap closed c.requires.open_) c.requires.high c.in-Err.why c.fall.new.standing c.fall.result c.in-Err.ensures.memory c.in-Err.ensures.fault
    c.fall.ensures.why c.fall.ensures.down c.fall.ensures.stays c.in-Err.ensures.disk

pub begin-requires : goal.begin-requires
begin-requires g c = record { open_ = store_open c.self.inside.standing c.self.inside.store c.self.invariant (ap (λ m. m.standing) c.self.view_is ∙ c.requires.open_) }

pub returns-in-Err-clause-again : goal.returns-in-Err-clause-again
returns-in-Err-clause-again g c = tt

pub returns-in-Err-clause-err : goal.returns-in-Err-clause-err
returns-in-Err-clause-err g c = (failed g c).err

pub returns-in-Err-clause-own : goal.returns-in-Err-clause-own
returns-in-Err-clause-own g c = (failed g c).own

pub returns-in-Err-clause-disk : goal.returns-in-Err-clause-disk
returns-in-Err-clause-disk g c = (failed g c).disk

pub returns-in-Err-clause-step : goal.returns-in-Err-clause-step
returns-in-Err-clause-step g c = (failed g c).step

pub invariant_of-self : goal.invariant_of-self
invariant_of-self g c =
    let inside = c.self.inside in
    let is_open = ap (λ m. m.standing) c.self.view_is ∙ c.requires.open_ in
    let opened = store_open inside.standing inside.store c.self.invariant is_open in
    store_after inside.standing inside.tenure inside.begun inside.work inside.store c.begin.new.self c.fall.new.standing (Err c.in-Err.why) is_open opened tt c.in-Err.ensures.memory c.in-Err.ensures.fault
    (λ f. c.fall.ensures.down (failed_is c.in-Err.why f)) (λ fine. c.fall.ensures.stays (λ f. fine (ap Err f)))

pub invariant_of-self-2 : goal.invariant_of-self-2
invariant_of-self-2 g c = store_stays c.self.inside.standing c.begin.new.self (ap (λ m. m.standing) c.self.view_is ∙ c.requires.open_) (ap (λ s. s.open_) c.in_default.ensures.ok)

pub returns-clause-again : goal.returns-clause-again
returns-clause-again g c =
    let inside = c.self.inside in
    let began : Began = record { fence = c.present_fence.result; points = c.new.result } in
    let done =
    again_done g.D.Disk.state inside.standing inside.tenure inside.begun inside.work c.args.self.now inside.store c.begin.new.self c.self.view_is c.args.tenure began tt c.requires.open_ c.requires.high c.in_default.ensures.ok c.in_default.ensures.disk
    c.present_fence.ensures c.new.ensures in
    done.again

pub returns-clause-disk : goal.returns-clause-disk
returns-clause-disk g c =
    let inside = c.self.inside in
    let began : Began = record { fence = c.present_fence.result; points = c.new.result } in
    let done =
    again_done g.D.Disk.state inside.standing inside.tenure inside.begun inside.work c.args.self.now inside.store c.begin.new.self c.self.view_is c.args.tenure began tt c.requires.open_ c.requires.high c.in_default.ensures.ok c.in_default.ensures.disk
    c.present_fence.ensures c.new.ensures in
    done.disk

pub returns-clause-step : goal.returns-clause-step
returns-clause-step g c =
    let inside = c.self.inside in
    let began : Began = record { fence = c.present_fence.result; points = c.new.result } in
    let done =
    again_done g.D.Disk.state inside.standing inside.tenure inside.begun inside.work c.args.self.now inside.store c.begin.new.self c.self.view_is c.args.tenure began tt c.requires.open_ c.requires.high c.in_default.ensures.ok c.in_default.ensures.disk
    c.present_fence.ensures c.new.ensures in
    done.step
