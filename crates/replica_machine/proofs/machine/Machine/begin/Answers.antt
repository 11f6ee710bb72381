use Rattle.std.proofs.Common.{◌≡◌, ap, ◌∙◌, Err, false, rules}
use Rattle.replica_machine.proofs.OtherLemmas.{store_moved}
use Rattle.replica_machine.proofs.BeginLemmas.{BeginDone}
use Rattle.replica_machine.proofs.PartLemmas.{store_closed, not_loaded_of, higher_of, opened_of}
use Rattle.replica_machine.proofs.BootReasons.{own_damage, own_reasons, unread_damage, unread_reason}
use Rattle.replica_machine.proofs.RefusedFiles.{read_only, owned, unread_owned}
use Rattle.replica_machine.proofs.machine.Machine.begin.Given.{Over}
use Rattle.replica_machine.proofs.machine.Machine.begin.Goals as goal

-- the files couldn't be read
not_read : (g : Over) (c : goal.After-not_loaded g) → BeginDone g.D.Disk.state c.args.self.now c.args.tenure (Err c.not_loaded.result) c.not_loaded.new.self
not_read g c =
    let inside = c.self.inside in
    not_loaded_of g.D.Disk.state inside.standing inside.tenure inside.begun inside.work c.args.self.now inside.store c.load.new.self c.self.view_is c.args.tenure c.requires.boot c.requires.high c.in-Err.ensures.closed c.in-Err.ensures.tells
    c.in-Err.ensures.any_moment c.in-Err.why c.not_loaded.result c.not_loaded.new.self c.in-Err.ensures.faults c.in-Err.ensures.err c.not_loaded.ensures.why c.not_loaded.ensures.left c.not_loaded.ensures.disk

-- they were opened
opened : (g : Over) (c : goal.After-open g) → BeginDone g.D.Disk.state c.args.self.now c.args.tenure c.open.result c.open.new.self
opened g c =
    let inside = c.self.inside in
    opened_of g.D.Disk.state inside.standing inside.tenure inside.begun inside.work c.args.self.now inside.store c.load.new.self c.self.view_is c.args.tenure c.requires.boot c.requires.high c.in-Ok.ensures.closed c.in-Ok.ensures.tells
    c.in-Ok.ensures.any_moment c.in-Ok.ensures.faults c.in-Ok.ensures.files c.open.result c.open.new.self c.open.ensures.began c.open.ensures.err c.open.ensures.own c.open.ensures.disk c.open.ensures.step

pub load-requires : goal.load-requires
load-requires g c =
    let closed : c.self.inside.store.open_ ≡ false = ap (λ s. s.open_) (store_closed c.self.inside.standing c.self.inside.store c.self.invariant (ap (λ m. m.standing) c.self.view_is ∙ c.requires.boot)) in
    search rules

pub invariant_of-self-in-Err : goal.invariant_of-self-in-Err
invariant_of-self-in-Err g c = store_moved c.self.inside.standing c.self.inside.store c.load.new.self c.in-Err.ensures.closed c.self.invariant

pub invariant_of-self : goal.invariant_of-self
invariant_of-self g c = store_moved c.self.inside.standing c.self.inside.store c.load.new.self c.in-Ok.ensures.closed c.self.invariant

pub returns-in-Err-clause-began : goal.returns-in-Err-clause-began
returns-in-Err-clause-began g c = (not_read g c).began

pub returns-in-Err-clause-not_down : goal.returns-in-Err-clause-not_down
returns-in-Err-clause-not_down g c = (not_read g c).not_down

pub returns-in-Err-clause-unowned : goal.returns-in-Err-clause-unowned
returns-in-Err-clause-unowned g c = (not_read g c).unowned

pub returns-in-Err-clause-damage : goal.returns-in-Err-clause-damage
returns-in-Err-clause-damage g c = (not_read g c).damage

pub returns-in-Err-clause-err : goal.returns-in-Err-clause-err
returns-in-Err-clause-err g c = (not_read g c).err

pub returns-in-Err-clause-disk : goal.returns-in-Err-clause-disk
returns-in-Err-clause-disk g c = (not_read g c).disk

pub returns-in-Err-clause-step : goal.returns-in-Err-clause-step
returns-in-Err-clause-step g c = (not_read g c).step

pub returns-clause-began : goal.returns-clause-began
returns-clause-began g c = (opened g c).began

pub returns-clause-not_down : goal.returns-clause-not_down
returns-clause-not_down g c = (opened g c).not_down

pub returns-clause-unowned : goal.returns-clause-unowned
returns-clause-unowned g c = (opened g c).unowned

pub returns-clause-damage : goal.returns-clause-damage
returns-clause-damage g c = (opened g c).damage

pub returns-clause-err : goal.returns-clause-err
returns-clause-err g c = (opened g c).err

pub returns-clause-disk : goal.returns-clause-disk
returns-clause-disk g c = (opened g c).disk

pub returns-clause-step : goal.returns-clause-step
returns-clause-step g c = (opened g c).step

pub returns-then-tenure-loaded-clause-began : goal.returns-then-tenure-loaded-clause-began
returns-then-tenure-loaded-clause-began g c =
    let inside = c.self.inside in
    let loaded = c.in-Ok.loaded in
    let lawful = g.met.D.Disk.lawful inside.store.disk in
    let done =
    higher_of g.D.Disk.state inside.standing inside.tenure inside.begun inside.work c.args.self.now inside.store c.load.new.self c.self.view_is c.args.tenure c.requires.boot c.requires.high c.in-Ok.ensures.closed c.in-Ok.ensures.tells
    c.in-Ok.ensures.any_moment c.in-Ok.ensures.faults c.in-Ok.ensures.files loaded.points loaded.tenure loaded.fence c.in-Ok.ensures.ok c.if-tenure-loaded.true lawful.read_is_image in
    done.began

pub returns-then-tenure-loaded-clause-not_down : goal.returns-then-tenure-loaded-clause-not_down
returns-then-tenure-loaded-clause-not_down g c =
    let inside = c.self.inside in
    let loaded = c.in-Ok.loaded in
    let lawful = g.met.D.Disk.lawful inside.store.disk in
    let done =
    higher_of g.D.Disk.state inside.standing inside.tenure inside.begun inside.work c.args.self.now inside.store c.load.new.self c.self.view_is c.args.tenure c.requires.boot c.requires.high c.in-Ok.ensures.closed c.in-Ok.ensures.tells
    c.in-Ok.ensures.any_moment c.in-Ok.ensures.faults c.in-Ok.ensures.files loaded.points loaded.tenure loaded.fence c.in-Ok.ensures.ok c.if-tenure-loaded.true lawful.read_is_image in
    done.not_down

pub returns-then-tenure-loaded-clause-unowned : goal.returns-then-tenure-loaded-clause-unowned
returns-then-tenure-loaded-clause-unowned g c =
    let inside = c.self.inside in
    let loaded = c.in-Ok.loaded in
    let lawful = g.met.D.Disk.lawful inside.store.disk in
    let done =
    higher_of g.D.Disk.state inside.standing inside.tenure inside.begun inside.work c.args.self.now inside.store c.load.new.self c.self.view_is c.args.tenure c.requires.boot c.requires.high c.in-Ok.ensures.closed c.in-Ok.ensures.tells
    c.in-Ok.ensures.any_moment c.in-Ok.ensures.faults c.in-Ok.ensures.files loaded.points loaded.tenure loaded.fence c.in-Ok.ensures.ok c.if-tenure-loaded.true lawful.read_is_image in
    done.unowned

pub returns-then-tenure-loaded-clause-damage : goal.returns-then-tenure-loaded-clause-damage
returns-then-tenure-loaded-clause-damage g c =
    let inside = c.self.inside in
    let loaded = c.in-Ok.loaded in
    let lawful = g.met.D.Disk.lawful inside.store.disk in
    let done =
    higher_of g.D.Disk.state inside.standing inside.tenure inside.begun inside.work c.args.self.now inside.store c.load.new.self c.self.view_is c.args.tenure c.requires.boot c.requires.high c.in-Ok.ensures.closed c.in-Ok.ensures.tells
    c.in-Ok.ensures.any_moment c.in-Ok.ensures.faults c.in-Ok.ensures.files loaded.points loaded.tenure loaded.fence c.in-Ok.ensures.ok c.if-tenure-loaded.true lawful.read_is_image in
    done.damage

pub returns-then-tenure-loaded-clause-err : goal.returns-then-tenure-loaded-clause-err
returns-then-tenure-loaded-clause-err g c =
    let inside = c.self.inside in
    let loaded = c.in-Ok.loaded in
    let lawful = g.met.D.Disk.lawful inside.store.disk in
    let done =
    higher_of g.D.Disk.state inside.standing inside.tenure inside.begun inside.work c.args.self.now inside.store c.load.new.self c.self.view_is c.args.tenure c.requires.boot c.requires.high c.in-Ok.ensures.closed c.in-Ok.ensures.tells
    c.in-Ok.ensures.any_moment c.in-Ok.ensures.faults c.in-Ok.ensures.files loaded.points loaded.tenure loaded.fence c.in-Ok.ensures.ok c.if-tenure-loaded.true lawful.read_is_image in
    done.err

pub returns-then-tenure-loaded-clause-disk : goal.returns-then-tenure-loaded-clause-disk
returns-then-tenure-loaded-clause-disk g c =
    let inside = c.self.inside in
    let loaded = c.in-Ok.loaded in
    let lawful = g.met.D.Disk.lawful inside.store.disk in
    let done =
    higher_of g.D.Disk.state inside.standing inside.tenure inside.begun inside.work c.args.self.now inside.store c.load.new.self c.self.view_is c.args.tenure c.requires.boot c.requires.high c.in-Ok.ensures.closed c.in-Ok.ensures.tells
    c.in-Ok.ensures.any_moment c.in-Ok.ensures.faults c.in-Ok.ensures.files loaded.points loaded.tenure loaded.fence c.in-Ok.ensures.ok c.if-tenure-loaded.true lawful.read_is_image in
    done.disk

pub returns-then-tenure-loaded-clause-step : goal.returns-then-tenure-loaded-clause-step
returns-then-tenure-loaded-clause-step g c =
    let inside = c.self.inside in
    let loaded = c.in-Ok.loaded in
    let lawful = g.met.D.Disk.lawful inside.store.disk in
    let done =
    higher_of g.D.Disk.state inside.standing inside.tenure inside.begun inside.work c.args.self.now inside.store c.load.new.self c.self.view_is c.args.tenure c.requires.boot c.requires.high c.in-Ok.ensures.closed c.in-Ok.ensures.tells
    c.in-Ok.ensures.any_moment c.in-Ok.ensures.faults c.in-Ok.ensures.files loaded.points loaded.tenure loaded.fence c.in-Ok.ensures.ok c.if-tenure-loaded.true lawful.read_is_image in
    done.step

pub returns-in-Err-clause-reasons : goal.returns-in-Err-clause-reasons
returns-in-Err-clause-reasons g c = unread_reason c.in-Err.why c.not_loaded.result c.not_loaded.ensures.why

pub returns-clause-reasons : goal.returns-clause-reasons
returns-clause-reasons g c = own_reasons c.open.result c.open.ensures.own

pub returns-in-Err-clause-unowned_files : goal.returns-in-Err-clause-unowned_files
returns-in-Err-clause-unowned_files g c tells refused = absurd (unread_owned c.in-Err.why c.not_loaded.result c.not_loaded.ensures.why refused)

pub returns-clause-unowned_files : goal.returns-clause-unowned_files
returns-clause-unowned_files g c tells refused = absurd (owned c.open.result c.open.ensures.own refused)

pub returns-then-tenure-loaded-clause-unowned_files : goal.returns-then-tenure-loaded-clause-unowned_files
returns-then-tenure-loaded-clause-unowned_files g c = rw (← c.self.view_is) (λ tells refused. read_only _ _ (c.in-Ok.ensures.any_moment tells) (c.in-Ok.ensures.files tells))

pub returns-in-Err-clause-form : goal.returns-in-Err-clause-form
returns-in-Err-clause-form g c = unread_damage c.in-Err.why c.not_loaded.result c.in-Err.ensures.apart c.not_loaded.ensures.why

pub returns-clause-form : goal.returns-clause-form
returns-clause-form g c = own_damage c.open.result c.open.ensures.own
