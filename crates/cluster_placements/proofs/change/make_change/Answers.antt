use Rattle.std.proofs.Common.{◌+◌, ◌*◌, refl, sym, ap, subst, ◌∙◌, inl}
use Rattle.node_calls.proofs.RunLemmas.{has_room}
use Rattle.cluster_placements.specs.Lending.{HaveGained, MayNotTake}
use Rattle.cluster_placements.specs.Steps.{kept_in, step_length}
use Rattle.cluster_placements.proofs.ChangeLemmas.{apart_slots, as_it_was, free_slots, fresh_slots, full_answer, makes, makes_planned, may_again, may_make, may_still, new_node, no_room, placed_then, spare_room, untaken_answer, untaken_planned}
use Rattle.cluster_placements.proofs.change.make_change.Goals as goal

pub gain-requires-clause-apart : goal.gain-requires-clause-apart
gain-requires-clause-apart g c =
    let m = c.args.members.now in
    apart_slots m (g.X.Disks.depot c.args.disks.now).held c.requires.may c.args.change.next c.as_slice.result.now (c.as_slice.ensures.value ∙ c.requires.planned.planned.fitted.new_are) c.requires.planned.planned.leads.lawful

pub gain-requires-clause-free : goal.gain-requires-clause-free
gain-requires-clause-free g c =
    let m = c.args.members.now in
    free_slots m (g.X.Disks.depot c.args.disks.now).held c.requires.may c.args.change.next c.as_slice.result.now (c.as_slice.ensures.value ∙ c.requires.planned.planned.fitted.new_are) c.requires.planned.planned.leads.lawful

pub gain-requires-clause-new : goal.gain-requires-clause-new
gain-requires-clause-new g c =
    let m = c.args.members.now in
    fresh_slots m (g.X.Disks.depot c.args.disks.now).held c.requires.may c.args.change.next c.as_slice.result.now (c.as_slice.ensures.value ∙ c.requires.planned.planned.fitted.new_are)

pub make-requires : goal.make-requires
make-requires g c =
    let m = c.args.members.now in
    let spare = spare_room c.try_reserve.new.self c.try_reserve.result (sym c.is_err.ensures.value ∙ c.if-is_err.false) c.try_reserve.ensures.ok in
    may_make g.D.Disk.state c.requires.planned.line (g.X.Disks.depot c.args.disks.now) (g.X.Disks.depot c.gain.new.disks) m _ c.args.change c.requires.planned.planned c.requires.planned.step c.requires.may spare c.try_reserve.ensures.items (subst (λ slots. HaveGained g.D.Disk.state slots (g.X.Disks.depot c.args.disks.now) m.net.replicas.members (g.X.Disks.depot c.gain.new.disks) c.gain.new.replicas.members) (c.as_slice.ensures.value ∙ c.requires.planned.planned.fitted.new_are) c.in-Ok.ensures.ok) c.in-Ok.ensures.list refl refl
    (has_room m.net.replicas.events (step_length c.args.change.left.items) _ c.has_room.result (ap (λ n. 2 + 2 * n) (c.len.ensures ∙ c.args.change.left.ok.0)) c.has_room.ensures c.if-not-has_room.false)

pub returns-in-Ok-clause-may : goal.returns-in-Ok-clause-may
returns-in-Ok-clause-may g c =
    let m = c.args.members.now in
    may_again g.D.Disk.state (kept_in m) c.requires.planned.line (g.X.Disks.depot c.args.disks.now) (g.X.Disks.depot c.gain.new.disks) m _ c.make.new.members c.args.change c.make.result c.make.ensures c.requires.planned.planned (subst (λ slots. HaveGained g.D.Disk.state slots (g.X.Disks.depot c.args.disks.now) m.net.replicas.members (g.X.Disks.depot c.gain.new.disks) c.gain.new.replicas.members) (c.as_slice.ensures.value ∙ c.requires.planned.planned.fitted.new_are) c.in-Ok.ensures.ok) c.in-Ok.ensures.list refl c.try_reserve.ensures.items refl refl c.requires.may

pub returns-in-Ok-clause-changed : goal.returns-in-Ok-clause-changed
returns-in-Ok-clause-changed g c = λ a step is.
    let m = c.args.members.now in
    inl (makes g.D.Disk.state (kept_in m) a (g.X.Disks.depot c.args.disks.now) (g.X.Disks.depot c.gain.new.disks) m _ c.make.new.members c.args.change c.make.result c.make.ensures is (subst (λ slots. HaveGained g.D.Disk.state slots (g.X.Disks.depot c.args.disks.now) m.net.replicas.members (g.X.Disks.depot c.gain.new.disks) c.gain.new.replicas.members) (c.as_slice.ensures.value ∙ is.fitted.new_are) c.in-Ok.ensures.ok) c.in-Ok.ensures.list refl c.try_reserve.ensures.items refl refl)

pub returns-in-Ok-clause-placed : goal.returns-in-Ok-clause-placed
returns-in-Ok-clause-placed g c =
    let m = c.args.members.now in
    makes_planned g.D.Disk.state (g.X.Disks.depot c.args.disks.now) (g.X.Disks.depot c.gain.new.disks) m c.make.new.members c.args.change c.make.result c.make.ensures.answer_is c.requires.planned.planned.fitted.printed
    (placed_then g.D.Disk.state (kept_in m) c.requires.planned.line (g.X.Disks.depot c.args.disks.now) (g.X.Disks.depot c.gain.new.disks) m _ c.make.new.members c.args.change c.make.result c.make.ensures c.requires.planned.planned (subst (λ slots. HaveGained g.D.Disk.state slots (g.X.Disks.depot c.args.disks.now) m.net.replicas.members (g.X.Disks.depot c.gain.new.disks) c.gain.new.replicas.members) (c.as_slice.ensures.value ∙ c.requires.planned.planned.fitted.new_are) c.in-Ok.ensures.ok) c.in-Ok.ensures.list refl c.try_reserve.ensures.items refl refl)

pub untaken-requires : goal.untaken-requires
untaken-requires g c =
    let m = c.args.members.now in
    new_node g.D.Disk.state m.net.replicas (g.X.Disks.depot c.args.disks.now) (g.X.Disks.depot c.gain.new.disks) c.args.change.next c.as_slice.result.now c.in-Err-Disk.slot c.requires.planned.planned.leads.lawful (c.as_slice.ensures.value ∙ c.requires.planned.planned.fitted.new_are) (subst (MayNotTake g.D.Disk.state c.as_slice.result.now (g.X.Disks.depot c.args.disks.now) (g.X.Disks.depot c.gain.new.disks)) c.in-Err-Disk.field-0-is c.in-Err-Disk.ensures.cause)

pub returns-in-Err-Disk-clause-may : goal.returns-in-Err-Disk-clause-may
returns-in-Err-Disk-clause-may g c =
    let m = c.args.members.now in
    may_still g.D.Disk.state (kept_in m) c.requires.planned.line (g.X.Disks.depot c.args.disks.now) (g.X.Disks.depot c.gain.new.disks) m _ (as_it_was m _ refl c.try_reserve.ensures.items c.in-Err-Disk.ensures.same refl refl refl refl) c.as_slice.result.now c.in-Err-Disk.ensures.returned c.requires.may

pub returns-in-Err-Disk-clause-changed : goal.returns-in-Err-Disk-clause-changed
returns-in-Err-Disk-clause-changed g c = λ a step is.
    let m = c.args.members.now in
    untaken_answer g.D.Disk.state (kept_in m) a (g.X.Disks.depot c.args.disks.now) (g.X.Disks.depot c.gain.new.disks) m _ (as_it_was m _ refl c.try_reserve.ensures.items c.in-Err-Disk.ensures.same refl refl refl refl) c.as_slice.result.now c.in-Err-Disk.ensures.returned c.args.change c.in-Err-Disk.slot c.untaken.result is c.as_slice.ensures.value
    (subst (MayNotTake g.D.Disk.state c.as_slice.result.now (g.X.Disks.depot c.args.disks.now) (g.X.Disks.depot c.gain.new.disks)) c.in-Err-Disk.field-0-is c.in-Err-Disk.ensures.cause) c.untaken.ensures

pub returns-in-Err-Disk-clause-placed : goal.returns-in-Err-Disk-clause-placed
returns-in-Err-Disk-clause-placed g c =
    let m = c.args.members.now in
    untaken_planned g.D.Disk.state (g.X.Disks.depot c.args.disks.now) (g.X.Disks.depot c.gain.new.disks) m _ c.args.change.next c.in-Err-Disk.slot c.untaken.result c.untaken.ensures
    (as_it_was m _ refl c.try_reserve.ensures.items c.in-Err-Disk.ensures.same refl refl refl refl)

pub returns-then-not-has_room-clause-changed : goal.returns-then-not-has_room-clause-changed
returns-then-not-has_room-clause-changed g c = λ a step is.
    let m = c.args.members.now in
    full_answer g.D.Disk.state (kept_in m) a (g.X.Disks.depot c.args.disks.now) m c.args.change is (no_room m.net.replicas.events (step_length c.args.change.left.items) _ c.has_room.result (ap (λ n. 2 + 2 * n) (c.len.ensures ∙ c.args.change.left.ok.0)) c.has_room.ensures c.if-not-has_room.true)

pub returns-clause-may : goal.returns-clause-may
returns-clause-may g c =
    let m = c.args.members.now in
    may_still g.D.Disk.state (kept_in m) c.requires.planned.line (g.X.Disks.depot c.args.disks.now) (g.X.Disks.depot c.gain.new.disks) m _ (as_it_was m _ refl c.try_reserve.ensures.items c.in-Err-Memory.ensures.same refl refl refl refl) c.as_slice.result.now c.in-Err-Memory.ensures.returned c.requires.may
