use Rattle.std.proofs.Common.{ap, ◌∙◌}
use Rattle.placement_log.specs.MetaHolds.{MetaEnd}
use Rattle.placement_log.proofs.CallLemmas.{removable, sweep_moment, sweep_saved, sweep_all, sweep_stands}
use Rattle.placement_log.proofs.meta_log.MetaLog.save.Goals as goal

pub take_away-requires-clause-present : goal.take_away-requires-clause-present
take_away-requires-clause-present g c = λ h.
    removable c.args.self.now c.append.new.self c.args.state.now (g.D.Disk.state c.args.disk.now) (g.D.Disk.state c.append.new.disk) (g.met.D.Disk.lawful c.args.disk.now) (g.met.D.Disk.lawful c.append.new.disk) c.requires c.in_ok-append.ensures.appended c.append.ensures.tells c.deref.result.now (c.deref.ensures.value ∙ ap (λ (v : MetaEnd). v.older) c.self.view_is ∙ c.append.ensures.older) h

pub returns-clause-any_moment : goal.returns-clause-any_moment
returns-clause-any_moment g c = λ t.
    sweep_moment c.args.self.now c.append.new.self c.args.state.now (g.D.Disk.state c.args.disk.now) (g.D.Disk.state c.append.new.disk) (g.met.D.Disk.lawful c.args.disk.now) (g.met.D.Disk.lawful c.append.new.disk) c.requires c.in_ok-append.ensures.appended c.append.ensures.tells c.deref.result.now (c.deref.ensures.value ∙ ap (λ (v : MetaEnd). v.older) c.self.view_is ∙ c.append.ensures.older)
    (g.D.Disk.state c.take_away.new.disk) c.take_away.ensures.proceeds.told c.take_away.ensures.proceeds.tells t (c.append.ensures.any_moment t)

pub returns-clause-acknowledged : goal.returns-clause-acknowledged
returns-clause-acknowledged g c = λ t.
    sweep_saved c.args.self.now c.append.new.self c.args.state.now (g.D.Disk.state c.args.disk.now) (g.D.Disk.state c.append.new.disk) (g.met.D.Disk.lawful c.args.disk.now) (g.met.D.Disk.lawful c.append.new.disk) c.requires c.in_ok-append.ensures.appended c.append.ensures.tells c.deref.result.now (c.deref.ensures.value ∙ ap (λ (v : MetaEnd). v.older) c.self.view_is ∙ c.append.ensures.older)
    (g.D.Disk.state c.take_away.new.disk) c.take_away.ensures.proceeds.told c.take_away.ensures.proceeds.tells c.take_away.result t

pub returns-clause-swept : goal.returns-clause-swept
returns-clause-swept g c = λ t.
    sweep_all c.args.self.now c.append.new.self c.args.state.now (g.D.Disk.state c.args.disk.now) (g.D.Disk.state c.append.new.disk) (g.met.D.Disk.lawful c.args.disk.now) (g.met.D.Disk.lawful c.append.new.disk) c.requires c.in_ok-append.ensures.appended c.append.ensures.tells c.deref.result.now (c.deref.ensures.value ∙ ap (λ (v : MetaEnd). v.older) c.self.view_is ∙ c.append.ensures.older)
    (g.D.Disk.state c.take_away.new.disk) c.take_away.ensures.proceeds.told c.take_away.ensures.proceeds.tells c.take_away.result t c.take_away.ensures.ok

pub returns-clause-stands : goal.returns-clause-stands
returns-clause-stands g c =
    sweep_stands c.args.self.now c.append.new.self c.args.state.now (g.D.Disk.state c.args.disk.now) (g.D.Disk.state c.append.new.disk) (g.met.D.Disk.lawful c.args.disk.now) (g.met.D.Disk.lawful c.append.new.disk) c.requires c.in_ok-append.ensures.appended c.append.ensures.tells c.deref.result.now (c.deref.ensures.value ∙ ap (λ (v : MetaEnd). v.older) c.self.view_is ∙ c.append.ensures.older)
    (g.D.Disk.state c.take_away.new.disk) c.take_away.ensures.proceeds.told c.take_away.ensures.proceeds.tells c.append.ensures.stands c.take_away.ensures.files
