use Rattle.std.proofs.Common.{ap, refl, sym, ◌∙◌}
use Rattle.placement_log.specs.MetaHolds.{MetaEnd}
use Rattle.placement_log.proofs.CallLemmas.{append_moment, append_done}
use Rattle.placement_log.proofs.meta_log.MetaLog.append.Goals as goal

pub returns-clause-any_moment : goal.returns-clause-any_moment
returns-clause-any_moment g c = λ t.
    let begun = sym (ap (λ (v : MetaEnd). v.log) c.self.view_is) ∙ c.in-Some.is in
    append_moment c.args.self.now c.args.state.now (g.D.Disk.state c.args.disk.now) c.requires c.in-Some.log begun (g.D.Disk.state c.append.new.disk) c.deref.result.now (c.deref.ensures.value ∙ ap (λ (v : MetaEnd). v.payload) c.self.view_is)
    (g.met.D.Disk.lawful c.args.disk.now) t (c.append.ensures.any_moment t)

pub returns-clause-appended : goal.returns-clause-appended
returns-clause-appended g c =
    let begun = sym (ap (λ (v : MetaEnd). v.log) c.self.view_is) ∙ c.in-Some.is in
    append_done c.args.self.now c.args.state.now (g.D.Disk.state c.args.disk.now) c.requires c.in-Some.log begun c.append.result _ c.append.new.self (g.D.Disk.state c.append.new.disk) c.deref.result.now (c.deref.ensures.value ∙ ap (λ (v : MetaEnd). v.payload) c.self.view_is)
    refl c.append.ensures.number (λ t. c.append.ensures.acknowledged t)
