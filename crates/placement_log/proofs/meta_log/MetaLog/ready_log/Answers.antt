use Rattle.std.proofs.Common.{ap, sym, ◌∙◌}
use Rattle.placement_log.specs.MetaHolds.{MetaEnd}
use Rattle.placement_log.proofs.CallLemmas.{end_stands, next_moment}
use Rattle.placement_log.proofs.meta_log.MetaLog.ready_log.Goals as goal

pub returns-clause-any_moment : goal.returns-clause-any_moment
returns-clause-any_moment g c = λ t.
    let begun = sym (ap (λ (v : MetaEnd). v.log) c.self.view_is) ∙ c.in-Some.is in
    next_moment c.in-Some.log (g.D.Disk.state c.args.disk.now) (g.D.Disk.state c.ready.new.disk) (g.met.D.Disk.lawful c.args.disk.now) (end_stands c.args.self.now c.in-Some.log (g.D.Disk.state c.args.disk.now) begun c.requires.stands) t (c.ready.ensures.any_moment t)
