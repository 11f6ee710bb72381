use Rattle.std.proofs.Common.{◌∙◌}
use Rattle.placement_log.proofs.DiskLemmas.{keeps_then}
use Rattle.placement_log.proofs.meta_log.MetaLog.make_room.Goals as goal

pub returns-clause-any_moment : goal.returns-clause-any_moment
returns-clause-any_moment g c = λ t.
    keeps_then (g.D.Disk.state c.args.disk.now) (g.D.Disk.state c.begin_once.new.disk) (g.D.Disk.state c.ready_log.new.disk) (c.begin_once.ensures.any_moment t) (c.ready_log.ensures.any_moment (c.begin_once.ensures.tells ∙ t))
