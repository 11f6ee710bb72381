use Rattle.placement_log.proofs.DiskLemmas.{keeps_none}
use Rattle.placement_log.proofs.meta_log.MetaLog.begin_once.Goals as goal

pub returns-then-is_some-clause-any_moment : goal.returns-then-is_some-clause-any_moment
returns-then-is_some-clause-any_moment g c = λ t. keeps_none (g.D.Disk.state c.args.disk.now)
