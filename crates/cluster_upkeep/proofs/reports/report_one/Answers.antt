use Rattle.cluster_upkeep.proofs.CallLemmas.{has_reported}
use Rattle.cluster_upkeep.proofs.reports.report_one.Goals as goal

pub returns : goal.returns
returns g c = has_reported g.D.Disk.state c.args.slot c.report.result c.args.replicas.now c.report.new.self c.requires.there c.requires.room c.report.ensures c.in-Ok.report c.in-Ok.is
