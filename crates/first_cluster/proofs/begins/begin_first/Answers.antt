use Rattle.first_cluster.proofs.BeginLemmas.{begun_err, begun_ok, was_called}
use Rattle.first_cluster.proofs.begins.begin_first.Goals as goal

pub returns-clause-ok : goal.returns-clause-ok
returns-clause-ok g c =
    begun_ok g.D.Disk.state c.args.start c.boot.result c.args.replicas.now c.boot.new.self c.only_memory.result c.only_memory.ensures.ok
    (was_called g.D.Disk.state c.args.start c.boot.result c.args.replicas.now c.boot.new.self c.requires.there c.requires.room c.boot.ensures)

pub returns-clause-err : goal.returns-clause-err
returns-clause-err g c =
    begun_err g.D.Disk.state c.args.start c.boot.result c.args.replicas.now c.boot.new.self c.only_memory.result c.only_memory.ensures.err
    (was_called g.D.Disk.state c.args.start c.boot.result c.args.replicas.now c.boot.new.self c.requires.there c.requires.room c.boot.ensures)
