use Rattle.std.proofs.Common.{◌≡◌, ◌∙◌, ap, sym, subst}
use Rattle.std.specs.Prelude.{Err}
use Rattle.saved_cluster.specs.declared.lost.Lost.TheVariants as lost
use Rattle.m3_program.specs.Passing.{outflow}
use Rattle.m3_program.specs.Causes.{EndsScript}
use Rattle.m3_program.specs.Streams.{Stage, opening_at, stage}
use Rattle.m3_program.proofs.CauseLemmas.{lost_ends_script, sink_ends_script}
use Rattle.m3_program.proofs.PlayLemmas.{Tells, tells_all, tells_front, tells_lost, tells_none}
use Rattle.m3_program.proofs.ScriptLemmas.{stopped_fewer}
use Rattle.m3_program.proofs.script.generate.Goals as goal

pub returns-in-Err-clause-told : goal.returns-in-Err-clause-told
returns-in-Err-clause-told g c =
    let first : Stage g.row.X-D.Denot g.X.D.Disk = stage c.args.cluster.now (g.X.Disks.depot c.args.disks.now) in
    let now : Stage g.row.X-D.Denot g.X.D.Disk = stage c.serve_script.new.cluster (g.X.Disks.depot c.serve_script.new.disks) in
    subst (λ s. Tells g.X.D.Disk.state (opening_at first) c.args.number now s (outflow (g.K.Sink.written c.args.out.now) (g.K.Sink.took c.args.out.now)) (outflow (g.K.Sink.written c.args.out.now) (g.K.Sink.took c.args.out.now))) (sym c.of_lost.ensures)
    (tells_lost g.X.D.Disk.state (opening_at first) c.args.number now c.in-Err.why (stopped_fewer g.X.D.Disk.state (opening_at first) c.args.number now _ (c.in-Err.why ≡ lost.Meta) c.in-Err.ensures.err (λ is. ap Err is)) (outflow (g.K.Sink.written c.args.out.now) (g.K.Sink.took c.args.out.now)))

pub returns-in-Err-clause-cause : goal.returns-in-Err-clause-cause
returns-in-Err-clause-cause g c =
    subst (λ s. EndsScript s (g.K.Sink.faulted c.args.out.now) (g.K.Sink.faulted c.args.out.now) (g.K.Sink.stalled c.args.out.now) (g.K.Sink.stalled c.args.out.now) (g.X.D.Disk.state c.args.cluster.now.meta).faults (g.X.D.Disk.state c.serve_script.new.cluster.meta).faults) (sym c.of_lost.ensures)
    (lost_ends_script c.in-Err.why _ _ _ _ _ _ (λ is. c.in-Err.ensures.rose (ap Err is)))

pub returns-in-Err-line-clause-told : goal.returns-in-Err-line-clause-told
returns-in-Err-line-clause-told g c =
    let first : Stage g.row.X-D.Denot g.X.D.Disk = stage c.args.cluster.now (g.X.Disks.depot c.args.disks.now) in
    let now : Stage g.row.X-D.Denot g.X.D.Disk = stage c.serve_script.new.cluster (g.X.Disks.depot c.serve_script.new.disks) in
    tells_none g.X.D.Disk.state (opening_at first) c.args.number now c.in-Ok.summary c.in-Ok.ensures.ok (outflow (g.K.Sink.written c.args.out.now) (g.K.Sink.took c.args.out.now))

pub returns-in-Ok-write_all-clause-told : goal.returns-in-Ok-write_all-clause-told
returns-in-Ok-write_all-clause-told g c =
    let first : Stage g.row.X-D.Denot g.X.D.Disk = stage c.args.cluster.now (g.X.Disks.depot c.args.disks.now) in
    let now : Stage g.row.X-D.Denot g.X.D.Disk = stage c.serve_script.new.cluster (g.X.Disks.depot c.serve_script.new.disks) in
    tells_all g.X.D.Disk.state (opening_at first) c.args.number now c.in-Ok.summary _ c.as_bytes.result.now c.in-Ok.ensures.ok c.in-Ok-line.ensures (c.as_bytes.ensures.value ∙ c.as_str.ensures.value)
    (outflow (g.K.Sink.written c.args.out.now) (g.K.Sink.took c.args.out.now)) (outflow (g.K.Sink.written c.write_all.new.out) (g.K.Sink.took c.write_all.new.out)) c.in-Ok-write_all.ensures.ok

pub returns-clause-told : goal.returns-clause-told
returns-clause-told g c =
    let first : Stage g.row.X-D.Denot g.X.D.Disk = stage c.args.cluster.now (g.X.Disks.depot c.args.disks.now) in
    let now : Stage g.row.X-D.Denot g.X.D.Disk = stage c.serve_script.new.cluster (g.X.Disks.depot c.serve_script.new.disks) in
    let w = c.in-Err-write_all.ensures.err in
    tells_front g.X.D.Disk.state (opening_at first) c.args.number now c.in-Ok.summary _ c.as_bytes.result.now w.0 c.in-Err-write_all.status c.in-Ok.ensures.ok c.in-Ok-line.ensures (c.as_bytes.ensures.value ∙ c.as_str.ensures.value)
    c.in-Err-write_all.ensures.by (outflow (g.K.Sink.written c.args.out.now) (g.K.Sink.took c.args.out.now)) (outflow (g.K.Sink.written c.write_all.new.out) (g.K.Sink.took c.write_all.new.out)) w.1

pub returns-clause-cause : goal.returns-clause-cause
returns-clause-cause g c = sink_ends_script c.in-Err-write_all.status _ _ _ _ _ _ c.in-Err-write_all.ensures.by c.in-Err-write_all.ensures.cause
