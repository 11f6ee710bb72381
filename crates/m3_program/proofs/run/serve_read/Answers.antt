use Rattle.std.proofs.Common.{◌≡◌, [], arith}
use Rattle.m3_program.specs.Passing.{outflow}
use Rattle.m3_program.specs.Streams.{Stage, stage}
use Rattle.m3_program.specs.declared.status.Status.TheVariants as status
use Rattle.m3_program.proofs.WrittenLemmas.{gives_nothing, appends_nothing}
use Rattle.m3_program.proofs.PromiseLemmas.{may_close}
use Rattle.m3_program.proofs.StreamLemmas.{cuts_silently, takes_nothing}
use Rattle.m3_program.proofs.run.serve_read.Goals as goal

pub returns-in-Err-clause-err : goal.returns-in-Err-clause-err
returns-in-Err-clause-err g c =
    let now : Stage g.row.X-D.Denot g.X.D.Disk = stage c.args.cluster.now (g.X.Disks.depot c.args.disks.now) in
    ([], [], gives_nothing _ _ _ _ c.in-Err.ensures.failed_takes_nothing c.in-Err.ensures.gave, omega arith, appends_nothing (outflow (g.K.Sink.written c.args.out.now) (g.K.Sink.took c.args.out.now)), cuts_silently g.X.D.Disk.state now c.args.line.now.items [] _ (λ is. (let clash : status.ReadFault ≡ status.DiskFault = is in cc)))

pub returns-in-Err-clause-at_fault : goal.returns-in-Err-clause-at_fault
returns-in-Err-clause-at_fault g c is =
    let now : Stage g.row.X-D.Denot g.X.D.Disk = stage c.args.cluster.now (g.X.Disks.depot c.args.disks.now) in
    (gives_nothing _ _ _ _ c.in-Err.ensures.failed_takes_nothing c.in-Err.ensures.gave, appends_nothing (outflow (g.K.Sink.written c.args.out.now) (g.K.Sink.took c.args.out.now)), takes_nothing g.X.D.Disk.state now c.args.line.now.items)

pub returns-in-Err-clause-close : goal.returns-in-Err-clause-close
returns-in-Err-clause-close g c = may_close g.X.D.Disk.state c.args.cluster.now (g.X.Disks.depot c.args.disks.now).held c.requires.may
