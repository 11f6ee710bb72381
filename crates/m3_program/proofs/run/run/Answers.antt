use Rattle.m3_program.specs.Passing.{outflow}
use Rattle.m3_program.proofs.CauseLemmas.{memory_ends}
use Rattle.m3_program.proofs.CloseLemmas.{unopened_idly}
use Rattle.m3_program.proofs.RunLemmas.{told_unopened}
use Rattle.m3_program.proofs.PlayLemmas.{generated_unopened}
use Rattle.m3_program.proofs.run.run.Goals as goal

pub returns-in-Err-Memory-clause-told : goal.returns-in-Err-Memory-clause-told
returns-in-Err-Memory-clause-told g c = λ asked.
    let disks = (g.X.Disks.depot c.args.disks.now) in
    told_unopened g.X.D.Disk.state disks disks _ (g.S.Source.left c.args.source.now) (g.S.Source.gave c.args.source.now) (outflow (g.K.Sink.written c.args.out.now) (g.K.Sink.took c.args.out.now)) (unopened_idly g.X.D.Disk.state disks)

pub returns-in-Err-Memory-clause-generated : goal.returns-in-Err-Memory-clause-generated
returns-in-Err-Memory-clause-generated g c = λ number asked.
    let disks = (g.X.Disks.depot c.args.disks.now) in
    generated_unopened g.X.D.Disk.state disks disks number _ (unopened_idly g.X.D.Disk.state disks) (outflow (g.K.Sink.written c.args.out.now) (g.K.Sink.took c.args.out.now))

pub returns-in-Err-Memory-clause-cause : goal.returns-in-Err-Memory-clause-cause
returns-in-Err-Memory-clause-cause g c = memory_ends _ _ _ _ _ _ _ _ _ _
