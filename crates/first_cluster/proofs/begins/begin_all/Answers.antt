use Rattle.std.proofs.Common.{subst}
use Rattle.first_cluster.specs.Begins.{HaveBegun, HaveSomeBegun}
use Rattle.first_cluster.proofs.BeginLemmas.{begun_at, begun_none, room_at, some_at, tenure_at, there_at}
use Rattle.first_cluster.proofs.ListLemmas.{from_loop, take_whole}
use Rattle.first_cluster.proofs.ResultLemmas.{from_err}
use Rattle.first_cluster.proofs.begins.begin_all.Goals as goal

pub loop-start-init : goal.loop-start-init
loop-start-init g c = begun_none g.D.Disk.state c.args.replicas.now

pub begin_first-requires-clause-tenure : goal.begin_first-requires-clause-tenure
begin_first-requires-clause-tenure g c =
    tenure_at g.D.Disk.state c.args.starts.now c.loop-start.start-index _ c.loop-start-test.true c.requires.apart c.args.replicas.now c.loop-start.replicas c.loop-start.invariant (c.requires.tenures _ (from_loop c.args.starts.now c.loop-start.start-index _ c.loop-start-test.true))

pub begin_first-requires-clause-there : goal.begin_first-requires-clause-there
begin_first-requires-clause-there g c =
    there_at g.D.Disk.state c.args.starts.now c.loop-start.start-index _ c.loop-start-test.true c.requires.apart c.args.replicas.now c.loop-start.replicas c.loop-start.invariant (c.requires.there _ (from_loop c.args.starts.now c.loop-start.start-index _ c.loop-start-test.true))

pub begin_first-requires-clause-room : goal.begin_first-requires-clause-room
begin_first-requires-clause-room g c =
    room_at g.D.Disk.state c.args.starts.now c.loop-start.start-index (record { slot = record { shard = 0; node = 0 }; tenure = 0 }) c.loop-start-test.true c.requires.apart c.args.replicas.now c.loop-start.replicas c.loop-start.invariant c.requires.room

pub loop-start-preserved : goal.loop-start-preserved
loop-start-preserved g c =
    begun_at g.D.Disk.state c.args.starts.now c.loop-start.start-index _ c.loop-start-test.true c.requires.apart c.args.replicas.now c.loop-start.replicas c.loop-start.invariant c.begin_first.new.replicas c.in_ok-begin_first.ensures.ok

pub returns-in_err-begin_first-clause-err : goal.returns-in_err-begin_first-clause-err
returns-in_err-begin_first-clause-err g c =
    from_err c.from_residual.result (HaveSomeBegun g.D.Disk.state c.args.starts.now c.args.replicas.now c.begin_first.new.replicas)
    (some_at g.D.Disk.state c.args.starts.now c.loop-start.start-index _ c.loop-start-test.true c.requires.apart c.args.replicas.now c.loop-start.replicas c.loop-start.invariant c.begin_first.new.replicas c.in_err-begin_first.ensures.err)

pub returns-clause-ok : goal.returns-clause-ok
returns-clause-ok g c = subst (λ starts. HaveBegun g.D.Disk.state starts c.args.replicas.now c.loop-start.replicas) (take_whole c.args.starts.now c.loop-start.start-index c.loop-start-test.false) c.loop-start.invariant
