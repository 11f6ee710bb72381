use Rattle.std.proofs.Common.{refl, sym, subst, inl, inr}
use Rattle.saved_cluster.specs.first_cluster.Depots.{meta_slot}
use Rattle.m3_program.specs.Passing.{outflow}
use Rattle.m3_program.specs.Causes.{EndsScript}
use Rattle.m3_program.specs.Streams.{Stage, stage}
use Rattle.m3_program.proofs.CauseLemmas.{script_earlier}
use Rattle.m3_program.proofs.CloseLemmas.{closes_so, opened_count}
use Rattle.m3_program.proofs.FreshLemmas.{is_fresh}
use Rattle.m3_program.proofs.PlayLemmas.{generated_closes, generated_unopened}
use Rattle.m3_program.proofs.run.run_script.Goals as goal

-- the cluster wasn't opened
pub returns-in-Err-clause-told : goal.returns-in-Err-clause-told
returns-in-Err-clause-told g c =
    generated_unopened g.X.D.Disk.state (g.X.Disks.depot c.args.disks.now) (g.X.Disks.depot c.open.new.disks) c.args.number c.of_opening.result
    (record { why = c.in-Err.why; ended_is = c.of_opening.ensures; cause = c.in-Err.ensures.cause; back = c.in-Err.ensures.returned }) (outflow (g.K.Sink.written c.args.out.now) (g.K.Sink.took c.args.out.now))

pub returns-in-Err-clause-cause : goal.returns-in-Err-clause-cause
returns-in-Err-clause-cause g c = inl (refl, record { why = c.in-Err.why; ended_is = c.of_opening.ensures; cause = c.in-Err.ensures.cause; back = c.in-Err.ensures.returned })

-- it was
pub generate-status-requires-clause-fresh : goal.generate-status-requires-clause-fresh
generate-status-requires-clause-fresh g c =
    is_fresh g.X.D.Disk.state (g.X.Disks.depot c.args.disks.now) (g.X.Disks.depot c.open.new.disks) c.in-Ok.cluster c.in-Ok.ensures.opened c.in-Ok.ensures.may.saved

pub returns-clause-told : goal.returns-clause-told
returns-clause-told g c =
    let mid : Stage g.row.X-D.Denot g.X.D.Disk = stage c.generate-status.new.cluster (g.X.Disks.depot c.generate-status.new.disks) in
    let last = (g.X.Disks.depot c.close.new.disks) in
    generated_closes g.X.D.Disk.state g.met.X.D.Disk.lawful (g.X.Disks.depot c.args.disks.now) (g.X.Disks.depot c.open.new.disks) c.in-Ok.cluster c.in-Ok.ensures.opened c.args.number mid last c.generate-status.result
    (closes_so g.X.D.Disk.state (g.X.Disks.depot c.args.disks.now) (g.X.Disks.depot c.open.new.disks) c.in-Ok.cluster c.in-Ok.ensures.opened mid last c.generate-status.ensures.close c.generate-status.ensures.later c.close.ensures.counted c.close.ensures.meta_counted c.close.ensures.rose c.close.ensures.later)
    (record { close = c.generate-status.ensures.close; known = c.close.ensures.members; meta = c.close.ensures.meta; held = c.close.ensures.held }) (outflow (g.K.Sink.written c.args.out.now) (g.K.Sink.took c.args.out.now)) (outflow (g.K.Sink.written c.generate-status.new.out) (g.K.Sink.took c.generate-status.new.out)) c.generate-status.ensures.told

pub returns-clause-cause : goal.returns-clause-cause
returns-clause-cause g c =
    let first = g.K.Sink.faulted c.args.out.now in
    let now = g.K.Sink.faulted c.generate-status.new.out in
    let stalled = g.K.Sink.stalled c.args.out.now in
    let stalls = g.K.Sink.stalled c.generate-status.new.out in
    let counted = (g.X.Disks.depot c.args.disks.now).counted meta_slot in
    let opened = (g.X.D.Disk.state c.in-Ok.cluster.meta).faults in
    let ended = (g.X.D.Disk.state c.generate-status.new.cluster.meta).faults in
    inr (subst (λ n. EndsScript c.generate-status.result first now stalled stalls counted n) (sym c.close.ensures.meta_counted)
    (script_earlier c.generate-status.result first now stalled stalls counted opened ended (opened_count g.X.D.Disk.state (g.X.Disks.depot c.args.disks.now) (g.X.Disks.depot c.open.new.disks) c.in-Ok.cluster c.in-Ok.ensures.opened) c.generate-status.ensures.cause))
