use Rattle.std.proofs.Common.{◌∙◌, refl, sym, subst, inl, inr}
use Rattle.saved_cluster.specs.first_cluster.Depots.{meta_slot}
use Rattle.m3_program.specs.Passing.{outflow}
use Rattle.m3_program.specs.Causes.{EndsReading}
use Rattle.m3_program.specs.Streams.{Stage, stage}
use Rattle.m3_program.proofs.CauseLemmas.{opening_not_done, reading_earlier}
use Rattle.m3_program.proofs.CloseLemmas.{closes_so, opened_count}
use Rattle.m3_program.proofs.FreshLemmas.{is_fresh}
use Rattle.m3_program.proofs.RunLemmas.{told_closes, told_unopened}
use Rattle.m3_program.proofs.run.run_lines.Goals as goal

-- the cluster wasn't opened
pub returns-in-Err-clause-told : goal.returns-in-Err-clause-told
returns-in-Err-clause-told g c =
    told_unopened g.X.D.Disk.state (g.X.Disks.depot c.args.disks.now) (g.X.Disks.depot c.open.new.disks) c.of_opening.result (g.S.Source.left c.args.source.now) (g.S.Source.gave c.args.source.now) (outflow (g.K.Sink.written c.args.out.now) (g.K.Sink.took c.args.out.now))
    (record { why = c.in-Err.why; ended_is = c.of_opening.ensures; cause = c.in-Err.ensures.cause; back = c.in-Err.ensures.returned })

pub returns-in-Err-clause-ended : goal.returns-in-Err-clause-ended
returns-in-Err-clause-ended g c = λ is. absurd (opening_not_done c.in-Err.why (sym c.of_opening.ensures ∙ is))

pub returns-in-Err-clause-cause : goal.returns-in-Err-clause-cause
returns-in-Err-clause-cause g c = inl (refl, refl, record { why = c.in-Err.why; ended_is = c.of_opening.ensures; cause = c.in-Err.ensures.cause; back = c.in-Err.ensures.returned })

-- it was
pub serve_all-status-requires-clause-fresh : goal.serve_all-status-requires-clause-fresh
serve_all-status-requires-clause-fresh g c =
    is_fresh g.X.D.Disk.state (g.X.Disks.depot c.args.disks.now) (g.X.Disks.depot c.open.new.disks) c.in-Ok.cluster c.in-Ok.ensures.opened c.in-Ok.ensures.may.saved

pub returns-clause-told : goal.returns-clause-told
returns-clause-told g c =
    let mid : Stage g.row.X-D.Denot g.X.D.Disk = stage c.serve_all-status.new.cluster (g.X.Disks.depot c.serve_all-status.new.disks) in
    let last = (g.X.Disks.depot c.close.new.disks) in
    told_closes g.X.D.Disk.state g.met.X.D.Disk.lawful (g.X.Disks.depot c.args.disks.now) (g.X.Disks.depot c.open.new.disks) c.in-Ok.cluster c.in-Ok.ensures.opened mid last c.serve_all-status.result
    (closes_so g.X.D.Disk.state (g.X.Disks.depot c.args.disks.now) (g.X.Disks.depot c.open.new.disks) c.in-Ok.cluster c.in-Ok.ensures.opened mid last c.serve_all-status.ensures.close c.serve_all-status.ensures.later c.close.ensures.counted c.close.ensures.meta_counted c.close.ensures.rose c.close.ensures.later)
    (record { close = c.serve_all-status.ensures.close; known = c.close.ensures.members; meta = c.close.ensures.meta; held = c.close.ensures.held }) (g.S.Source.left c.args.source.now) (g.S.Source.gave c.args.source.now) (outflow (g.K.Sink.written c.args.out.now) (g.K.Sink.took c.args.out.now))
    (g.S.Source.left c.serve_all-status.new.source) (g.S.Source.gave c.serve_all-status.new.source) (outflow (g.K.Sink.written c.serve_all-status.new.out) (g.K.Sink.took c.serve_all-status.new.out)) c.serve_all-status.ensures.told

pub returns-clause-cause : goal.returns-clause-cause
returns-clause-cause g c =
    let read = g.S.Source.faulted c.args.source.now in
    let reads = g.S.Source.faulted c.serve_all-status.new.source in
    let first = g.K.Sink.faulted c.args.out.now in
    let now = g.K.Sink.faulted c.serve_all-status.new.out in
    let stalled = g.K.Sink.stalled c.args.out.now in
    let stalls = g.K.Sink.stalled c.serve_all-status.new.out in
    let counted = (g.X.Disks.depot c.args.disks.now).counted meta_slot in
    let opened = (g.X.D.Disk.state c.in-Ok.cluster.meta).faults in
    let ended = (g.X.D.Disk.state c.serve_all-status.new.cluster.meta).faults in
    inr (subst (λ n. EndsReading c.serve_all-status.result read reads first now stalled stalls counted n) (sym c.close.ensures.meta_counted)
    (reading_earlier c.serve_all-status.result read reads first now stalled stalls counted opened ended (opened_count g.X.D.Disk.state (g.X.Disks.depot c.args.disks.now) (g.X.Disks.depot c.open.new.disks) c.in-Ok.cluster c.in-Ok.ensures.opened) c.serve_all-status.ensures.cause))
