use Rattle.std.proofs.Common.{◌≡◌, ◌+◌, [], length-take, refl, ap, arith, subst}
use Rattle.m3_model.specs.declared.limits.TheConstants.{INPUT_END}
use Rattle.std.specs.Prelude.{Err}
use Rattle.m3_program.specs.Passing.{outflow}
use Rattle.m3_program.specs.Streams.{Finishes, HaltsLast, Stage, opening_at, stage}
use Rattle.m3_program.specs.declared.status.Status.TheVariants as status
use Rattle.m3_program.proofs.CauseLemmas.{step_ends_run, step_not_done, line_ends_step, line_no_read}
use Rattle.m3_program.proofs.RunLemmas.{known_fault, known_begins, known_more, known_cuts, known_stops, known_finishes, known_limit, step_told}
use Rattle.m3_program.proofs.run.serve_all.Goals as goal
use Rattle.m3_program.proofs.run.serve_all.Goals.{in-Ok-serve_last, in-Err-serve_last}

pub loop-taken-init : goal.loop-taken-init
loop-taken-init g c =
    let now : Stage g.row.X-D.Denot g.X.D.Disk = stage c.args.cluster.now (g.X.Disks.depot c.args.disks.now) in
    record {
      known = known_begins g.X.D.Disk.state (g.S.Source.left c.args.source.now) (g.S.Source.gave c.args.source.now) (outflow (g.K.Sink.written c.args.out.now) (g.K.Sink.took c.args.out.now)) now c.new-line.result.items c.requires.fresh c.new-line.ensures.items;
      may = c.requires.may;
      below = omega arith;
      reads = omega arith;
      faults = omega arith;
      stalls = omega arith;
      meta = omega arith;
    }

pub returns-in-Err-clause-told : goal.returns-in-Err-clause-told
returns-in-Err-clause-told g c =
    let first : Stage g.row.X-D.Denot g.X.D.Disk = stage c.args.cluster.now (g.X.Disks.depot c.args.disks.now) in
    let old : Stage g.row.X-D.Denot g.X.D.Disk = stage c.loop-taken.cluster (g.X.Disks.depot c.loop-taken.disks) in
    let new : Stage g.row.X-D.Denot g.X.D.Disk = stage c.serve_read.new.cluster (g.X.Disks.depot c.serve_read.new.disks) in
    let w = c.in-Err.ensures.err in
    step_told g.X.D.Disk.state (opening_at first) new c.in-Err.status _ _ _ _ _ _ _ _ c.in-Err.ensures.cause (g.S.Source.left c.args.source.now) (g.S.Source.gave c.args.source.now) (outflow (g.K.Sink.written c.args.out.now) (g.K.Sink.took c.args.out.now)) (g.S.Source.left c.serve_read.new.source) (g.S.Source.gave c.serve_read.new.source) (outflow (g.K.Sink.written c.loop-taken.out) (g.K.Sink.took c.loop-taken.out)) (outflow (g.K.Sink.written c.serve_read.new.out) (g.K.Sink.took c.serve_read.new.out)) w.1
    (λ is.
    let at = c.in-Err.ensures.at_fault (ap Err is) in
    let known = known_more g.X.D.Disk.state (opening_at first) (g.S.Source.left c.args.source.now) (g.S.Source.gave c.args.source.now) (outflow (g.K.Sink.written c.args.out.now) (g.K.Sink.took c.args.out.now)) (g.S.Source.left c.loop-taken.source) (g.S.Source.left c.serve_read.new.source)
    (g.S.Source.gave c.loop-taken.source) (g.S.Source.gave c.serve_read.new.source) (outflow (g.K.Sink.written c.loop-taken.out) (g.K.Sink.took c.loop-taken.out)) (outflow (g.K.Sink.written c.serve_read.new.out) (g.K.Sink.took c.serve_read.new.out)) c.loop-taken.taken 0 c.loop-taken.taken old new c.loop-taken.line.items c.serve_read.new.line.items [] []
    c.loop-taken.invariant.known at.0 refl (omega arith) at.1 at.2 in
    known_fault g.X.D.Disk.state (opening_at first) (g.S.Source.left c.args.source.now) (g.S.Source.gave c.args.source.now) (outflow (g.K.Sink.written c.args.out.now) (g.K.Sink.took c.args.out.now)) (g.S.Source.left c.serve_read.new.source) (g.S.Source.gave c.serve_read.new.source) (outflow (g.K.Sink.written c.serve_read.new.out) (g.K.Sink.took c.serve_read.new.out))
    c.loop-taken.taken new c.serve_read.new.line.items known (let below = c.loop-taken.invariant.below in omega arith))
    (known_cuts g.X.D.Disk.state (opening_at first) (g.S.Source.left c.args.source.now) (g.S.Source.gave c.args.source.now) (outflow (g.K.Sink.written c.args.out.now) (g.K.Sink.took c.args.out.now)) (g.S.Source.left c.loop-taken.source) (g.S.Source.left c.serve_read.new.source)
    (g.S.Source.gave c.loop-taken.source) (g.S.Source.gave c.serve_read.new.source) (outflow (g.K.Sink.written c.loop-taken.out) (g.K.Sink.took c.loop-taken.out)) c.loop-taken.taken old new c.loop-taken.line.items w.0 w.1 _ c.loop-taken.invariant.known w.2
    (let room = c.room_after-room.ensures.limit in let size = w.3 in let part = length-take c.room_after-room.result c.loop-taken.buf in omega arith)
    (let room = c.room_after-room.ensures.piece in let size = w.3 in let part = length-take c.room_after-room.result c.loop-taken.buf in omega arith) w.5) w.4

pub returns-in-Err-clause-ended : goal.returns-in-Err-clause-ended
returns-in-Err-clause-ended g c = λ is. absurd (step_not_done c.in-Err.status _ _ _ _ _ _ _ _ c.in-Err.ensures.cause is)

pub returns-in-Err-clause-cause : goal.returns-in-Err-clause-cause
returns-in-Err-clause-cause g c = step_ends_run c.in-Err.status _ _ _ _ _ _ _ _ _ _ _ _ c.loop-taken.invariant.reads c.loop-taken.invariant.faults c.loop-taken.invariant.stalls c.loop-taken.invariant.meta c.in-Err.ensures.cause

pub loop-taken-preserved : goal.loop-taken-preserved
loop-taken-preserved g c =
    let first : Stage g.row.X-D.Denot g.X.D.Disk = stage c.args.cluster.now (g.X.Disks.depot c.args.disks.now) in
    let old : Stage g.row.X-D.Denot g.X.D.Disk = stage c.loop-taken.cluster (g.X.Disks.depot c.loop-taken.disks) in
    let new : Stage g.row.X-D.Denot g.X.D.Disk = stage c.serve_read.new.cluster (g.X.Disks.depot c.serve_read.new.disks) in
    let was = c.loop-taken.invariant in
    let w = c.in-Ok.ensures.ok in
    let later = c.in-Ok.ensures.later in
    record {
      known = known_more g.X.D.Disk.state (opening_at first) (g.S.Source.left c.args.source.now) (g.S.Source.gave c.args.source.now) (outflow (g.K.Sink.written c.args.out.now) (g.K.Sink.took c.args.out.now)) (g.S.Source.left c.loop-taken.source) (g.S.Source.left c.serve_read.new.source)
          (g.S.Source.gave c.loop-taken.source) (g.S.Source.gave c.serve_read.new.source) (outflow (g.K.Sink.written c.loop-taken.out) (g.K.Sink.took c.loop-taken.out)) (outflow (g.K.Sink.written c.serve_read.new.out) (g.K.Sink.took c.serve_read.new.out)) c.loop-taken.taken c.in-Ok.count (c.loop-taken.taken + c.in-Ok.count) old new c.loop-taken.line.items c.serve_read.new.line.items
          w.0 w.1 was.known w.2 w.3 refl w.5 w.6;
      may = c.in-Ok.ensures.may;
      below = let room = c.room_after-room.ensures.limit in let size = w.4 in let part = length-take c.room_after-room.result c.loop-taken.buf in omega arith;
      reads = let a = was.reads in let h = later.0 in omega arith;
      faults = let a = was.faults in let h = later.1 in omega arith;
      stalls = let a = was.stalls in let h = later.2 in omega arith;
      meta = let a = was.meta in let h = later.3 in omega arith;
    }

pub returns-clause-told : goal.returns-clause-told
returns-clause-told g c =
    let first : Stage g.row.X-D.Denot g.X.D.Disk = stage c.args.cluster.now (g.X.Disks.depot c.args.disks.now) in
    let now : Stage g.row.X-D.Denot g.X.D.Disk = stage c.loop-taken.cluster (g.X.Disks.depot c.loop-taken.disks) in
    known_limit g.X.D.Disk.state (opening_at first) (g.S.Source.left c.args.source.now) (g.S.Source.gave c.args.source.now) (outflow (g.K.Sink.written c.args.out.now) (g.K.Sink.took c.args.out.now)) (g.S.Source.left c.loop-taken.source) (g.S.Source.gave c.loop-taken.source) (outflow (g.K.Sink.written c.loop-taken.out) (g.K.Sink.took c.loop-taken.out)) c.loop-taken.taken now c.loop-taken.line.items
    c.loop-taken.invariant.known (let below = c.loop-taken.invariant.below in let full : c.loop-taken.taken ≡ INPUT_END = omega arith in full)

pub returns-in-Ok-eq0-clause-told : goal.returns-in-Ok-eq0-clause-told
returns-in-Ok-eq0-clause-told g c =
    let first : Stage g.row.X-D.Denot g.X.D.Disk = stage c.args.cluster.now (g.X.Disks.depot c.args.disks.now) in
    let old : Stage g.row.X-D.Denot g.X.D.Disk = stage c.loop-taken.cluster (g.X.Disks.depot c.loop-taken.disks) in
    let mid : Stage g.row.X-D.Denot g.X.D.Disk = stage c.serve_read.new.cluster (g.X.Disks.depot c.serve_read.new.disks) in
    let new : Stage g.row.X-D.Denot g.X.D.Disk = stage c.serve_last.new.cluster (g.X.Disks.depot c.serve_last.new.disks) in
    let w = c.in-Ok-eq0.ensures.ok in
    let known = known_more g.X.D.Disk.state (opening_at first) (g.S.Source.left c.args.source.now) (g.S.Source.gave c.args.source.now) (outflow (g.K.Sink.written c.args.out.now) (g.K.Sink.took c.args.out.now)) (g.S.Source.left c.loop-taken.source) (g.S.Source.left c.serve_read.new.source)
    (g.S.Source.gave c.loop-taken.source) (g.S.Source.gave c.serve_read.new.source) (outflow (g.K.Sink.written c.loop-taken.out) (g.K.Sink.took c.loop-taken.out)) (outflow (g.K.Sink.written c.serve_read.new.out) (g.K.Sink.took c.serve_read.new.out)) c.loop-taken.taken c.in-Ok-eq0.field-0 (c.loop-taken.taken + c.in-Ok-eq0.field-0) old mid c.loop-taken.line.items c.serve_read.new.line.items
    w.0 w.1 c.loop-taken.invariant.known w.2 w.3 refl w.5 w.6 in
    let ended = w.7 c.in-Ok-eq0.field-0-test (let some = c.room_after-room.ensures.some in let part = length-take c.room_after-room.result c.loop-taken.buf in let piece = c.room_after-room.ensures.piece in omega arith) in
    elim c.match-serve_last.branch [
      | in-Ok-serve_last v ↦
          let f = v.in-Ok-serve_last.ensures.ok in
          rw v.result-is (known_finishes g.X.D.Disk.state (opening_at first) (g.S.Source.left c.args.source.now) (g.S.Source.gave c.args.source.now) (outflow (g.K.Sink.written c.args.out.now) (g.K.Sink.took c.args.out.now)) (g.S.Source.left c.serve_read.new.source) (g.S.Source.gave c.serve_read.new.source) (outflow (g.K.Sink.written c.serve_read.new.out) (g.K.Sink.took c.serve_read.new.out)) (outflow (g.K.Sink.written c.serve_last.new.out) (g.K.Sink.took c.serve_last.new.out))
          _ mid new c.serve_read.new.line.items f.0 known (let zero = c.in-Ok-eq0.field-0-test in let test = c.loop-taken-test.true in omega arith) ended
          f.1 (subst (λ l. Finishes g.X.D.Disk.state mid l f.0 new) c.as_slice.ensures.value f.2))
      | in-Err-serve_last v ↦
          let f = v.in-Err-serve_last.ensures.err in
          rw v.result-is (step_told g.X.D.Disk.state (opening_at first) new v.in-Err-serve_last.status 0 0 _ _ _ _ _ _ (line_ends_step v.in-Err-serve_last.status 0 0 _ _ _ _ _ _ v.in-Err-serve_last.ensures.cause) (g.S.Source.left c.args.source.now) (g.S.Source.gave c.args.source.now) (outflow (g.K.Sink.written c.args.out.now) (g.K.Sink.took c.args.out.now)) (g.S.Source.left c.serve_read.new.source) (g.S.Source.gave c.serve_read.new.source)
          (outflow (g.K.Sink.written c.serve_read.new.out) (g.K.Sink.took c.serve_read.new.out)) (outflow (g.K.Sink.written c.serve_last.new.out) (g.K.Sink.took c.serve_last.new.out)) f.0
          (λ is. absurd (line_no_read v.in-Err-serve_last.status _ _ _ _ _ _ v.in-Err-serve_last.ensures.cause is))
          (known_stops g.X.D.Disk.state (opening_at first) (g.S.Source.left c.args.source.now) (g.S.Source.gave c.args.source.now) (outflow (g.K.Sink.written c.args.out.now) (g.K.Sink.took c.args.out.now)) (g.S.Source.left c.serve_read.new.source) (g.S.Source.gave c.serve_read.new.source) (outflow (g.K.Sink.written c.serve_read.new.out) (g.K.Sink.took c.serve_read.new.out))
          _ mid new c.serve_read.new.line.items f.0 _ known (let zero = c.in-Ok-eq0.field-0-test in let below = c.loop-taken.invariant.below in omega arith) ended (subst (λ l. HaltsLast g.X.D.Disk.state mid l f.0 new (v.in-Err-serve_last.status ≡ status.DiskFault)) c.as_slice.ensures.value f.2)) f.1)
    ]

pub returns-in-Ok-eq0-clause-ended : goal.returns-in-Ok-eq0-clause-ended
returns-in-Ok-eq0-clause-ended g c = λ is. c.in-Ok-eq0.ensures.ended c.in-Ok-eq0.field-0-test (let some = c.room_after-room.ensures.some in let part = length-take c.room_after-room.result c.loop-taken.buf in let piece = c.room_after-room.ensures.piece in omega arith)

pub returns-in-Ok-eq0-clause-cause : goal.returns-in-Ok-eq0-clause-cause
returns-in-Ok-eq0-clause-cause g c =
    let was = c.loop-taken.invariant in
    let later = c.in-Ok-eq0.ensures.later in
    elim c.match-serve_last.branch [
      | in-Ok-serve_last v ↦ rw v.result-is tt
      | in-Err-serve_last v ↦
          rw v.result-is (step_ends_run v.in-Err-serve_last.status _ (g.S.Source.faulted c.serve_read.new.source) _ _ (g.K.Sink.faulted c.serve_read.new.out) _ _ (g.K.Sink.stalled c.serve_read.new.out) _ _ (g.X.D.Disk.state c.serve_read.new.cluster.meta).faults _
          (let a = was.reads in let h = later.0 in omega arith) (let a = was.faults in let h = later.1 in omega arith) (let a = was.stalls in let h = later.2 in omega arith) (let a = was.meta in let h = later.3 in omega arith)
          (line_ends_step v.in-Err-serve_last.status _ _ _ _ _ _ _ _ v.in-Err-serve_last.ensures.cause))
    ]
