use Rattle.std.proofs.Common.{[], ◌∷◌, ◌++◌, ◌+◌, ◌-◌, take, drop, length, sym, ap, ◌∙◌, subst, refl, arith, append-nil, append_assoc}
use Rattle.m3_program.specs.Passing.{outflow}
use Rattle.m3_program.specs.Streams.{TakesOn, Cuts, Stage, stage}
use Rattle.m3_program.proofs.GatherLemmas.{gathers_nothing, gathers_on, until_fault, until_more}
use Rattle.m3_program.proofs.StreamLemmas.{takes_nothing, takes_both, cuts_after, cuts_behind, cuts_fewer, takes_more}
use Rattle.m3_program.proofs.PieceLemmas.{before_newline, without_newline, at_newline}
use Rattle.std.specs.Prelude.{◌≡◌, Err}
use Rattle.saved_cluster.specs.declared.lost.Lost.TheVariants as lost
use Rattle.m3_program.specs.declared.status.Status.TheVariants as status
use Rattle.m3_program.proofs.CauseLemmas.{ends_earlier, sink_ends, sink_no_meta}
use Rattle.m3_program.proofs.input.serve_lines.Goals as goal

pub loop-end-init : goal.loop-end-init
loop-end-init g c =
    let now : Stage g.row.X-D.Denot g.X.D.Disk = stage c.args.cluster.now (g.X.Disks.depot c.args.disks.now) in
    record {
      done = [];
      text = [];
      parts = refl;
      gathers = gathers_nothing (outflow (g.K.Sink.written c.args.out.now) (g.K.Sink.took c.args.out.now)) c.args.replies.now.items;
      few = λ less. less;
      takes = takes_nothing g.X.D.Disk.state now c.args.line.now.items;
      may = c.requires.may;
      faults = omega arith;
      stalls = omega arith;
      meta = omega arith;
    }

pub serve_rest-requires-clause-whole : goal.serve_rest-requires-clause-whole
serve_rest-requires-clause-whole g c = before_newline c.loop-end.rest.now c.in-Some.end c.in-Some.ensures

pub loop-end-preserved : goal.loop-end-preserved
loop-end-preserved g c =
    let first : Stage g.row.X-D.Denot g.X.D.Disk = stage c.args.cluster.now (g.X.Disks.depot c.args.disks.now) in
    let old : Stage g.row.X-D.Denot g.X.D.Disk = stage c.loop-end.cluster (g.X.Disks.depot c.loop-end.disks) in
    let new : Stage g.row.X-D.Denot g.X.D.Disk = stage c.serve_rest.new.cluster (g.X.Disks.depot c.serve_rest.new.disks) in
    let was = c.loop-end.invariant in
    let front = take c.in-Some.end c.loop-end.rest.now in
    let after = take (length c.loop-end.rest.now - (c.in-Some.end + 1)) (drop (c.in-Some.end + 1) c.loop-end.rest.now) in
    let now = c.in-Ok.ensures.ok in
    record {
      done = was.done ++ (front ++ 10 ∷ []);
      text = was.text ++ now.0;
      parts = was.parts ∙ ap (λ l. was.done ++ l) (at_newline c.loop-end.rest.now c.in-Some.end c.in-Some.ensures) ∙ sym (append_assoc was.done (front ++ 10 ∷ []) after);
      gathers = gathers_on (outflow (g.K.Sink.written c.args.out.now) (g.K.Sink.took c.args.out.now)) (outflow (g.K.Sink.written c.loop-end.out) (g.K.Sink.took c.loop-end.out)) (outflow (g.K.Sink.written c.write_full.new.out) (g.K.Sink.took c.write_full.new.out)) c.args.replies.now.items was.text c.loop-end.replies.items now.0 c.serve_rest.new.replies.items c.write_full.new.replies.items was.gathers now.1 c.in-Ok-write_full.ensures.ok;
      few = λ less. c.in-Ok-write_full.ensures.few;
      takes = takes_both g.X.D.Disk.state first old new c.args.line.now.items c.loop-end.line.items c.serve_rest.new.line.items was.done (front ++ 10 ∷ []) was.text now.0 was.takes now.2;
      may = c.in-Ok.ensures.may;
      faults = let a = was.faults in let h = c.in-Ok-write_full.ensures.later.0 in omega arith;
      stalls = let a = was.stalls in let h = c.in-Ok-write_full.ensures.later.1 in omega arith;
      meta = let a = was.meta in let h = c.in-Ok.ensures.meta.later in omega arith;
    }

-- memory was wanted for a line
pub returns-in-Err-clause-err : goal.returns-in-Err-clause-err
returns-in-Err-clause-err g c =
    let first : Stage g.row.X-D.Denot g.X.D.Disk = stage c.args.cluster.now (g.X.Disks.depot c.args.disks.now) in
    let old : Stage g.row.X-D.Denot g.X.D.Disk = stage c.loop-end.cluster (g.X.Disks.depot c.loop-end.disks) in
    let new : Stage g.row.X-D.Denot g.X.D.Disk = stage c.serve_rest.new.cluster (g.X.Disks.depot c.serve_rest.new.disks) in
    let was = c.loop-end.invariant in
    let front = take c.in-Some.end c.loop-end.rest.now in
    let after = take (length c.loop-end.rest.now - (c.in-Some.end + 1)) (drop (c.in-Some.end + 1) c.loop-end.rest.now) in (
      was.text,
      until_more c.write_before_end.result (outflow (g.K.Sink.written c.args.out.now) (g.K.Sink.took c.args.out.now)) (outflow (g.K.Sink.written c.loop-end.out) (g.K.Sink.took c.loop-end.out)) (outflow (g.K.Sink.written c.write_before_end.new.out) (g.K.Sink.took c.write_before_end.new.out)) c.args.replies.now.items was.text c.loop-end.replies.items c.as_slice.result.now was.gathers (c.as_slice.ensures.value ∙ c.in-Err.ensures.nothing) c.write_before_end.ensures.written,
      subst (λ t. Cuts g.X.D.Disk.state first c.args.line.now.items c.args.piece.now t new (c.write_before_end.result ≡ status.DiskFault)) (append-nil was.text)
          (subst (λ p. Cuts g.X.D.Disk.state first c.args.line.now.items p (was.text ++ []) new (c.write_before_end.result ≡ status.DiskFault)) (sym (was.parts ∙ ap (λ l. was.done ++ l) (at_newline c.loop-end.rest.now c.in-Some.end c.in-Some.ensures)))
          (cuts_after g.X.D.Disk.state first old new c.args.line.now.items c.loop-end.line.items was.done (front ++ 10 ∷ []) after was.text [] _ was.takes
          (cuts_fewer g.X.D.Disk.state old new c.loop-end.line.items (front ++ 10 ∷ []) [] _ (c.write_before_end.result ≡ status.DiskFault) c.in-Err.ensures.err (λ is. ap Err (c.write_before_end.ensures.meta is))))),
    )

pub returns-in-Err-clause-cause : goal.returns-in-Err-clause-cause
returns-in-Err-clause-cause g c =
    ends_earlier c.write_before_end.result _ _ _ _ _ _ _ _ _ c.loop-end.invariant.faults c.loop-end.invariant.stalls c.loop-end.invariant.meta
    (c.write_before_end.ensures.cause (g.X.D.Disk.state c.loop-end.cluster.meta).faults (g.X.D.Disk.state c.serve_rest.new.cluster.meta).faults (λ is. c.in-Err.ensures.meta.rose (ap Err is)))

-- the sink failed
pub returns-in-Err-write_full-clause-err : goal.returns-in-Err-write_full-clause-err
returns-in-Err-write_full-clause-err g c =
    let first : Stage g.row.X-D.Denot g.X.D.Disk = stage c.args.cluster.now (g.X.Disks.depot c.args.disks.now) in
    let old : Stage g.row.X-D.Denot g.X.D.Disk = stage c.loop-end.cluster (g.X.Disks.depot c.loop-end.disks) in
    let new : Stage g.row.X-D.Denot g.X.D.Disk = stage c.serve_rest.new.cluster (g.X.Disks.depot c.serve_rest.new.disks) in
    let was = c.loop-end.invariant in
    let front = take c.in-Some.end c.loop-end.rest.now in
    let after = take (length c.loop-end.rest.now - (c.in-Some.end + 1)) (drop (c.in-Some.end + 1) c.loop-end.rest.now) in
    let now = c.in-Ok.ensures.ok in
    let parts = was.parts ∙ ap (λ l. was.done ++ l) (at_newline c.loop-end.rest.now c.in-Some.end c.in-Some.ensures) ∙ sym (append_assoc was.done (front ++ 10 ∷ []) after) in (
      was.text ++ now.0,
      until_fault c.in-Err-write_full.status (outflow (g.K.Sink.written c.args.out.now) (g.K.Sink.took c.args.out.now)) (outflow (g.K.Sink.written c.loop-end.out) (g.K.Sink.took c.loop-end.out)) (outflow (g.K.Sink.written c.write_full.new.out) (g.K.Sink.took c.write_full.new.out)) c.args.replies.now.items was.text c.loop-end.replies.items now.0 c.serve_rest.new.replies.items c.in-Err-write_full.ensures.by was.gathers now.1 c.in-Err-write_full.ensures.err,
      subst (λ p. Cuts g.X.D.Disk.state first c.args.line.now.items p (was.text ++ now.0) new (c.in-Err-write_full.status ≡ status.DiskFault)) (sym parts)
          (cuts_behind g.X.D.Disk.state first new c.args.line.now.items c.serve_rest.new.line.items (was.done ++ (front ++ 10 ∷ [])) after (was.text ++ now.0) _ (sink_no_meta c.in-Err-write_full.status c.in-Err-write_full.ensures.by)
          (takes_both g.X.D.Disk.state first old new c.args.line.now.items c.loop-end.line.items c.serve_rest.new.line.items was.done (front ++ 10 ∷ []) was.text now.0 was.takes now.2)),
    )

pub returns-in-Err-write_full-clause-cause : goal.returns-in-Err-write_full-clause-cause
returns-in-Err-write_full-clause-cause g c =
    ends_earlier c.in-Err-write_full.status _ _ _ _ _ _ _ (g.X.D.Disk.state c.loop-end.cluster.meta).faults _ c.loop-end.invariant.faults c.loop-end.invariant.stalls c.loop-end.invariant.meta
    (sink_ends c.in-Err-write_full.status _ _ _ _ _ _ c.in-Err-write_full.ensures.by c.in-Err-write_full.ensures.cause)

pub returns-in-Err-write_full-clause-later : goal.returns-in-Err-write_full-clause-later
returns-in-Err-write_full-clause-later g c = (
  (let a = c.loop-end.invariant.faults in let h = c.in-Err-write_full.ensures.later.0 in omega arith),
  (let a = c.loop-end.invariant.stalls in let h = c.in-Err-write_full.ensures.later.1 in omega arith),
  (let a = c.loop-end.invariant.meta in let h = c.in-Ok.ensures.meta.later in omega arith),
)

pub returns-in-Ok-extend_from_slice-clause-ok : goal.returns-in-Ok-extend_from_slice-clause-ok
returns-in-Ok-extend_from_slice-clause-ok g c =
    let first : Stage g.row.X-D.Denot g.X.D.Disk = stage c.args.cluster.now (g.X.Disks.depot c.args.disks.now) in
    let now : Stage g.row.X-D.Denot g.X.D.Disk = stage c.loop-end.cluster (g.X.Disks.depot c.loop-end.disks) in
    let was = c.loop-end.invariant in
    let more = takes_more g.X.D.Disk.state now c.loop-end.line.items c.loop-end.rest.now c.extend_from_slice.new.self.items (without_newline c.loop-end.rest.now c.in_default.ensures) c.in-Ok-extend_from_slice.ensures.items in (
      was.text ++ [],
      gathers_on (outflow (g.K.Sink.written c.args.out.now) (g.K.Sink.took c.args.out.now)) (outflow (g.K.Sink.written c.loop-end.out) (g.K.Sink.took c.loop-end.out)) (outflow (g.K.Sink.written c.loop-end.out) (g.K.Sink.took c.loop-end.out)) c.args.replies.now.items was.text c.loop-end.replies.items [] c.loop-end.replies.items c.loop-end.replies.items was.gathers (sym (append-nil c.loop-end.replies.items)) (gathers_nothing (outflow (g.K.Sink.written c.loop-end.out) (g.K.Sink.took c.loop-end.out)) c.loop-end.replies.items),
      subst (λ p. TakesOn g.X.D.Disk.state first c.args.line.now.items p (was.text ++ []) now c.extend_from_slice.new.self.items) (sym was.parts)
          (takes_both g.X.D.Disk.state first now now c.args.line.now.items c.loop-end.line.items c.extend_from_slice.new.self.items was.done c.loop-end.rest.now was.text [] was.takes more),
    )

pub returns-in-Err-extend_from_slice-clause-err : goal.returns-in-Err-extend_from_slice-clause-err
returns-in-Err-extend_from_slice-clause-err g c =
    let first : Stage g.row.X-D.Denot g.X.D.Disk = stage c.args.cluster.now (g.X.Disks.depot c.args.disks.now) in
    let now : Stage g.row.X-D.Denot g.X.D.Disk = stage c.loop-end.cluster (g.X.Disks.depot c.loop-end.disks) in
    let was = c.loop-end.invariant in (
      was.text,
      until_more c.write_before_end-in-Err-extend_from_slice.result (outflow (g.K.Sink.written c.args.out.now) (g.K.Sink.took c.args.out.now)) (outflow (g.K.Sink.written c.loop-end.out) (g.K.Sink.took c.loop-end.out)) (outflow (g.K.Sink.written c.write_before_end-in-Err-extend_from_slice.new.out) (g.K.Sink.took c.write_before_end-in-Err-extend_from_slice.new.out)) c.args.replies.now.items was.text c.loop-end.replies.items c.as_slice-in-Err-extend_from_slice.result.now was.gathers c.as_slice-in-Err-extend_from_slice.ensures.value c.write_before_end-in-Err-extend_from_slice.ensures.written,
      subst (λ p. Cuts g.X.D.Disk.state first c.args.line.now.items p was.text now (c.write_before_end-in-Err-extend_from_slice.result ≡ status.DiskFault)) (sym was.parts)
          (cuts_behind g.X.D.Disk.state first now c.args.line.now.items c.loop-end.line.items was.done c.loop-end.rest.now was.text _
          (λ is. (let clash : lost.Memory ≡ lost.Meta = c.write_before_end-in-Err-extend_from_slice.ensures.meta is in cc)) was.takes),
    )

pub returns-in-Err-extend_from_slice-clause-cause : goal.returns-in-Err-extend_from_slice-clause-cause
returns-in-Err-extend_from_slice-clause-cause g c =
    let meta = (g.X.D.Disk.state c.loop-end.cluster.meta).faults in
    ends_earlier c.write_before_end-in-Err-extend_from_slice.result _ _ _ _ _ _ _ _ _ c.loop-end.invariant.faults c.loop-end.invariant.stalls c.loop-end.invariant.meta
    (c.write_before_end-in-Err-extend_from_slice.ensures.cause meta meta (λ is. (let clash : lost.Memory ≡ lost.Meta = is in cc)))
