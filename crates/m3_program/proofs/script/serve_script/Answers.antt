use Rattle.std.proofs.Common.{◌≡◌, List, [], ◌∷◌, ◌++◌, sym, subst, arith}
use Rattle.std.specs.Prelude.{IfErr}
use Rattle.saved_cluster.specs.declared.lost.Lost.TheVariants as lost
use Rattle.std.proofs.lemmas.Option.{MatchOption-at_some}
use Rattle.m3_model.specs.declared.turn.Reply.{Reply}
use Rattle.load_gen.specs.Left.{requests_left}
use Rattle.load_gen.specs.Summaries.{Counts}
use Rattle.m3_program.specs.Streams.{Stage, stage}
use Rattle.m3_program.proofs.CauseLemmas.{none_is_want, passed_no_meta, wanted_no_meta}
use Rattle.m3_program.proofs.WrittenLemmas.{on_err_just}
use Rattle.m3_program.proofs.ScriptLemmas.{breaks_at, breaks_behind, goes_begins, goes_more, made, next_keeps, stops_here}
use Rattle.m3_program.proofs.script.serve_script.Goals as goal

pub loop-request-init : goal.loop-request-init
loop-request-init g c =
    let now : Stage g.row.X-D.Denot g.X.D.Disk = stage c.args.cluster.now (g.X.Disks.depot c.args.disks.now) in
    record {
      goes = goes_begins g.X.D.Disk.state c.args.number (requests_left c.new-left.result) c.new-summary.result now c.requires.fresh c.new-left.ensures c.new-summary.ensures;
      may = c.requires.may;
      later = omega arith;
    }

pub serve_request-requires-clause-limits : goal.serve_request-requires-clause-limits
serve_request-requires-clause-limits g c =
    let next = MatchOption-at_some _ (λ r. requests_left c.loop-request.left ≡ r ∷ requests_left c.next_of.new.left) c.in-Some.request c.in-Some.is c.in_ok-request.ensures.given in
    next_keeps g.X.D.Disk.state _ c.args.number _ _ c.in-Some.request _ _ c.loop-request.invariant.goes next

pub returns-in_err-request-clause-err : goal.returns-in_err-request-clause-err
returns-in_err-request-clause-err g c =
    on_err_just c.from_residual.result (stops_here g.X.D.Disk.state _ c.args.number _ _ _ _
    (passed_no_meta c.from_residual.result c.next_of.result c.in_err-request.field-0.0 c.in_err-request.was c.from_residual.ensures.1 (wanted_no_meta c.next_of.result c.next_of.ensures.want)) c.loop-request.invariant.goes.within)

pub returns-in_err-reply-clause-err : goal.returns-in_err-reply-clause-err
returns-in_err-reply-clause-err g c =
    let next = MatchOption-at_some _ (λ r. requests_left c.loop-request.left ≡ r ∷ requests_left c.next_of.new.left) c.in-Some.request c.in-Some.is c.in_ok-request.ensures.given in
    on_err_just c.from_residual-in_err-reply.result
    (breaks_at g.X.D.Disk.state _ c.args.number _ (requests_left c.next_of.new.left) c.in-Some.request c.loop-request.summary _ _ _ c.loop-request.invariant.goes next c.in_err-reply.ensures.loses)

pub returns-in_err-summary-clause-err : goal.returns-in_err-summary-clause-err
returns-in_err-summary-clause-err g c =
    let next = MatchOption-at_some _ (λ r. requests_left c.loop-request.left ≡ r ∷ requests_left c.next_of.new.left) c.in-Some.request c.in-Some.is c.in_ok-request.ensures.given in
    on_err_just c.from_residual-in_err-summary.result
    (breaks_behind g.X.D.Disk.state _ c.args.number _ (requests_left c.next_of.new.left) c.in-Some.request c.in_ok-reply.reply c.loop-request.summary _ _ _
    (passed_no_meta c.from_residual-in_err-summary.result c.ok_or.result c.in_err-summary.field-0.0 c.in_err-summary.was c.from_residual-in_err-summary.ensures.1 (wanted_no_meta c.ok_or.result (subst (λ r. IfErr r (λ e. e ≡ lost.Memory)) (sym c.ok_or.ensures.value) (none_is_want c.with-counted.result))))
    c.loop-request.invariant.goes next c.in_ok-reply.ensures.continues)

pub loop-request-preserved : goal.loop-request-preserved
loop-request-preserved g c =
    let next = MatchOption-at_some _ (λ r. requests_left c.loop-request.left ≡ r ∷ requests_left c.next_of.new.left) c.in-Some.request c.in-Some.is c.in_ok-request.ensures.given in
    let counted = made _ c.in_ok-summary.summary (λ summary. (replies : List Reply) → Counts replies c.loop-request.summary → Counts (replies ++ c.in_ok-reply.reply ∷ []) summary) c.with-counted.ensures.counts c.in_ok-summary.ensures.ok_part in
    record {
      goes = goes_more g.X.D.Disk.state _ c.args.number _ (requests_left c.next_of.new.left) c.in-Some.request c.in_ok-reply.reply c.loop-request.summary c.in_ok-summary.summary _ _ c.loop-request.invariant.goes next
          c.in_ok-reply.ensures.continues counted;
      may = c.in_ok-reply.ensures.may;
      later = let was = c.loop-request.invariant.later in let then = c.in_ok-reply.ensures.meta.later in omega arith;
    }
