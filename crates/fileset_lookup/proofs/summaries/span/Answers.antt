use Rattle.std.proofs.Common.{◌≡◌, ◌<◌, length, sym, ap, subst, ◌∙◌}
use Rattle.std.specs.Cmp.Lexicographic.{slice_cmp}
use Rattle.std.specs.Ordering.{nat_cmp}
use Rattle.wire_bytes.specs.m3_model.Tags.{IsBelow}
use Rattle.fileset_lookup.specs.Runs.{FindsPiece}
use Rattle.fileset_lookup.proofs.HeadLemmas.{filled, unfilled}
use Rattle.fileset_lookup.proofs.OrderLemmas.{is_less, isnt_less}
use Rattle.fileset_lookup.proofs.RunLemmas.{next_summary, summary_passed, piece_before, piece_at_end}
use Rattle.fileset_lookup.proofs.summaries.span.Goals as goal

pub returns-in_err-other : goal.returns-in_err-other
returns-in_err-other c = λ v rows is bytes.
    let some : 0 < length c.loop-id.rest.now = filled c.loop-id.rest.now c.is_empty.result c.is_empty.ensures c.loop-id-test.true in
    let n = next_summary v c.args.id.now rows c.loop-id.rest.now c.loop-id.last is (c.loop-id.invariant v rows is bytes) some in
    absurd (c.in_err-other.ensures.whole n.one.id _ _ n.short n.fits n.stands)

pub returns-then-eq : goal.returns-then-eq
returns-then-eq c = λ v rows is bytes.
    let some : 0 < length c.loop-id.rest.now = filled c.loop-id.rest.now c.is_empty.result c.is_empty.ensures c.loop-id-test.true in
    let k = c.loop-id.invariant v rows is bytes in
    let n = next_summary v c.args.id.now rows c.loop-id.rest.now c.loop-id.last is k some in
    let read = c.in_ok-other.ensures.whole n.one.id _ _ n.short n.fits n.stands in
    let below : IsBelow c.args.id.now n.one.id = ap (slice_cmp nat_cmp c.args.id.now) (sym read.0) ∙ sym c.cmp.ensures ∙ is_less c.cmp.result c.eq.result c.eq.ensures c.if-eq.true in
    subst (FindsPiece v.format c.args.id.now rows) (sym c.piece_from.ensures) (piece_before v c.args.id.now rows c.loop-id.rest.now c.loop-id.last c.in_ok-other.at is k n below read.1)

pub loop-id-preserved : goal.loop-id-preserved
loop-id-preserved c = λ v rows is bytes.
    let some : 0 < length c.loop-id.rest.now = filled c.loop-id.rest.now c.is_empty.result c.is_empty.ensures c.loop-id-test.true in
    let k = c.loop-id.invariant v rows is bytes in
    let n = next_summary v c.args.id.now rows c.loop-id.rest.now c.loop-id.last is k some in
    let read = c.in_ok-other.ensures.whole n.one.id _ _ n.short n.fits n.stands in
    summary_passed v c.args.id.now rows c.loop-id.rest.now c.in_ok-other.later.now c.loop-id.last c.in_ok-other.at k n
    (λ below. isnt_less c.cmp.result c.eq.result c.eq.ensures c.if-eq.false (c.cmp.ensures ∙ ap (slice_cmp nat_cmp c.args.id.now) read.0 ∙ below))
    read.1 read.2

pub returns : goal.returns
returns c = λ v rows is bytes.
    let none : length c.loop-id.rest.now ≡ 0 = unfilled c.loop-id.rest.now c.is_empty.result c.is_empty.ensures c.loop-id-test.false in
    subst (FindsPiece v.format c.args.id.now rows) (sym c.piece_from-2.ensures) (piece_at_end v c.args.id.now rows c.loop-id.rest.now c.loop-id.last is (c.loop-id.invariant v rows is bytes) none)
