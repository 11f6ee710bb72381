use Rattle.std.proofs.Common.{sym, ap, ◌∙◌}
use Rattle.std.specs.Cmp.Lexicographic.{slice_cmp}
use Rattle.std.specs.Ordering.{nat_cmp}
use Rattle.wire_bytes.specs.m3_model.Tags.{IsBelow}
use Rattle.fileset_lookup.proofs.HeadLemmas.{filled, unfilled}
use Rattle.fileset_lookup.proofs.OrderLemmas.{stays_below, isnt_below}
use Rattle.fileset_lookup.proofs.ExtentLemmas.{skip_begins, skip_next, skip_goes_on, skip_ends, all_skipped}
use Rattle.fileset_lookup.proofs.extents.skip_below.Goals as goal

pub loop-id-init : goal.loop-id-init
loop-id-init c = λ v before rows later is format stands. skip_begins c.args.id.now before rows c.args.index.now stands

pub returns-in_err-other : goal.returns-in_err-other
returns-in_err-other c = λ v before rows later is format stands.
    let some = filled c.loop-id.rest.now c.is_empty.result c.is_empty.ensures c.loop-id-test.true in
    let n = skip_next v before rows later is c.loop-id.rest.now c.args.id.now (c.loop-id.invariant v before rows later is format stands) some in
    absurd (c.in_err-other.ensures.whole n.one.id _ _ _ n.short n.at n.len n.stands)

pub returns-then-ne : goal.returns-then-ne
returns-then-ne c = λ v before rows later is format stands.
    let some = filled c.loop-id.rest.now c.is_empty.result c.is_empty.ensures c.loop-id-test.true in
    let k = c.loop-id.invariant v before rows later is format stands in
    let n = skip_next v before rows later is c.loop-id.rest.now c.args.id.now k some in
    let read = c.in_ok-other.ensures.whole n.one.id _ _ _ n.short n.at n.len n.stands in
    skip_ends v before rows later is c.loop-id.rest.now c.args.id.now k n
    (λ below. isnt_below c.cmp.result c.ne.result c.ne.ensures c.if-ne.true (c.cmp.ensures ∙ ap (λ l. slice_cmp nat_cmp l c.args.id.now) read.0 ∙ below))

pub loop-id-preserved : goal.loop-id-preserved
loop-id-preserved c = λ v before rows later is format stands.
    let some = filled c.loop-id.rest.now c.is_empty.result c.is_empty.ensures c.loop-id-test.true in
    let k = c.loop-id.invariant v before rows later is format stands in
    let n = skip_next v before rows later is c.loop-id.rest.now c.args.id.now k some in
    let read = c.in_ok-other.ensures.whole n.one.id _ _ _ n.short n.at n.len n.stands in
    let below : IsBelow n.one.id c.args.id.now =
    ap (λ l. slice_cmp nat_cmp l c.args.id.now) (sym read.0) ∙ sym c.cmp.ensures ∙ stays_below c.cmp.result c.ne.result c.ne.ensures c.if-ne.false in
    skip_goes_on v before rows later is c.loop-id.rest.now c.args.id.now k c.in_ok-other.later.now n below read.3

pub returns : goal.returns
returns c = λ v before rows later is format stands.
    all_skipped v before rows later is c.loop-id.rest.now c.args.id.now (c.loop-id.invariant v before rows later is format stands)
    (unfilled c.loop-id.rest.now c.is_empty.result c.is_empty.ensures c.loop-id-test.false)
