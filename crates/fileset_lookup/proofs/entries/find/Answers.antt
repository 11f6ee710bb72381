use Rattle.std.proofs.Common.{sym, ap, ◌∙◌}
use Rattle.std.specs.Cmp.Lexicographic.{slice_cmp}
use Rattle.std.specs.Ordering.{nat_cmp}
use Rattle.fileset_lookup.proofs.HeadLemmas.{filled, unfilled}
use Rattle.fileset_lookup.proofs.OrderLemmas.{same_text, not_above_itself}
use Rattle.fileset_lookup.proofs.SpotLemmas.{entries_begin, next_entry, entry_passed, spot_found, none_found, none_left}
use Rattle.fileset_lookup.proofs.entries.find.Goals as goal

pub loop-id-init : goal.loop-id-init
loop-id-init c = λ v before rows later is format stands. entries_begin c.args.id.now before rows c.rest_at-rest.result.now (c.rest_at-rest.ensures ∙ stands)

pub returns-in_err-other : goal.returns-in_err-other
returns-in_err-other c = λ v before rows later is format stands.
    let some = filled c.loop-id.rest.now c.is_empty.result c.is_empty.ensures c.loop-id-test.true in
    let n = next_entry v before rows later is c.args.id.now c.loop-id.rest.now (c.loop-id.invariant v before rows later is format stands) some in
    absurd (c.in_err-other.ensures.whole n.one.id _ _ _ n.short n.at n.len n.stands)

pub returns-in-Less : goal.returns-in-Less
returns-in-Less c = λ v before rows later is format stands.
    let some = filled c.loop-id.rest.now c.is_empty.result c.is_empty.ensures c.loop-id-test.true in
    let k = c.loop-id.invariant v before rows later is format stands in
    let n = next_entry v before rows later is c.args.id.now c.loop-id.rest.now k some in
    let read = c.in_ok-other.ensures.whole n.one.id _ _ _ n.short n.at n.len n.stands in
    none_found v before rows later is c.args.id.now c.loop-id.rest.now k n (ap (slice_cmp nat_cmp c.args.id.now) (sym read.0) ∙ sym c.cmp.ensures ∙ c.in-Less.is)

pub returns-in-Equal : goal.returns-in-Equal
returns-in-Equal c = λ v before rows later is format stands.
    let some = filled c.loop-id.rest.now c.is_empty.result c.is_empty.ensures c.loop-id-test.true in
    let k = c.loop-id.invariant v before rows later is format stands in
    let n = next_entry v before rows later is c.args.id.now c.loop-id.rest.now k some in
    let read = c.in_ok-other.ensures.whole n.one.id _ _ _ n.short n.at n.len n.stands in
    spot_found v before rows later is c.args.id.now c.loop-id.rest.now c.in_ok-other.spot k n (sym (same_text c.args.id.now n.one.id (ap (slice_cmp nat_cmp c.args.id.now) (sym read.0) ∙ sym c.cmp.ensures ∙ c.in-Equal.is))) read.1 read.2

pub loop-id-preserved : goal.loop-id-preserved
loop-id-preserved c = λ v before rows later is format stands.
    let some = filled c.loop-id.rest.now c.is_empty.result c.is_empty.ensures c.loop-id-test.true in
    let k = c.loop-id.invariant v before rows later is format stands in
    let n = next_entry v before rows later is c.args.id.now c.loop-id.rest.now k some in
    let read = c.in_ok-other.ensures.whole n.one.id _ _ _ n.short n.at n.len n.stands in
    entry_passed v before rows later is c.args.id.now c.loop-id.rest.now c.in_ok-other.later.now k n
    (not_above_itself c.args.id.now n.one.id (ap (slice_cmp nat_cmp c.args.id.now) (sym read.0) ∙ sym c.cmp.ensures ∙ c.in-Greater.is)) read.3

pub returns : goal.returns
returns c = λ v before rows later is format stands.
    none_left v before rows later is c.args.id.now c.loop-id.rest.now (c.loop-id.invariant v before rows later is format stands) (unfilled c.loop-id.rest.now c.is_empty.result c.is_empty.ensures c.loop-id-test.false)
