use Rattle.std.proofs.Common.{◌≡◌, ◌+◌, ◌<◌, false, Bool, IsTrue, length, refl, sym, ap, subst, ◌∙◌, arith}
use Rattle.std.specs.Option.{option_copied}
use Rattle.wire_bytes.specs.Volumes.{row_bytes}
use Rattle.fileset_lookup.specs.Extents.{IsBeyond}
use Rattle.fileset_lookup.specs.declared.extents.Extent.{Extent}
use Rattle.fileset_lookup.proofs.HeadLemmas.{filled, unfilled}
use Rattle.fileset_lookup.proofs.ExtentLemmas.{take_begins, take_next, take_ends, all_taken, enough_taken, first_taken, later_taken, len_fits, count_fits}
use Rattle.fileset_lookup.proofs.extents.take_entries.Goals.{then-taken-eq0, else-taken-eq0}
use Rattle.fileset_lookup.proofs.extents.take_entries.Goals as goal

isnt_true : (b : Bool) → b ≡ false → ¬ IsTrue b
isnt_true b none one = cc

pub loop-rest-init : goal.loop-rest-init
loop-rest-init c = λ v before rows later is format stands. take_begins (option_copied c.args.last) c.args.most before rows _ 0 c.args.entries.now refl refl refl stands

pub returns-in_err-id : goal.returns-in_err-id
returns-in_err-id c = λ v before rows later is format stands.
    let some = filled c.loop-rest.rest.now c.is_empty.result c.is_empty.ensures c.loop-rest-test.true in
    let n = take_next v before rows later is c.loop-rest.rest.now (option_copied c.args.last) c.args.most c.loop-rest.taken c.loop-rest.points (c.loop-rest.invariant v before rows later is format stands) some in
    absurd (c.in_err-id.ensures.whole n.one.id _ _ _ n.short n.at n.len n.stands)

pub returns-then-is_beyond : goal.returns-then-is_beyond
returns-then-is_beyond c = λ v before rows later is format stands.
    let some = filled c.loop-rest.rest.now c.is_empty.result c.is_empty.ensures c.loop-rest-test.true in
    let k = c.loop-rest.invariant v before rows later is format stands in
    let n = take_next v before rows later is c.loop-rest.rest.now (option_copied c.args.last) c.args.most c.loop-rest.taken c.loop-rest.points k some in
    let read = c.in_ok-id.ensures.whole n.one.id _ _ _ n.short n.at n.len n.stands in
    take_ends v before rows later is c.loop-rest.rest.now (option_copied c.args.last) c.args.most c.loop-rest.taken c.loop-rest.points k n
    (subst (IsBeyond (option_copied c.args.last)) read.0 (c.is_beyond.ensures.0 c.if-is_beyond.true))

pub returns-then-most-points : goal.returns-then-most-points
returns-then-most-points c = λ v before rows later is format stands.
    let some = filled c.loop-rest.rest.now c.is_empty.result c.is_empty.ensures c.loop-rest-test.true in
    let k = c.loop-rest.invariant v before rows later is format stands in
    let n = take_next v before rows later is c.loop-rest.rest.now (option_copied c.args.last) c.args.most c.loop-rest.taken c.loop-rest.points k some in
    let read = c.in_ok-id.ensures.whole n.one.id _ _ _ n.short n.at n.len n.stands in
    let enough = c.if-most-points.true in
    enough_taken v before rows later is c.loop-rest.rest.now (option_copied c.args.last) c.args.most c.loop-rest.taken c.loop-rest.points k
    (record { at = c.loop-rest.taken.at; len = c.loop-rest.taken.len; whole = false }) n refl refl refl (omega (arith, enough))
    (λ beyond. isnt_true c.is_beyond.result c.if-is_beyond.false (c.is_beyond.ensures.1 (subst (IsBeyond (option_copied c.args.last)) (sym read.0) beyond)))

pub loop-rest-preserved : goal.loop-rest-preserved
loop-rest-preserved c = λ v before rows later is format stands.
    let rest = c.loop-rest.rest.now in
    let old = c.loop-rest.taken in
    let points = c.loop-rest.points in
    let last = option_copied c.args.last in
    let most = c.args.most in
    let some = filled rest c.is_empty.result c.is_empty.ensures c.loop-rest-test.true in
    let k = c.loop-rest.invariant v before rows later is format stands in
    let n = take_next v before rows later is rest last most old points k some in
    let read = c.in_ok-id.ensures.whole n.one.id _ _ _ n.short n.at n.len n.stands in
    let left = c.in_ok-id.later.now in
    let within : ¬ IsBeyond last n.one.id = λ beyond. isnt_true c.is_beyond.result c.if-is_beyond.false (c.is_beyond.ensures.1 (subst (IsBeyond last) (sym read.0) beyond)) in
    let points_test = c.if-most-points.false in
    let few : points < most = omega (arith, points_test) in
    let new : Extent = record { at = c.if-taken-eq0.taken.at; len = c.saturating_add.result; whole = c.if-taken-eq0.taken.whole } in
    let count = c.if-taken-eq0.points in
    let fits = len_fits v before rows later is rest last most old points k new count left n within few in
    let sum = c.saturating_add.ensures in
    let from = c.from.ensures in
    let row = read.2 in
    elim c.if-taken-eq0.branch [
      | then-taken-eq0 w ↦
          let same : c.if-taken-eq0.taken.len ≡ old.len = ap (λ (x : Extent). x.len) w.taken-is in
          let len : new.len ≡ old.len + length (row_bytes n.one) = omega (arith, sum, from, row, same, fits) in
          let test = w.if-taken-eq0.true in
          let zero : old.len ≡ 0 = omega (arith, test) in
          first_taken v before rows later is rest last most old points k new count left n within few zero (ap (λ (x : Extent). x.at) w.taken-is ∙ read.1) w.points-is len (ap (λ (x : Extent). x.whole) w.taken-is) read.3
      | else-taken-eq0 w ↦
          let same : c.if-taken-eq0.taken.len ≡ old.len = ap (λ (x : Extent). x.len) w.taken-is in
          let len : new.len ≡ old.len + length (row_bytes n.one) = omega (arith, sum, from, row, same, fits) in
          let test = w.if-taken-eq0.false in
          let other : ¬ (old.len ≡ 0) = λ e. omega (arith, test, e) in
          let more = w.saturating_add-points.ensures in
          let one = w.points_of.ensures n.one (sym read.0) row in
          let room = count_fits v before rows later is rest last most old points k new count left n within few other in
          let is_count = w.points-is in
          let counted : count ≡ points + length n.one.points = omega (arith, is_count, more, one, room) in
          later_taken v before rows later is rest last most old points k new count left n within few other (ap (λ (x : Extent). x.at) w.taken-is) counted len (ap (λ (x : Extent). x.whole) w.taken-is) read.3
    ]

pub returns : goal.returns
returns c = λ v before rows later is format stands.
    all_taken v before rows later is c.loop-rest.rest.now (option_copied c.args.last) c.args.most c.loop-rest.taken c.loop-rest.points (c.loop-rest.invariant v before rows later is format stands)
    (unfilled c.loop-rest.rest.now c.is_empty.result c.is_empty.ensures c.loop-rest-test.false)
