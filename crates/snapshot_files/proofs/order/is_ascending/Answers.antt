use Rattle.std.proofs.Common.{refl, subst, arith}
use Rattle.std.proofs.lemmas.List.{take_all}
use Rattle.fileset_check.specs.m3_model.Ascends.{Ascends}
use Rattle.snapshot_files.specs.Snaps.{IsBefore}
use Rattle.snapshot_files.proofs.OrderLemmas.{next_ascends, next_above, one_ascends, before_through}
use Rattle.snapshot_files.proofs.order.is_ascending.Goals as goal

pub loop-i-init : goal.loop-i-init
loop-i-init c = record { some = omega arith; up = one_ascends IsBefore c.args.points.now }

pub returns-then-not-is_before : goal.returns-then-not-is_before
returns-then-not-is_before c = (
  (λ t. absurd (cc)),
  (λ up.
      let below = next_above IsBefore c.args.points.now c.loop-i.i c.index-points-i.result c.index-points-i-in-loop-i.result c.loop-i.invariant.some c.loop-i-test.true c.index-points-i.is c.index-points-i-in-loop-i.is up in
      let yes = c.is_before.ensures.1 below in
      let no = c.if-not-is_before.true in
      absurd (cc)),
)

pub loop-i-preserved : goal.loop-i-preserved
loop-i-preserved c = record {
  some = omega arith;
  up = next_ascends IsBefore c.args.points.now c.loop-i.i c.index-points-i.result c.index-points-i-in-loop-i.result c.loop-i.invariant.some c.loop-i-test.true c.index-points-i.is c.index-points-i-in-loop-i.is before_through c.loop-i.invariant.up
      (c.is_before.ensures.0 c.if-not-is_before.false);
}

pub returns : goal.returns
returns c = ((λ t. subst (Ascends IsBefore) (take_all c.loop-i.i c.args.points.now c.loop-i-test.false) c.loop-i.invariant.up), (λ up. refl))
