use Rattle.std.proofs.Common.{◌≡◌, true, arith}
use Rattle.m3_model.specs.declared.point.Key.{Key}
use Rattle.block_buffer.specs.Held.{has_expired}
use Rattle.held_points.proofs.ForgetLemmas.{kept_one, one_fewer, no_room_left, ended}
use Rattle.held_points.proofs.held.HeldPoints.expire.Goals as goal

pub loop-smaller : goal.loop-smaller
loop-smaller c =
    let one = one_fewer c.loop.self c.take_expired.new.self (λ (k : Key). has_expired c.args.rules.now k ≡ true) (c.take_expired.ensures.taken c.loop-test.true) in
    omega (arith, one)

pub loop-preserved : goal.loop-preserved
loop-preserved c =
    let taken = c.take_expired.ensures.taken c.loop-test.true in
    let one = one_fewer c.loop.self c.take_expired.new.self (λ (k : Key). has_expired c.args.rules.now k ≡ true) taken in
    let low = c.loop.invariant.fewer in
    record {
      before = c.loop.invariant.before;
      room = no_room_left c.loop.self c.take_expired.new.self _ taken;
      kept = kept_one c.loop.self c.take_expired.new.self c.args.self.now.points (has_expired c.args.rules.now) taken c.loop.invariant.kept;
      fewer = omega (arith, one, low);
    }

pub returns-clause-taken : goal.returns-clause-taken
returns-clause-taken c =
    let none = c.take_expired.ensures.none c.loop-test.false in
    ended c.loop.self c.take_expired.new.self c.args.self.now.points (has_expired c.args.rules.now) none.0 none.1 c.loop.invariant.room c.loop.invariant.kept
