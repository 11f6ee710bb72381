use Rattle.std.proofs.Common.{◌≡◌, ◌+◌, ◌-◌, ◌<◌, true, subst, arith}
use Rattle.m3_model.specs.declared.point.Key.{Key}
use Rattle.block_buffer.specs.Held.{is_in_block}
use Rattle.block_buffer.specs.Spots.{IsKeyWithin}
use Rattle.block_buffer.proofs.ContentLemmas.{without_none}
use Rattle.block_buffer.proofs.TakenLemmas.{block_of_range, range_of_block, none_in_block}
use Rattle.held_points.proofs.ForgetLemmas.{kept_one, one_fewer, no_room_left, weaken_one, ended, no_other}
use Rattle.held_points.proofs.held.HeldPoints.drop_block.Goals as goal

pub returns-then-size-eq0 : goal.returns-then-size-eq0
returns-then-size-eq0 c =
    no_other c.args.self.now _ (without_none c.args.self.now.points (is_in_block c.args.ns c.args.start c.args.size) (λ k v e p. none_in_block c.args.ns c.args.start k (subst (λ n. is_in_block c.args.ns c.args.start n k ≡ true) c.if-size-eq0.true p)))
    c.requires.room

pub loop-smaller : goal.loop-smaller
loop-smaller c =
    let one = one_fewer c.loop.self c.take_within.new.self (IsKeyWithin c.args.ns c.args.start (c.args.start + (c.args.size - 1))) (c.take_within.ensures.taken c.loop-test.true) in
    omega (arith, one)

pub loop-preserved : goal.loop-preserved
loop-preserved c =
    let some : 0 < c.args.size = omega (arith, c.if-size-eq0.false) in
    let taken = c.take_within.ensures.taken c.loop-test.true in
    record {
      room = no_room_left c.loop.self c.take_within.new.self _ taken;
      kept = kept_one c.loop.self c.take_within.new.self c.args.self.now.points (is_in_block c.args.ns c.args.start c.args.size)
          (weaken_one c.loop.self c.take_within.new.self (IsKeyWithin c.args.ns c.args.start (c.args.start + (c.args.size - 1))) (λ (k : Key). is_in_block c.args.ns c.args.start c.args.size k ≡ true)
          (λ k p. block_of_range c.args.ns c.args.start c.args.size k some p) taken) c.loop.invariant.kept;
    }

pub returns : goal.returns
returns c =
    let some : 0 < c.args.size = omega (arith, c.if-size-eq0.false) in
    let none = c.take_within.ensures.none c.loop-test.false in
    ended c.loop.self c.take_within.new.self c.args.self.now.points (is_in_block c.args.ns c.args.start c.args.size) none.0
    (λ k v e p. none.1 k v e (range_of_block c.args.ns c.args.start c.args.size k some p)) c.loop.invariant.room c.loop.invariant.kept
