use Rattle.std.proofs.Common.{◌≡◌, ◌+◌, ◌-◌, ◌<◌, ap, subst, ◌∙◌, true, arith}
use Rattle.m3_model.specs.Contents.{Contents}
use Rattle.block_buffer.specs.Held.{InMemory, is_in_block}
use Rattle.block_buffer.specs.Spots.{IsKeyWithin}
use Rattle.block_buffer.proofs.ContentLemmas.{without_none}
use Rattle.block_buffer.proofs.TakenLemmas.{held_of, weaken_taken, kept_taken, none_kept, fewer_points, block_of_range, range_of_block, none_in_block}
use Rattle.block_buffer.proofs.buffer.Buffer.drop_block.Goals as goal

pub returns-then-size-eq0 : goal.returns-then-size-eq0
returns-then-size-eq0 c =
    c.release.ensures ∙ ap (λ (m : Contents). let held : InMemory = record { points = m; room = _ } in held)
    (without_none c.args.self.now.points (is_in_block c.args.ns c.args.start c.args.size) (λ k v e p. none_in_block c.args.ns c.args.start k (subst (λ n. is_in_block c.args.ns c.args.start n k ≡ true) c.if-size-eq0.true p)))

pub loop-taken-smaller : goal.loop-taken-smaller
loop-taken-smaller c = fewer_points c.loop-taken.self.points c.take_within.new.self.points _ c.in-Some.taken c.in-Some.ensures.taken

pub loop-taken-preserved : goal.loop-taken-preserved
loop-taken-preserved c =
    let some : 0 < c.args.size = omega (arith, c.if-size-eq0.false) in
    kept_taken c.loop-taken.self.points c.take_within.new.self.points c.args.self.now.points (is_in_block c.args.ns c.args.start c.args.size) c.in-Some.taken
    (weaken_taken c.loop-taken.self.points c.take_within.new.self.points (IsKeyWithin c.args.ns c.args.start (c.args.start + (c.args.size - 1))) (λ k. is_in_block c.args.ns c.args.start c.args.size k ≡ true) c.in-Some.taken
    (λ k p. block_of_range c.args.ns c.args.start c.args.size k some p) c.in-Some.ensures.taken) c.loop-taken.invariant

pub returns : goal.returns
returns c =
    let some : 0 < c.args.size = omega (arith, c.if-size-eq0.false) in
    held_of c.take_within.new.self _ (none_kept c.loop-taken.self.points c.take_within.new.self.points c.args.self.now.points (is_in_block c.args.ns c.args.start c.args.size) (c.take_within.ensures.same c.in_default.is)
    (λ k v e p. c.take_within.ensures.none c.in_default.is k v e (range_of_block c.args.ns c.args.start c.args.size k some p)) c.loop-taken.invariant)
    c.take_within.ensures.room
