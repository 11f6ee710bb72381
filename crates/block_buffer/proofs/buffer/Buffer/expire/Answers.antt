use Rattle.std.proofs.Common.{◌∙◌, arith}
use Rattle.std.specs.FinMap as finite
use Rattle.block_buffer.specs.Held.{has_expired}
use Rattle.block_buffer.proofs.TakenLemmas.{counted_more, held_of, kept_taken, none_kept, one_fewer, fewer_points}
use Rattle.block_buffer.proofs.buffer.Buffer.expire.Goals as goal

pub loop-taken-smaller : goal.loop-taken-smaller
loop-taken-smaller c = fewer_points c.loop-taken.self.points c.take_expired.new.self.points _ c.in-Some.taken c.in-Some.ensures.taken

pub loop-taken-preserved : goal.loop-taken-preserved
loop-taken-preserved c =
    let before = c.loop-taken.self.points in
    let after = c.take_expired.new.self.points in
    let one = one_fewer before after _ c.in-Some.taken c.in-Some.ensures.taken in
    let low = c.loop-taken.invariant.fewer in
    record {
      kept = kept_taken before after c.args.self.now.points (has_expired c.args.rules.now) c.in-Some.taken c.in-Some.ensures.taken c.loop-taken.invariant.kept;
      fewer = omega (arith, one, low);
      counted = c.saturating_add-count.ensures ∙ counted_more c.loop-taken.count (finite.len c.args.self.now.points) (finite.len before) (finite.len after) one low c.loop-taken.invariant.counted;
    }

pub returns-clause-taken : goal.returns-clause-taken
returns-clause-taken c =
    held_of c.take_expired.new.self _ (none_kept c.loop-taken.self.points c.take_expired.new.self.points c.args.self.now.points (has_expired c.args.rules.now) (c.take_expired.ensures.same c.in_default.is) (c.take_expired.ensures.none c.in_default.is) c.loop-taken.invariant.kept)
    c.take_expired.ensures.room
