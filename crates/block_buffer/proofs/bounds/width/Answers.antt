use Rattle.std.proofs.Common.{suc, rules, arith}
use Rattle.block_buffer.proofs.TreeLemmas.{next_power, spanned, halves}
use Rattle.block_buffer.proofs.bounds.width.Goals as goal

pub loop-node-preserved : goal.loop-node-preserved
loop-node-preserved c =
    let was = c.loop-node.invariant in
    let even = c.loop-node-test.true in
    let next = next_power was.level in
    let wide = was.wide in
    let some = was.some in
    let least = was.least in
    let up = was.up in
    record {
      level = suc was.level;
      wide = omega (arith, next, wide);
      first = halves c.loop-node.node c.loop-node.width c.args.leaf even was.first;
      some = omega (arith, some, even);
      least = omega (arith, least);
      up = omega (arith, up);
      above = search rules;
    }

pub returns-else-high-nodes-clause-above : goal.returns-else-high-nodes-clause-above
returns-else-high-nodes-clause-above c =
    let was = c.loop-node.invariant in
    spanned c.args.nodes.now c.args.leaf c.loop-node.node c.loop-node.width was.level c.args.high c.requires.tree was.wide was.first was.some was.above

pub returns-after-loop-node-clause-above : goal.returns-after-loop-node-clause-above
returns-after-loop-node-clause-above c =
    let was = c.loop-node.invariant in
    spanned c.args.nodes.now c.args.leaf c.loop-node.node c.loop-node.width was.level c.args.high c.requires.tree was.wide was.first was.some was.above
