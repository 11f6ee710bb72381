use Rattle.std.proofs.Common.{arith, sym, ◌∙◌}
use Rattle.m3_json.specs.Rows.{init_of}
use Rattle.line_lists.proofs.NodeLimits.{nodes_at-AreNodes}
use Rattle.m3_json.proofs.init.init_of.Goals as goal

pub returns-clause-gives : goal.returns-clause-gives
unfolding init_of
returns-clause-gives c =
    simp (sym c.has_only.ensures ∙ c.if-not-has_only.false, c.in_ok-rf.ensures.gives, c.in_ok-shards.ensures.gives, c.in_ok-seed.ensures.gives, c.in_ok-nodes.ensures)

pub returns-clause-within : goal.returns-clause-within
returns-clause-within c =
    let nodes = nodes_at-AreNodes _ _ c.in_ok-nodes.nodes c.in_ok-nodes.ensures in
    record {
      some_replicas = c.in_ok-rf.ensures.least;
      few_replicas = omega (arith, c.in_ok-rf.ensures.below);
      some_shards = c.in_ok-shards.ensures.least;
      few_shards = omega (arith, c.in_ok-shards.ensures.below);
      seed_fits = c.in_ok-seed.ensures.below;
      some_nodes = nodes.some;
      few_nodes = nodes.few;
      named = nodes.named;
      distinct = nodes.distinct;
    }
