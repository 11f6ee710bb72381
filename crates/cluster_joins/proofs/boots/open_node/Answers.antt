use Rattle.std.proofs.Common.{refl, subst, sym, true, false}
use Rattle.m3_outside.specs.Slots.{Held}
use Rattle.node_calls.proofs.NodeActs.{has_shard, node_is}
use Rattle.node_calls.specs.cluster_members.declared.members.Members.{Members}
use Rattle.node_calls.proofs.cluster_members_proofs.SameMembers.{same_members}
use Rattle.cluster_placements.specs.Steps.{MayChange}
use Rattle.cluster_joins.proofs.boots.open_node.Goals as goal

pub returns-then-index-clause-booting : goal.returns-then-index-clause-booting
returns-then-index-clause-booting g c = (
  node_is c.args.members.now c.args.name c.as_str.result.now c.as_slice-instances.result.now c.in-Some.node true c.index.result.now c.as_str.ensures c.as_slice-instances.ensures c.in-Some.ensures.found c.in-Some.ensures.below c.index.ensures
      c.if-index.true,
  has_shard c.args.members.now c.args.asked c.len-shards.result c.len-shards.ensures c.in_default-missing_shard.ensures.none,
  refl,
  same_members c.args.members.now _ _ _ _ _ _ _,
)

pub open_running-requires-clause-runs : goal.open_running-requires-clause-runs
open_running-requires-clause-runs g c = (
  record {
    runs =
        node_is c.args.members.now c.args.name c.as_str.result.now c.as_slice-instances.result.now c.in-Some.node false c.index.result.now c.as_str.ensures c.as_slice-instances.ensures c.in-Some.ensures.found c.in-Some.ensures.below
        c.index.ensures c.if-index.false;
    has_shard = has_shard c.args.members.now c.args.asked c.len-shards.result c.len-shards.ensures c.in_default-missing_shard.ensures.none;
  },
  refl,
)
