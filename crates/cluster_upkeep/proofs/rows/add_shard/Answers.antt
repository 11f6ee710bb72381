use Rattle.std.proofs.Common.{◌≡◌, ◌++◌, map, take, sym, ap, subst, ◌∙◌}
use Rattle.std.proofs.lemmas.List.{append-nil, take_all}
use Rattle.node_calls.specs.session_net.Writes.{AreMembers}
use Rattle.cluster_upkeep.specs.Rows.{row_at}
use Rattle.cluster_upkeep.proofs.RowLemmas.{shard_pushed}
use Rattle.cluster_upkeep.proofs.rows.add_shard.Goals as goal

pub loop-member-init : goal.loop-member-init
loop-member-init c = sym (append-nil (c.args.rows.now).items)

pub loop-member-preserved : goal.loop-member-preserved
loop-member-preserved c =
    shard_pushed c.args.shard (c.args.rows.now).items c.as_slice-listed.result.now c.loop-member.member-index _ c.loop-member.rows.items c.push.new.self.items c.loop-member-test.true c.loop-member.invariant c.in_ok-push.ensures.items

pub returns : goal.returns
returns c = record {
  members = c.as_slice-listed.result.now;
  are = subst (AreMembers c.args.place.now c.args.shard) (sym c.as_slice-listed.ensures) (record { same = c.in_ok-members.ensures.same; by_name = c.in_ok-members.ensures.by_name });
  rows_are = c.loop-member.invariant ∙ ap (λ ms. (c.args.rows.now).items ++ map (row_at c.args.shard) ms) (take_all c.loop-member.member-index c.as_slice-listed.result.now c.loop-member-test.false);
}
