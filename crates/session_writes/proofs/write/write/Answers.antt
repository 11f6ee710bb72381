use Rattle.std.proofs.Common.{rules, refl}
use Rattle.session_net.proofs.ReadyLemmas.{clock_there}
use Rattle.session_writes.proofs.LeftLemmas.{left, left_ready, left_callable, left_bounded}
use Rattle.session_writes.proofs.ShardLemmas.{GoesTo, goes_to, has_shard, are_counted, members_differ, member_there}
use Rattle.session_writes.proofs.WriteLemmas.{same_net, putting, wanted, acknowledged, refused}
use Rattle.session_writes.proofs.write.write.Goals as goal

pub send_all-requires-clause-clock : goal.send_all-requires-clause-clock
send_all-requires-clause-clock g c = clock_there (c.args.net.now).replicas.events (c.args.net.now).state.rules c.requires.ready.clock

pub send_all-requires-clause-shard : goal.send_all-requires-clause-shard
send_all-requires-clause-shard g c =
    has_shard c.args.net.now c.requires.ready c.args.point.now c.in_ok-to.to.shard c.as_slice.result.now
    (goes_to (c.args.net.now).state c.args.point.now c.in_ok-to.to.shard c.in_ok-to.to.members c.as_slice.result.now c.in_ok-to.ensures.shard c.in_ok-to.ensures.members c.as_slice.ensures)

pub send_all-requires-clause-counted : goal.send_all-requires-clause-counted
send_all-requires-clause-counted g c =
    are_counted c.args.net.now c.requires.ready c.args.point.now c.in_ok-to.to.shard c.as_slice.result.now
    (goes_to (c.args.net.now).state c.args.point.now c.in_ok-to.to.shard c.in_ok-to.to.members c.as_slice.result.now c.in_ok-to.ensures.shard c.in_ok-to.ensures.members c.as_slice.ensures)

pub send_all-requires-clause-differ : goal.send_all-requires-clause-differ
send_all-requires-clause-differ g c =
    members_differ c.args.net.now c.requires.ready c.args.point.now c.in_ok-to.to.shard c.as_slice.result.now
    (goes_to (c.args.net.now).state c.args.point.now c.in_ok-to.to.shard c.in_ok-to.to.members c.as_slice.result.now c.in_ok-to.ensures.shard c.in_ok-to.ensures.members c.as_slice.ensures)

pub send_all-requires-clause-there : goal.send_all-requires-clause-there
send_all-requires-clause-there g c =
    member_there c.args.net.now c.requires.ready c.args.point.now c.in_ok-to.to.shard c.as_slice.result.now
    (goes_to (c.args.net.now).state c.args.point.now c.in_ok-to.to.shard c.in_ok-to.to.members c.as_slice.result.now c.in_ok-to.ensures.shard c.in_ok-to.ensures.members c.as_slice.ensures)

pub invariant_of-net-2 : goal.invariant_of-net-2
invariant_of-net-2 g c =
    let net = c.args.net.now in
    let p = c.args.point.now in
    let s = c.in_ok-to.to.shard in
    let members = c.as_slice.result.now in
    record {
      some_shards = net.some_shards;
      few_shards = net.few_shards;
      bounded_late = left_bounded g.D.Disk.state net.fates (putting net c.args.id p s) members net.replicas c.send_all.new.replicas net.bag c.send_all.new.bag c.requires.bounded net.bounded_late
          (left g.D.Disk.state net.fates (putting net c.args.id p s) members net.replicas c.send_all.new.replicas net.bag c.send_all.new.bag c.needed_write-needed.result c.send_all.result c.send_all.ensures.ok c.send_all.ensures.err);
    }

pub returns-clause-ready : goal.returns-clause-ready
returns-clause-ready g c =
    let net = c.args.net.now in
    let p = c.args.point.now in
    let s = c.in_ok-to.to.shard in
    let members = c.as_slice.result.now in
    let to : GoesTo net.state p s members = goes_to net.state p s c.in_ok-to.to.members members c.in_ok-to.ensures.shard c.in_ok-to.ensures.members c.as_slice.ensures in
    left_ready g.D.Disk.state net.fates (putting net c.args.id p s) members net.replicas c.send_all.new.replicas net.bag c.send_all.new.bag (member_there net c.requires.ready p s members to)
    (left g.D.Disk.state net.fates (putting net c.args.id p s) members net.replicas c.send_all.new.replicas net.bag c.send_all.new.bag c.needed_write-needed.result c.send_all.result c.send_all.ensures.ok c.send_all.ensures.err)

pub returns-clause-callable : goal.returns-clause-callable
returns-clause-callable g c =
    let net = c.args.net.now in
    let p = c.args.point.now in
    let s = c.in_ok-to.to.shard in
    let members = c.as_slice.result.now in
    let to : GoesTo net.state p s members = goes_to net.state p s c.in_ok-to.to.members members c.in_ok-to.ensures.shard c.in_ok-to.ensures.members c.as_slice.ensures in
    left_callable g.D.Disk.state net.fates (putting net c.args.id p s) members net.replicas c.send_all.new.replicas net.bag c.send_all.new.bag (member_there net c.requires.ready p s members to)
    (left g.D.Disk.state net.fates (putting net c.args.id p s) members net.replicas c.send_all.new.replicas net.bag c.send_all.new.bag c.needed_write-needed.result c.send_all.result c.send_all.ensures.ok c.send_all.ensures.err)

pub returns-clause-ok : goal.returns-clause-ok
returns-clause-ok g c =
    acknowledged g.D.Disk.state c.args.net.now _ c.args.id c.args.point.now c.args.level c.in_ok-to.to.shard c.as_slice.result.now c.needed_write-needed.result
    (goes_to (c.args.net.now).state c.args.point.now c.in_ok-to.to.shard c.in_ok-to.to.members c.as_slice.result.now c.in_ok-to.ensures.shard c.in_ok-to.ensures.members c.as_slice.ensures)
    c.needed_write-needed.ensures c.send_all.result c.send_all.ensures.ok

pub returns-clause-err : goal.returns-clause-err
returns-clause-err g c =
    refused g.D.Disk.state c.args.net.now _ c.args.id c.args.point.now c.args.level c.in_ok-to.to.shard c.as_slice.result.now c.needed_write-needed.result
    (goes_to (c.args.net.now).state c.args.point.now c.in_ok-to.to.shard c.in_ok-to.to.members c.as_slice.result.now c.in_ok-to.ensures.shard c.in_ok-to.ensures.members c.as_slice.ensures)
    c.needed_write-needed.ensures refl refl c.send_all.result c.send_all.ensures.err

pub returns-in_err-to-clause-err : goal.returns-in_err-to-clause-err
returns-in_err-to-clause-err g c = wanted g.D.Disk.state c.args.net.now _ c.args.id c.args.point.now c.args.level c.from_residual.result (search rules) (same_net _ c.args.net.now refl refl refl refl)

pub returns-then-not-has_room-clause-err : goal.returns-then-not-has_room-clause-err
returns-then-not-has_room-clause-err g c = (
  same_net _ c.args.net.now refl refl refl refl,
  (
    c.in_ok-to.to.members,
    (goes_to (c.args.net.now).state c.args.point.now c.in_ok-to.to.shard c.in_ok-to.to.members c.in_ok-to.to.members c.in_ok-to.ensures.shard c.in_ok-to.ensures.members refl).here,
    search rules,
  ),
)
