use Rattle.std.proofs.Common.{inr}
use Rattle.session_net.specs.cluster_core.Earlier.{IsClock}
use Rattle.session_net.specs.Runs.{slot_at}
use Rattle.session_net.specs.declared.session_err.SessionErr.TheVariants as err
use Rattle.session_net.proofs.ReadyLemmas.{any_after, there_after, clock_there}
use Rattle.session_reads.specs.Gathering.{wish_of, IsUnread}
use Rattle.session_reads.proofs.ShardLemmas.{counted_member, has_shard, may_end_so, ended, unended, half_read, passed_on}
use Rattle.session_reads.proofs.shard.read_nodes.Goals as goal

pub start-position-requires-clause-clock : goal.start-position-requires-clause-clock
start-position-requires-clause-clock g c = clock_there (c.args.replicas.now).events c.args.state.now.rules c.requires.ready.clock

pub start-position-requires-clause-shard : goal.start-position-requires-clause-shard
start-position-requires-clause-shard g c = (has_shard c.args.state.now c.args.replicas.now c.args.shard c.requires.ready c.requires.shard)

pub ask_nodes-requires-clause-clock : goal.ask_nodes-requires-clause-clock
ask_nodes-requires-clause-clock g c =
    any_after g.D.Disk.state (IsClock c.args.state.now.rules) c.args.replicas.now c.start-position.new.replicas _ c.start-position.ensures.ran (clock_there (c.args.replicas.now).events c.args.state.now.rules c.requires.ready.clock)

pub ask_nodes-requires-clause-there : goal.ask_nodes-requires-clause-there
ask_nodes-requires-clause-there g c n m =
    there_after g.D.Disk.state c.args.replicas.now c.start-position.new.replicas _ (slot_at n c.args.shard) c.start-position.ensures.ran (c.requires.ready.there n c.args.shard (counted_member c.args.state.now.place c.args.shard c.args.nodes.now c.requires.counted n m))

pub returns-in_err-ask_nodes-clause-err : goal.returns-in_err-ask_nodes-clause-err
returns-in_err-ask_nodes-clause-err g c =
    let asking = c.args.asking.now in
    let state = c.args.state.now in
    let w = wish_of c.args.pick.now asking in
    let asked = c.in_err-ask_nodes.ensures.err in
    passed_on c.from_residual.result err.Memory (IsUnread g.D.Disk.state state c.args.fates.now asking.id w c.args.shard c.args.asking.now.quorum.needed c.args.replicas.now c.ask_nodes.new.replicas) c.from_residual.ensures.1
    (inr (half_read g.D.Disk.state state c.args.fates.now asking.id w c.args.shard asked.0 c.args.nodes.now c.args.replicas.now c.start-position.new.replicas c.ask_nodes.new.replicas asked.1 c.requires.counted
    c.start-position.ensures.ran
    asked.2))

pub settle-requires-clause-ends : goal.settle-requires-clause-ends
settle-requires-clause-ends g c =
    let asking = c.args.asking.now in
    let state = c.args.state.now in
    let w = wish_of c.args.pick.now asking in
    let asked = c.in_ok-ask_nodes.ensures.ok in
    may_end_so g.D.Disk.state state c.args.fates.now asking.id w c.args.shard c.args.nodes.now c.args.replicas.now c.start-position.new.replicas c.ask_nodes.new.replicas asked.0 c.requires.ready c.requires.shard c.requires.counted
    c.start-position.ensures.ran
    asked.1
    asked.6 c.ask_nodes.new.into asked.5 asked.4 c.ask_nodes.new.tally.answered.items c.ask_nodes.new.tally.reasons.items asked.2 asked.3 c.start-position.result c.start-position.ensures.position

pub returns-clause-ok : goal.returns-clause-ok
returns-clause-ok g c =
    let asking = c.args.asking.now in
    let state = c.args.state.now in
    let w = wish_of c.args.pick.now asking in
    let asked = c.in_ok-ask_nodes.ensures.ok in
    ended g.D.Disk.state state c.args.fates.now asking.id w c.args.shard c.args.nodes.now c.args.replicas.now c.start-position.new.replicas c.ask_nodes.new.replicas asked.0 c.requires.ready c.requires.shard c.requires.counted
    c.start-position.ensures.ran
    asked.1
    asked.6 c.ask_nodes.new.into asked.5 asked.4 c.ask_nodes.new.tally.answered.items c.ask_nodes.new.tally.reasons.items asked.2 asked.3 c.start-position.result c.start-position.ensures.position
    c.settle.new.replicas c.args.asking.now.quorum.needed c.args.asking.now.quorum.majority c.settle.result c.settle.ensures.ok

pub returns-clause-err : goal.returns-clause-err
returns-clause-err g c =
    let asking = c.args.asking.now in
    let state = c.args.state.now in
    let w = wish_of c.args.pick.now asking in
    let asked = c.in_ok-ask_nodes.ensures.ok in
    unended g.D.Disk.state state c.args.fates.now asking.id w c.args.shard c.args.nodes.now c.args.replicas.now c.start-position.new.replicas c.ask_nodes.new.replicas asked.0 c.requires.ready c.requires.shard c.requires.counted
    c.start-position.ensures.ran
    asked.1
    asked.6 c.ask_nodes.new.into asked.5 asked.4 c.ask_nodes.new.tally.answered.items c.ask_nodes.new.tally.reasons.items asked.2 asked.3 c.start-position.result c.start-position.ensures.position
    c.settle.new.replicas c.args.asking.now.quorum.needed c.args.asking.now.quorum.majority c.settle.result c.settle.ensures.err
