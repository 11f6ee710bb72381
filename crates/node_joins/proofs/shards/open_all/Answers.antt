use Rattle.std.specs.Prelude.{Err, Ok}
use Rattle.std.proofs.Common.{◌+◌, ◌<◌, ◌≤◌, suc, List, length, sym, subst, arith}
use Rattle.m3_model.specs.declared.placement.Placement.{Placement}
use Rattle.session_net.specs.Ready.{Places}
use Rattle.session_net.specs.Runs.{slot_at}
use Rattle.session_net.proofs.ReadyLemmas.{any_after, there_after}
use Rattle.peer_boot.proofs.ResultLemmas.{passed_on}
use Rattle.node_joins.specs.Joined.{JoinedOf}
use Rattle.node_joins.specs.Shards.{AreOpenedBelow, AreTried, opened_events}
use Rattle.node_joins.proofs.ShardLemmas.{opened_end, opened_more, opened_none, shard_grew}
use Rattle.node_joins.proofs.UnownedLemmas.{came_nothing, came_then}
use Rattle.node_joins.proofs.shards.open_all.Goals as goal

pub loop-shard-init : goal.loop-shard-init
loop-shard-init g c =
    let long = c.len.ensures in
    record {
      came = came_nothing g.D.Disk.state c.args.replicas.now;
      opened =
          subst (λ (js : List JoinedOf). AreOpenedBelow g.D.Disk.state c.args.node c.args.asked c.args.place.now 0 js c.args.replicas.now c.args.replicas.now) (sym c.in_ok-joined.ensures.empty)
          (opened_none g.D.Disk.state c.args.node c.args.asked c.args.place.now c.args.replicas.now);
      room = λ n fits. let room = c.in_ok-joined.ensures.room in omega (arith, fits, room, long);
    }

pub open_shard-requires-clause-placed : goal.open_shard-requires-clause-placed
open_shard-requires-clause-placed g c =
    let was = c.loop-shard.invariant.opened in
    any_after g.D.Disk.state (Places c.args.place.now) c.args.replicas.now c.loop-shard.replicas (opened_events was.opened) was.ran c.requires.placed

pub open_shard-requires-clause-there : goal.open_shard-requires-clause-there
open_shard-requires-clause-there g c =
    let was = c.loop-shard.invariant.opened in
    λ n s m. there_after g.D.Disk.state c.args.replicas.now c.loop-shard.replicas (opened_events was.opened) (slot_at n s) was.ran (c.requires.there n s m)

pub keep-requires : goal.keep-requires
keep-requires g c = c.loop-shard.invariant.room 1 (omega arith)

pub loop-shard-preserved : goal.loop-shard-preserved
loop-shard-preserved g c =
    let state = g.D.Disk.state in
    let was = c.loop-shard.invariant in
    let more = shard_grew state c.args.node c.args.asked c.args.place.now c.loop-shard.shard c.loop-shard.replicas c.open_shard.new.replicas (Ok c.in_ok-one.one) c.in_ok-one.ensures.tried in
    record {
      came = came_then state (opened_events was.opened.opened) more.0 c.args.replicas.now c.loop-shard.replicas c.open_shard.new.replicas was.opened.ran more.1 was.came c.open_shard.ensures.unowned;
      opened =
          subst (λ (js : List JoinedOf). AreOpenedBelow state c.args.node c.args.asked c.args.place.now (c.loop-shard.shard + 1) js c.args.replicas.now c.open_shard.new.replicas) (sym c.keep.ensures.items)
          (opened_more state c.args.node c.args.asked c.args.place.now c.loop-shard.shard c.loop-shard.joined.items c.args.replicas.now c.loop-shard.replicas c.open_shard.new.replicas c.in_ok-one.one was.opened c.in_ok-one.ensures.tried);
      room = λ n fits. c.keep.ensures.room n (was.room (suc n) (omega (arith, fits)));
    }

pub returns-in_err-one-clause-tried : goal.returns-in_err-one-clause-tried
returns-in_err-one-clause-tried g c =
    let state = g.D.Disk.state in
    let place = c.args.place.now in
    let old = c.args.replicas.now in
    let new = c.open_shard.new.replicas in
    let e = c.in_err-one.field-0.0 in
    passed_on c.from_residual-in_err-one.result e (AreTried state c.args.node c.args.asked place old new) c.from_residual-in_err-one.ensures.1
    (opened_end state c.args.node c.args.asked place c.loop-shard.shard c.loop-shard.joined.items old c.loop-shard.replicas new e (omega arith) c.loop-shard.invariant.opened c.in_err-one.ensures.tried)

pub returns-in_err-one-clause-unowned : goal.returns-in_err-one-clause-unowned
returns-in_err-one-clause-unowned g c =
    let state = g.D.Disk.state in
    let was = c.loop-shard.invariant in
    let more = shard_grew state c.args.node c.args.asked c.args.place.now c.loop-shard.shard c.loop-shard.replicas c.open_shard.new.replicas (Err c.in_err-one.field-0.0) c.in_err-one.ensures.tried in
    came_then state (opened_events was.opened.opened) more.0 c.args.replicas.now c.loop-shard.replicas c.open_shard.new.replicas was.opened.ran more.1 was.came c.open_shard.ensures.unowned
