use Rattle.std.proofs.Common.{◌≡◌, suc, ◌<◌, [], length, sym, ap, ◌∙◌, subst, arith}
use Rattle.std.specs.Prelude.{◌&&◌}
use Rattle.m3_model.specs.Contents.{content_of}
use Rattle.m3_model.specs.Reads.{points_in, space_picked}
use Rattle.series_merge.proofs.OrderLemmas.{merge_joins}
use Rattle.session_net.specs.Reads.{count_from, asked_shards, IsUnfound}
use Rattle.session_net.specs.declared.session_err.SessionErr.TheVariants as err
use Rattle.session_reads.specs.Gathering.{wish_of, IsGathered}
use Rattle.session_reads.proofs.AskLemmas.{ordered_none}
use Rattle.session_reads.proofs.FetchLemmas.{left_reads, callable_left}
use Rattle.session_reads.proofs.GatherLemmas.{SoFar, count_in, count_more, count_rest, gap, so_far_none, so_far_more, stopped_past, unread, gathered_all, shard_ordered, nothing_there}
use Rattle.session_reads.proofs.ShardLemmas.{passed_on}
use Rattle.session_reads.proofs.gather.gather_all.Goals as goal

pub loop-shard-init : goal.loop-shard-init
loop-shard-init g c =
    record {
      so_far = so_far_none g.D.Disk.state c.args.state.now c.args.fates.now c.args.asking.now.id (wish_of c.args.pick.now c.args.asking.now) c.args.asking.now.quorum.needed c.args.asking.now.quorum.majority c.args.replicas.now
          (content_of (points_in (space_picked c.args.pick.now) c.new-joined.result)) (nothing_there (space_picked c.args.pick.now) c.new-joined.result c.new-joined.ensures);
      ordered = ordered_none c.new-joined.result c.new-joined.ensures;
    }

pub ask_shard-requires-clause-ready : goal.ask_shard-requires-clause-ready
ask_shard-requires-clause-ready g c =
    let state = c.args.state.now in
    let was = c.loop-shard.invariant.so_far in
    callable_left g.D.Disk.state state c.args.replicas.now c.loop-shard.replicas [] c.requires.ready
    (left_reads state c.args.fates.now c.args.asking.now.id (wish_of c.args.pick.now c.args.asking.now) c.args.asking.now.quorum.needed g.D.Disk.state c.args.replicas.now c.loop-shard.replicas (count_from 0 c.loop-shard.shard) was.reads was.events was.are was.ran)

pub returns-in_err-gave-clause-err : goal.returns-in_err-gave-clause-err
returns-in_err-gave-clause-err g c =
    let state = c.args.state.now in
    let i = c.loop-shard.shard in
    let n = length state.place.shards in
    let below : i < n = omega arith in
    let w = wish_of c.args.pick.now c.args.asking.now in
    passed_on c.from_residual.result c.in_err-gave.field-0.0 (IsUnfound g.D.Disk.state state c.args.fates.now c.args.asking.now.id w c.args.asking.now.quorum.needed c.args.replicas.now c.ask_shard.new.replicas) c.from_residual.ensures.1
    (unread g.D.Disk.state state c.args.fates.now c.args.asking.now.id w c.args.asking.now.quorum.needed c.args.asking.now.quorum.majority c.args.replicas.now c.loop-shard.replicas c.ask_shard.new.replicas (count_from 0 i) (count_from (suc i) (gap i n)) c.loop-shard.whole
    (content_of (points_in (space_picked c.args.pick.now) c.loop-shard.joined)) i c.in_err-gave.field-0.0 (ap (asked_shards state) c.requires.all.1 ∙ count_rest i n below) c.loop-shard.invariant.so_far c.in_err-gave.ensures.err)

pub join_answer-requires-clause-answer : goal.join_answer-requires-clause-answer
join_answer-requires-clause-answer g c =
    let w = wish_of c.args.pick.now c.args.asking.now in
    shard_ordered g.D.Disk.state c.args.state.now c.args.fates.now c.args.asking.now.id w c.args.asking.now.quorum.needed c.args.asking.now.quorum.majority c.args.replicas.now c.loop-shard.replicas c.ask_shard.new.replicas c.loop-shard.shard c.in_ok-gave.gave.series c.in_ok-gave.gave.whole
    c.in_ok-gave.ensures.ok

pub returns-in_err-join_answer-clause-err : goal.returns-in_err-join_answer-clause-err
returns-in_err-join_answer-clause-err g c =
    let state = c.args.state.now in
    let i = c.loop-shard.shard in
    let n = length state.place.shards in
    let below : i < n = omega arith in
    let w = wish_of c.args.pick.now c.args.asking.now in
    passed_on c.from_residual-in_err-join_answer.result err.Memory (IsUnfound g.D.Disk.state state c.args.fates.now c.args.asking.now.id w c.args.asking.now.quorum.needed c.args.replicas.now c.ask_shard.new.replicas) c.from_residual-in_err-join_answer.ensures.1
    (stopped_past g.D.Disk.state state c.args.fates.now c.args.asking.now.id w c.args.asking.now.quorum.needed c.args.asking.now.quorum.majority c.args.replicas.now c.loop-shard.replicas c.ask_shard.new.replicas (count_from 0 i) c.loop-shard.whole c.in_ok-gave.gave.whole
    (content_of (points_in (space_picked c.args.pick.now) c.loop-shard.joined)) i c.in_ok-gave.gave.series (λ m. let high = (count_in 0 i i m).1 in omega (arith, high)) c.loop-shard.invariant.so_far c.in_ok-gave.ensures.ok (count_from (suc i) (gap i n))
    (ap (asked_shards state) c.requires.all.1 ∙ count_rest i n below))

pub loop-shard-preserved : goal.loop-shard-preserved
loop-shard-preserved g c =
    let state = c.args.state.now in
    let i = c.loop-shard.shard in
    let w = wish_of c.args.pick.now c.args.asking.now in
    let ns = space_picked c.args.pick.now in
    let had = content_of (points_in ns c.loop-shard.joined) in
    let has = content_of (points_in ns c.join_answer.new.into) in
    let merge = c.in_ok-join_answer.ensures in
    record {
      so_far = subst (λ shards. SoFar g.D.Disk.state state c.args.fates.now c.args.asking.now.id w c.args.asking.now.quorum.needed c.args.asking.now.quorum.majority c.args.replicas.now c.ask_shard.new.replicas shards (c.loop-shard.whole && c.in_ok-gave.gave.whole) has)
          (sym (count_more i))
          (so_far_more g.D.Disk.state state c.args.fates.now c.args.asking.now.id w c.args.asking.now.quorum.needed c.args.asking.now.quorum.majority c.args.replicas.now c.loop-shard.replicas c.ask_shard.new.replicas (count_from 0 i) c.loop-shard.whole c.in_ok-gave.gave.whole had i
          c.in_ok-gave.gave.series (λ m. let high = (count_in 0 i i m).1 in omega (arith, high)) c.loop-shard.invariant.so_far c.in_ok-gave.ensures.ok has (merge_joins ns c.loop-shard.joined c.in_ok-gave.gave.series c.join_answer.new.into merge));
      ordered = merge.ordered;
    }

pub returns-clause-ok : goal.returns-clause-ok
returns-clause-ok g c =
    let state = c.args.state.now in
    let i = c.loop-shard.shard in
    let all : length state.place.shards ≡ i = omega arith in
    let w = wish_of c.args.pick.now c.args.asking.now in
    subst (λ shards. IsGathered g.D.Disk.state state c.args.fates.now c.args.asking.now.id w c.args.asking.now.quorum.needed c.args.asking.now.quorum.majority shards c.loop-shard.joined c.loop-shard.whole c.args.replicas.now c.loop-shard.replicas)
    (sym (ap (asked_shards state) c.requires.all.1 ∙ ap (count_from 0) all))
    (gathered_all g.D.Disk.state state c.args.fates.now c.args.asking.now.id w c.args.asking.now.quorum.needed c.args.asking.now.quorum.majority c.args.replicas.now c.loop-shard.replicas (count_from 0 i) c.loop-shard.whole c.loop-shard.joined c.loop-shard.invariant.so_far c.loop-shard.invariant.ordered)
