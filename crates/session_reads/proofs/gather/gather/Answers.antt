use Rattle.std.proofs.Common.{ℕ, List, ◌∷◌, [], length, sym, ap, ◌∙◌}
use Rattle.m3_model.specs.Hash.{shard_of}
use Rattle.session_net.specs.Reads.{asked_shards}
use Rattle.session_reads.specs.Gathering.{wish_of}
use Rattle.session_reads.proofs.GatherLemmas.{gathered_if, unread_if}
use Rattle.session_reads.proofs.gather.gather.Goals as goal

pub returns-in-One-clause-ok : goal.returns-in-One-clause-ok
returns-in-One-clause-ok g c =
    let state = c.args.state.now in
    gathered_if g.D.Disk.state state c.args.fates.now c.args.asking.now.id (wish_of c.args.pick.now c.args.asking.now) c.args.asking.now.quorum.needed c.args.asking.now.quorum.majority c.args.replicas.now c.ask_shard.new.replicas c.shard_of-shard.result
    (ap (asked_shards state) c.in-One.is ∙ ap (λ (x : List ℕ). shard_of x state.seed (length state.place.shards) ∷ []) (sym c.as_str.ensures) ∙ ap (λ n. shard_of c.as_str.result.now state.seed n ∷ []) (sym c.len-shards.ensures) ∙ ap (λ k. k ∷ []) (sym c.shard_of-shard.ensures)) c.ask_shard.result c.ask_shard.ensures.ok

pub returns-in-One-clause-err : goal.returns-in-One-clause-err
returns-in-One-clause-err g c =
    let state = c.args.state.now in
    unread_if g.D.Disk.state state c.args.fates.now c.args.asking.now.id (wish_of c.args.pick.now c.args.asking.now) c.args.asking.now.quorum.needed c.args.asking.now.quorum.majority c.args.replicas.now c.ask_shard.new.replicas c.shard_of-shard.result
    (ap (asked_shards state) c.in-One.is ∙ ap (λ (x : List ℕ). shard_of x state.seed (length state.place.shards) ∷ []) (sym c.as_str.ensures) ∙ ap (λ n. shard_of c.as_str.result.now state.seed n ∷ []) (sym c.len-shards.ensures) ∙ ap (λ k. k ∷ []) (sym c.shard_of-shard.ensures)) c.ask_shard.result c.ask_shard.ensures.err
