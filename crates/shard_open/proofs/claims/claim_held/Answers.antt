use Rattle.std.proofs.lemmas.Result.{IfOk-weaker}
use Rattle.shard_open.proofs.ClaimLemmas.{held_claims}
use Rattle.shard_open.proofs.claims.claim_held.Goals as goal

pub returns : goal.returns
returns c = IfOk-weaker c.run_chain.result _ _ (λ claims h. held_claims c.args.asked c.args.blocks claims c.requires h.files.1 h.log.1 h.peers.1 h.fresh.1 h.left) c.run_chain.ensures.claimed
