use Rattle.std.proofs.Common.{List, sym, subst, ◌∙◌}
use Rattle.boot_chain.specs.Ranges.{IsSublist}
use Rattle.boot_chain.specs.declared.range.Range.{Range}
use Rattle.shard_open.specs.Claims.{counted_blocks}
use Rattle.shard_open.proofs.ClaimLemmas.{blocks_are_asked_for}
use Rattle.shard_open.proofs.claims.claim_by_tenure.Goals as goal

pub claim_held-requires : goal.claim_held-requires
claim_held-requires c =
    subst (λ (xs : List Range). IsSublist xs c.from_vec-asked.result) (sym (c.from_vec.ensures ∙ c.in_ok-asked.ensures.blocks))
    (subst (λ (xs : List Range). IsSublist (counted_blocks c.args.volumes.now) xs) (sym (c.from_vec-asked.ensures ∙ c.in_ok-asked.ensures.asked)) (blocks_are_asked_for c.args.volumes.now))
