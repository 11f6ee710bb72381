use Rattle.std.proofs.Common.{List, sym, subst, ◌∙◌}
use Rattle.boot_chain.specs.Ranges.{IsSublist}
use Rattle.boot_chain.specs.declared.range.Range.{Range}
use Rattle.shard_open.proofs.ClaimLemmas.{asked_in_order}
use Rattle.shard_open.proofs.claims.BlockClaimantBootstrapper.claim.Goals as goal

pub returns-clause-some_of_it : goal.returns-clause-some_of_it
returns-clause-some_of_it c =
    subst (λ (xs : List Range). IsSublist c.from_vec.result xs) c.as_slice.ensures
    (subst (λ (xs : List Range). IsSublist xs c.as_slice.result.now) (sym (c.from_vec.ensures ∙ c.in_ok-claimed.ensures)) (asked_in_order c.as_slice.result.now c.as_slice-2.result.now))
