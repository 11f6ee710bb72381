use Rattle.block_cache.proofs.BlockLemmas.{got_before, forgotten_before, put_before}
use Rattle.block_cache.proofs.laws.only_what_was_put.Goals as goal

pub returns : goal.returns
returns c p key rows b all = (got_before p key b all, forgotten_before p key b all, put_before p key rows b all)
