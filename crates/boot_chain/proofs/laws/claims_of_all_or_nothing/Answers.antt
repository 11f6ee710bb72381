use Rattle.boot_chain.proofs.PartLemmas.{left_of-all, left_of-none}
use Rattle.boot_chain.proofs.laws.claims_of_all_or_nothing.Goals as goal

pub returns : goal.returns
returns c asked = (left_of-all asked, left_of-none asked)
