use Rattle.block_buffer.proofs.LawLemmas.{all_matched}
use Rattle.block_buffer.proofs.laws.names_all_matched.Goals as goal

pub returns : goal.returns
returns c = all_matched
