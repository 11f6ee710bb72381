use Rattle.block_buffer.proofs.LawLemmas.{expires}
use Rattle.block_buffer.proofs.laws.expires_as_rules_say.Goals as goal

pub returns : goal.returns
returns c = expires
