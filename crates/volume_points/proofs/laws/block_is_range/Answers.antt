use Rattle.volume_points.proofs.AnswerLemmas.{block_is_range}
use Rattle.volume_points.proofs.laws.block_is_range.Goals as goal

pub returns : goal.returns
returns c = block_is_range
