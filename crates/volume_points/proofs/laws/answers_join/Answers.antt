use Rattle.volume_points.proofs.AnswerLemmas.{answers_join}
use Rattle.volume_points.proofs.laws.answers_join.Goals as goal

pub returns : goal.returns
returns c = answers_join
