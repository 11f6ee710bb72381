use Rattle.model_laws.proofs.RefusedLives.{with_other_tags-refused}
use Rattle.model_laws.proofs.refused.other_tags_matched.Goals as goal

pub returns : goal.returns
returns c = with_other_tags-refused
