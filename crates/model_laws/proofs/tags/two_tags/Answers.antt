use Rattle.model_laws.proofs.TagLemmas.{two_tags_lem}
use Rattle.model_laws.proofs.tags.two_tags.Goals as goal

pub returns : goal.returns
returns c = two_tags_lem
