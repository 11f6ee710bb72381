use Rattle.series_id.proofs.Excluded.{same_tags_of}
use Rattle.series_id.proofs.laws.tags_are_one.Goals as goal

pub returns : goal.returns
returns c = λ id tags others h g. same_tags_of id tags others h g
