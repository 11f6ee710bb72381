use Rattle.m3_model.specs.Reads.{points_in}
use Rattle.series_merge.proofs.OrderLemmas.{content_in, ordered_has}
use Rattle.series_merge.proofs.laws.stands_for_its_points.Goals as goal

pub returns : goal.returns
returns c ns series h p = (content_in (points_in ns series) p, ordered_has ns series p h)
