use Rattle.series_merge.proofs.RunLemmas.{merge_of_same}
use Rattle.series_merge.proofs.merging.kept.Goals as goal

pub returns : goal.returns
returns c = merge_of_same c.args.one c.args.other c.requires.same c.requires.one
