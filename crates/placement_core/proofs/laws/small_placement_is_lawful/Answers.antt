use Rattle.placement_core.proofs.ExampleLemmas.{example_lawful}
use Rattle.placement_core.proofs.laws.small_placement_is_lawful.Goals as goal

pub returns : goal.returns
returns c = example_lawful
