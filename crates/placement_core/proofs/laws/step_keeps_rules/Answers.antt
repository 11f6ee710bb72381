use Rattle.placement_core.proofs.LawLemmas.{keeps_shards, keeps_lawful}
use Rattle.placement_core.proofs.laws.step_keeps_rules.Goals as goal

pub returns : goal.returns
returns c = record { shards = keeps_shards; lawful = keeps_lawful }
