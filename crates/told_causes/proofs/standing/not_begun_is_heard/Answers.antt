use Rattle.told_causes.proofs.SampleLemmas.{boot_is_heard}
use Rattle.told_causes.proofs.standing.not_begun_is_heard.Goals as goal

pub returns : goal.returns
returns c = boot_is_heard
