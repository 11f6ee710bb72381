use Rattle.load_gen.proofs.LimitLemmas.{script_keeps}
use Rattle.load_gen.proofs.laws.keeps_limits.Goals as goal

pub returns : goal.returns
returns c = script_keeps
