use Rattle.m3_json.proofs.Meanings.{one_meaning}
use Rattle.m3_json.proofs.laws.one_meaning.Goals as goal

pub returns : goal.returns
returns c = one_meaning
