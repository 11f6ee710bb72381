use Rattle.load_gen.proofs.LengthLemmas.{length-script}
use Rattle.load_gen.proofs.laws.has_all_lines.Goals as goal

pub returns : goal.returns
returns c = length-script
